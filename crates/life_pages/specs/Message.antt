-- The messages of a stream, and a run over them (RFC 9112).
use Rattle.std.specs.Prelude.{◌≡◌, ◌⊎◌, ℕ, ◌<◌, ◌≤◌, ◌==◌, ◌||◌, Bool, true, false, List, [], ◌∷◌, ◌++◌, length, Result}
use Rattle.std.specs.Prelude.{Ok, Err, Some}
use Rattle.std.specs.List.{list_all}
use Rattle.life_core.specs.Ascii.{line_feed, carriage_return}
use Rattle.httparse.specs.Grammar.{RequestHead, IsRequestHead, HasNoRequest, MayBecomeRequest, print_request}
use Rattle.life_desk.specs.declared.request.Request.{Request}
use Rattle.life_desk.specs.declared.request.Reply.{Reply}
use Rattle.life_pages.specs.declared.pages_fault.MessageRefusal.{MessageRefusal}
use Rattle.life_pages.specs.Head.{Head, head_of}
use Rattle.life_pages.specs.Asked.{asked}
use Rattle.life_pages.specs.Reply.{bytes_of, message_refusal_bytes, bad_bytes}

-- a message of a stream: a valid one with its body, or a bad one, which is the last
pub data Message : Type 0 where
  good : Head → List ℕ → Message
  bad : Message

-- the most bytes of a head
abbrev pub head_limit : ℕ
head_limit = 8192

-- whether all bytes are CR and LF
abbrev pub are_line_breaks : List ℕ → Bool
are_line_breaks bytes = list_all (λ b. b == carriage_return || b == line_feed) bytes

-- a valid message is at the front, with its complete body, and the rest follows it
pub record HasMessageInFront (bytes : List ℕ) (parsed : Head) (body rest : List ℕ) : Type 0 where
  pub head : RequestHead
  pub is_head : IsRequestHead head
  pub short : length (print_request head) ≤ head_limit
  pub says : head_of head ≡ Some parsed
  pub bytes_are : bytes ≡ print_request head ++ (body ++ rest)
  pub whole : length body ≡ parsed.body

-- no valid message is at the front
abbrev pub HasNone : List ℕ → Type 0
HasNone bytes = (parsed : Head) (body rest : List ℕ) → ¬ (HasMessageInFront bytes parsed body rest)

-- a complete valid head is at the front, and its body is still incomplete
pub record HasHeadAlone (bytes : List ℕ) : Type 0 where
  pub head : RequestHead
  pub is_head : IsRequestHead head
  pub short : length (print_request head) ≤ head_limit
  pub parsed : Head
  pub says : head_of head ≡ Some parsed
  pub rest : List ℕ
  pub bytes_are : bytes ≡ print_request head ++ rest
  pub part : length rest < parsed.body

-- the bytes may still become a head, and are shorter than the limit
abbrev pub BeginsHead : List ℕ → Type 0
BeginsHead bytes = HasNoRequest bytes × MayBecomeRequest bytes × (length bytes < head_limit)

-- the bytes so far have no fault: they are only CR and LF, a prefix of a head, or a valid head with an incomplete body
abbrev pub IsAwaited : List ℕ → Type 0
IsAwaited bytes = (are_line_breaks bytes ≡ true) ⊎ (BeginsHead bytes ⊎ HasHeadAlone bytes)

-- The messages of a list of bytes: a closing or a bad one is the last. CR and LF at the end are not a message.
abbrev pub Messages : List ℕ → List Message → Type 0
Messages bytes [] = are_line_breaks bytes ≡ true
Messages bytes (bad ∷ ms) = (are_line_breaks bytes ≡ false) × HasNone bytes × (ms ≡ [])
Messages bytes (good parsed body ∷ ms) =
    (rest : List ℕ) × HasMessageInFront bytes parsed body rest
    × (parsed.closes ≡ true → ms ≡ []) × (parsed.closes ≡ false → Messages rest ms)

-- these valid messages are at the front, the rest follows them, and they all keep the connection open
abbrev pub BeginsWithMessages : List ℕ → List Message → List ℕ → Type 0
BeginsWithMessages bytes [] rest = bytes ≡ rest
BeginsWithMessages bytes (bad ∷ ms) rest = ⊥
BeginsWithMessages bytes (good parsed body ∷ ms) rest =
    (mid : List ℕ) × HasMessageInFront bytes parsed body mid × (parsed.closes ≡ false) × BeginsWithMessages mid ms rest

-- these messages are at the front; the last of them may close the connection or be bad
abbrev pub AreFirstMessages : List ℕ → List Message → Type 0
AreFirstMessages bytes [] = Unit {0}
AreFirstMessages bytes (bad ∷ ms) = (are_line_breaks bytes ≡ false) × HasNone bytes × (ms ≡ [])
AreFirstMessages bytes (good parsed body ∷ ms) =
    (rest : List ℕ) × HasMessageInFront bytes parsed body rest
    × (parsed.closes ≡ true → ms ≡ []) × (parsed.closes ≡ false → AreFirstMessages rest ms)

-- a run over messages leads from old to new, and its replies are these bytes
module _ {D : Type 0} (answers : D → Head → List ℕ → List ℕ → D → Type 0) where
  abbrev pub MessageRun : D → List Message → List ℕ → D → Type 0
  MessageRun old [] bytes new = (bytes ≡ []) × (new ≡ old)
  MessageRun old (bad ∷ ms) bytes new = (later : List ℕ) × (bytes ≡ bad_bytes ++ later) × MessageRun old ms later new
  MessageRun old (good parsed body ∷ ms) bytes new =
      (reply : List ℕ) × (later : List ℕ) × (mid : D) × answers old parsed body reply mid × (bytes ≡ reply ++ later)
      × MessageRun mid ms later new

-- the answer to a valid message, if `answers` relates requests and replies
module _ {D : Type 0} (answers : D → Request → Reply → D → Type 0) where
  -- a request gets the bytes of a reply to it; a refused message gets the refusal's bytes and changes nothing
  abbrev pub AnswersAsked : D → Result Request MessageRefusal → List ℕ → D → Type 0
  AnswersAsked old (Ok request) bytes new = (reply : Reply) × answers old request reply new × (bytes ≡ bytes_of reply)
  AnswersAsked old (Err refusal) bytes new = (bytes ≡ message_refusal_bytes refusal) × (new ≡ old)

  abbrev pub AnswersMessage : D → Head → List ℕ → List ℕ → D → Type 0
  AnswersMessage old parsed body bytes new = AnswersAsked old (asked parsed body) bytes new
