-- The requests that a stream's messages make, the bytes of their replies, and the headline for them.
use Rattle.std.specs.Prelude.{◌≡◌, ℕ, List, [], ◌∷◌, ◌++◌, Result, Ok, Err}
use Rattle.life_desk.specs.declared.request.Request.{Request}
use Rattle.life_desk.specs.declared.request.Reply.{Reply}
use Rattle.life_desk.specs.Archive.{Archive}
use Rattle.life_desk.specs.Run.{RequestStep, RequestRun}
use Rattle.life_desk.specs.Headline.{Headline}
use Rattle.life_pages.specs.declared.pages_fault.MessageRefusal.{MessageRefusal}
use Rattle.life_pages.specs.Asked.{asked}
use Rattle.life_pages.specs.Message.{Message, good, bad, MessageRun, AnswersMessage}
use Rattle.life_pages.specs.Reply.{bytes_of, message_refusal_bytes, bad_bytes}

-- a message's request, if it makes one, in front of others
abbrev pub with_request : Result Request MessageRefusal → List Request → List Request
with_request (Ok request) later = request ∷ later
with_request (Err refusal) later = later

-- the requests that messages make, in their order
abbrev pub requests_of : List Message → List Request
requests_of [] = []
requests_of (bad ∷ ms) = requests_of ms
requests_of (good parsed body ∷ ms) = with_request (asked parsed body) (requests_of ms)

-- The bytes of a message's reply, followed by the replies to later messages. A message that makes a request takes the
-- first of these replies. The case without one never occurs: a run has as many replies as requests.
abbrev pub with_reply : Result Request MessageRefusal → (List Reply → List ℕ) → List Reply → List ℕ
with_reply (Ok request) later (r ∷ rs) = bytes_of r ++ later rs
with_reply (Ok request) later [] = []
with_reply (Err refusal) later rs = message_refusal_bytes refusal ++ later rs

-- the bytes of the replies to messages, given the replies to their requests
abbrev pub reply_bytes_of : List Message → List Reply → List ℕ
reply_bytes_of [] rs = []
reply_bytes_of (bad ∷ ms) rs = bad_bytes ++ reply_bytes_of ms rs
reply_bytes_of (good parsed body ∷ ms) rs = with_reply (asked parsed body) (reply_bytes_of ms) rs

-- A run over messages is a run of their requests, and its bytes are the replies ..
abbrev pub MessagesRunAsRequests : Type 0
MessagesRunAsRequests =
    (A B : Archive) (ms : List Message) (bytes : List ℕ) → MessageRun (AnswersMessage RequestStep) A ms bytes B
    → (rs : List Reply) × RequestRun A (requests_of ms) rs B × (bytes ≡ reply_bytes_of ms rs)

-- .. and each run of their requests is a run over the messages.
abbrev pub RequestsRunAsMessages : Type 0
RequestsRunAsMessages = (A B : Archive) (ms : List Message) (rs : List Reply) → RequestRun A (requests_of ms) rs B
    → MessageRun (AnswersMessage RequestStep) A ms (reply_bytes_of ms rs) B

-- A run from A to B answered the requests of these messages, the written bytes are its replies, and the headline holds
-- for them. For example, generation n is the rule applied n times, and a census counts every cluster once.
pub record ServesTheHeadline (are : List Message → Type 0) (puts : List ℕ → Type 0) (A B : Archive) : Type 0 where
  pub done : List Message
  pub replies : List Reply
  pub messages : are done
  pub put : puts (reply_bytes_of done replies)
  pub run : RequestRun A (requests_of done) replies B
  pub headline : Headline A (requests_of done) replies B
