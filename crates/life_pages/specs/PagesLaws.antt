-- Laws that check the definitions of messages, replies and routes.
use Rattle.std.specs.Prelude.{◌≡◌, ◌⊎◌, ◌++◌, ◌<◌, ◌≤◌, ◌^◌, ◌==◌, false, ℕ, List, [], ◌∷◌, length, map, Some}
use Rattle.std.specs.List.{AllByRecursion, Contains, join_with_byte}
use Rattle.life_core.specs.Ascii.{comma, slash}
use Rattle.life_desk.specs.declared.request.Reply.{Reply}
use Rattle.life_desk.specs.Replies.{acknowledges}
use Rattle.life_pages.specs.declared.pages_fault.MessageRefusal.{MessageRefusal}
use Rattle.life_pages.specs.Reply.{bytes_of, message_refusal_bytes, reply_body}
use Rattle.life_pages.specs.Head.{parts_between_commas}
use Rattle.life_pages.specs.Message.{Message, Messages}
use Rattle.life_pages.specs.Route.{Piece, byte, parameter, pieces_of, captured, Row, routes}

-- A stream has at most one list of messages ..
abbrev pub OneListOfMessages : Type 0
OneListOfMessages = (bytes : List ℕ) (ms ns : List Message) → Messages bytes ms → Messages bytes ns → ms ≡ ns

-- .. and at least one.
abbrev pub NoneWithoutMessages : Type 0
NoneWithoutMessages = (bytes : List ℕ) → ¬ ((ms : List Message) → ¬ Messages bytes ms)

-- The bytes of a reply show whether it says that something is stored ..
abbrev pub AcknowledgementsAreKnown : Type 0
AcknowledgementsAreKnown = (r q : Reply) → bytes_of r ≡ bytes_of q → acknowledges r ≡ acknowledges q

-- .. and the refusal of a message never says so.
abbrev pub PagesAcknowledgeNothing : Type 0
PagesAcknowledgeNothing =
    (r : Reply) (refusal : MessageRefusal) → bytes_of r ≡ message_refusal_bytes refusal → acknowledges r ≡ false

-- the bytes of a reply of the archive, with a body that fits into memory, or of the refusal of a message
abbrev pub AreReplyBytes : List ℕ → Type 0
AreReplyBytes bytes =
    ((r : Reply) × (length (reply_body r) < 2 ^ 64) × (bytes ≡ bytes_of r))
    ⊎ ((refusal : MessageRefusal) × (bytes ≡ message_refusal_bytes refusal))

-- No reply is a prefix of another. So a peer can split a stream of replies in only one way, and knows which is which.
abbrev pub RepliesAreReadInOneWay : Type 0
RepliesAreReadInOneWay = (a b x y : List ℕ) → AreReplyBytes a → AreReplyBytes b → a ++ x ≡ b ++ y → (a ≡ b) × (x ≡ y)

-- ---- heads and paths

-- a text without a comma
abbrev pub HasNoComma : List ℕ → Type 0
HasNoComma part = AllByRecursion (λ b. (b == comma) ≡ false) part

-- Joining the parts of a header's value with commas gives the value, and the parts themselves have no commas.
abbrev pub PartsAreTheValue : Type 0
PartsAreTheValue =
    (value : List ℕ) → (join_with_byte comma (parts_between_commas value) ≡ value)
    × AllByRecursion HasNoComma (parts_between_commas value)

-- the path of a template with these texts as its parameters
abbrev pub filled : List Piece → List (List ℕ) → List ℕ
filled [] texts = []
filled (byte x ∷ pieces) texts = x ∷ filled pieces texts
filled (parameter ∷ pieces) [] = []
filled (parameter ∷ pieces) (text ∷ texts) = text ++ filled pieces texts

-- the text of a parameter: at least one byte, without a slash
pub record IsParameter (text : List ℕ) : Type 0 where
  pub some : 1 ≤ length text
  pub plain : AllByRecursion (λ b. (b == slash) ≡ false) text

-- Filling a template with the parameters that it captured from a path gives the path again.
abbrev pub CapturesAreThePath : Type 0
CapturesAreThePath =
    (pieces : List Piece) (path : List ℕ) (texts : List (List ℕ)) → captured pieces path ≡ Some texts
    → (filled pieces texts ≡ path) × AllByRecursion IsParameter texts

-- the templates of all routes
abbrev pub template_texts : List (List ℕ)
template_texts = map (λ (route : Row). route.template) routes

-- the path fits the template
abbrev pub Fits : List ℕ → List ℕ → Type 0
Fits template path = (texts : List (List ℕ)) × (captured (pieces_of template) path ≡ Some texts)

-- A path fits at most one template, so the order of routes doesn't matter.
abbrev pub OneTemplate : Type 0
OneTemplate =
    (path one two : List ℕ) → Contains template_texts one → Contains template_texts two → Fits one path
    → Fits two path → one ≡ two
