-- Runs over messages, as runs of the requests that they make.
use Rattle.std.proofs.Common.{◌≡◌, ℕ, List, [], ◌∷◌, ◌++◌, Result, Ok, Err, refl, ◌∙◌, ap, subst}
use Rattle.life_desk.specs.declared.request.Request.{Request}
use Rattle.life_desk.specs.declared.request.Reply.{Reply}
use Rattle.life_desk.specs.Archive.{Archive}
use Rattle.life_desk.specs.Run.{RequestStep, RequestRun}
use Rattle.life_pages.specs.declared.pages_fault.MessageRefusal.{MessageRefusal}
use Rattle.life_pages.specs.Asked.{asked}
use Rattle.life_pages.specs.Message.{Message, good, bad, MessageRun, AnswersAsked, AnswersMessage}
use Rattle.life_pages.specs.Reply.{bytes_of, message_refusal_bytes, bad_bytes}
use Rattle.life_pages.specs.Requests.{with_request, requests_of, with_reply, reply_bytes_of, MessagesRunAsRequests}
use Rattle.life_pages.specs.Requests.{RequestsRunAsMessages}

-- the bytes of a reply and those after it, as they were made
joined : (bytes reply later made behind : List ℕ) → bytes ≡ reply ++ later → reply ≡ made → later ≡ behind
    → bytes ≡ made ++ behind
joined bytes reply later made behind is first second = rw (← first, ← second) is

module _ (A M B : Archive) (qs : List Request) (behind : List Reply → List ℕ) where
  first_then : (x : Result Request MessageRefusal) (reply later bytes : List ℕ) (rs : List Reply)
      → AnswersAsked RequestStep A x reply M → bytes ≡ reply ++ later
      → RequestRun M qs rs B → later ≡ behind rs
      → (ss : List Reply) × RequestRun A (with_request x qs) ss B × (bytes ≡ with_reply x behind ss)
  first_then (Ok q) reply later bytes rs (r, step, made) is run more =
      (r ∷ rs, (M, step, run), joined bytes reply later (bytes_of r) (behind rs) is made more)
  first_then (Err refusal) reply later bytes rs (made, same) is run more = (
    rs,
    subst (λ (X : Archive). RequestRun X qs rs B) same run,
    joined bytes reply later (message_refusal_bytes refusal) (behind rs) is made more,
  )

pub as_requests : MessagesRunAsRequests
as_requests A B [] bytes run = ([], run.1, run.0)
as_requests A B (bad ∷ ms) bytes (later, is, run) =
    let it = as_requests A B ms later run in
    (it.0, it.1, is ∙ ap (λ (l : List ℕ). bad_bytes ++ l) it.2)
as_requests A B (good parsed body ∷ ms) bytes (reply, later, mid, answered, is, run) =
    let it = as_requests mid B ms later run in
    first_then A mid B (requests_of ms) (reply_bytes_of ms)
    (asked parsed body) reply later bytes it.0 answered is it.1 it.2

module _ (A B : Archive) (ms : List Message) (more : (M : Archive) (ss : List Reply)
    → RequestRun M (requests_of ms) ss B → MessageRun (AnswersMessage RequestStep) M ms (reply_bytes_of ms ss) B) where
  first_of : (x : Result Request MessageRefusal) (rs : List Reply) → RequestRun A (with_request x (requests_of ms)) rs B
      → (reply : List ℕ) × (later : List ℕ) × (mid : Archive) × AnswersAsked RequestStep A x reply mid
      × (with_reply x (reply_bytes_of ms) rs ≡ reply ++ later)
      × MessageRun (AnswersMessage RequestStep) mid ms later B
  first_of (Ok q) [] run = absurd run
  first_of (Ok q) (r ∷ rs) (mid, step, run) =
      (bytes_of r, reply_bytes_of ms rs, mid, (r, step, refl), refl, more mid rs run)
  first_of (Err refusal) rs run =
      (message_refusal_bytes refusal, reply_bytes_of ms rs, A, (refl, refl), refl, more A rs run)

pub as_messages : RequestsRunAsMessages
as_messages A B [] [] run = (refl, run)
as_messages A B [] (r ∷ rs) run = absurd run
as_messages A B (bad ∷ ms) rs run = (reply_bytes_of ms rs, refl, as_messages A B ms rs run)
as_messages A B (good parsed body ∷ ms) rs run =
    first_of A B ms (λ M ss later. as_messages M B ms ss later) (asked parsed body) rs run
