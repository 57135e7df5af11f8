-- The reply to a request, as it was written.
use Rattle.std.proofs.Common.{◌≡◌, true, List, ℕ, Result, Ok, Err, inl, inr, refl}
use Rattle.life_desk.specs.declared.request.Request.{Request}
use Rattle.life_desk.specs.declared.request.Reply.{Reply}
use Rattle.life_desk.specs.declared.request.Reply.TheVariants as replies
use Rattle.life_desk.specs.declared.refusal.Refusal.{Refusal}
use Rattle.life_desk.specs.declared.refusal.Refusal.TheVariants as refusals
use Rattle.life_desk.specs.Validation.{validated, MayRefuse}
use Rattle.life_desk.specs.Replies.{is_shown}
use Rattle.life_pages.specs.declared.pages_fault.MessageRefusal.{MessageRefusal}
use Rattle.life_pages.specs.declared.asked.RequestFault.{RequestFault}
use Rattle.life_pages.specs.declared.asked.RequestFault.TheVariants as request_fault
use Rattle.life_pages.specs.AskedState.{IsAsked}
use Rattle.life_pages.specs.Reply.{bytes_of, message_refusal_bytes}
use Rattle.life_pages.specs.ReplyState.{Writes}
use Rattle.life_pages.specs.Message.{AnswersAsked}

module _ {D : Type 0} (answers : D → Request → Reply → D → Type 0) where
  pub written : (old new : D) (q : Request) (r : Reply) (bytes : List ℕ) → answers old q r new
      → (is_shown r ≡ true → answers old q (replies.Refused refusals.Unavailable) new) → Writes r bytes
      → AnswersAsked answers old (Ok q) bytes new
  written old new q r bytes a may_be_unavailable (inl e) = (r, a, e)
  written old new q r bytes a may_be_unavailable (inr p) =
      (replies.Refused refusals.Unavailable, may_be_unavailable p.0, p.1)

  pub message_refused : (d : D) (u : RequestFault) (refusal : MessageRefusal) (bytes : List ℕ)
      → u ≡ request_fault.Message refusal
      → bytes ≡ message_refusal_bytes refusal
      → (read : Result Request MessageRefusal) → IsAsked (Err u) read → AnswersAsked answers d read bytes d
  message_refused d u refusal bytes e made read asked = let is = rw e at asked in rw is (made, refl)

  pub request_refused : (d : D) (u : RequestFault) (refusal : Refusal) (bytes : List ℕ)
      → u ≡ request_fault.Request refusal
      → ((q : Request) (r : Refusal) → MayRefuse (validated q) r → answers d q (replies.Refused r) d)
      → bytes ≡ bytes_of (replies.Refused refusal)
      → (read : Result Request MessageRefusal) → IsAsked (Err u) read → AnswersAsked answers d read bytes d
  request_refused d u refusal bytes e law made read asked =
      let it = rw e at asked in rw it.1 (replies.Refused refusal, law it.0 refusal it.2, made)
