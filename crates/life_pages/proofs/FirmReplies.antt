-- Replies that come whatever the store does.
use Rattle.std.proofs.Common.{◌≡◌, inl, inr, true, ℕ, List, [], ◌∷◌, Option, Result, Ok, Err, IfErr, refl, ap}
use Rattle.sqlite_trees.specs.declared.store.Store.{Ghosts}
use Rattle.life_store.specs.Tables.{ArchiveView}
use Rattle.life_desk.specs.declared.refusal.Refusal.{Refusal}
use Rattle.life_desk.specs.declared.request.Request.{Request}
use Rattle.life_desk.specs.declared.request.Reply.{Reply}
use Rattle.life_desk.specs.declared.request.Reply.TheVariants as replies
use Rattle.life_desk.specs.Validation.{validated, MayRefuse}
use Rattle.life_desk.specs.Replies.{is_shown}
use Rattle.life_pages.specs.declared.pages_fault.MessageRefusal.{MessageRefusal}
use Rattle.life_pages.specs.Asked.{asked}
use Rattle.life_pages.specs.Message.{Message, good, bad, MessageRun, AnswersAsked, AnswersMessage}
use Rattle.life_pages.specs.Serving.{RepliesCutShort}
use Rattle.life_pages.specs.ServedArchive.{StoreAnswers, AnswersFirmly}

-- what is refused for its own words is not shown
pub shown_not_refused : {J : Type 0} (x : Result J Refusal) (r s : Reply) (P : Type 0) → is_shown r ≡ true
    → IfErr x (λ refusal. (r ≡ replies.Refused refusal) × P)
    → IfErr x (λ refusal. (s ≡ replies.Refused refusal) × P)
shown_not_refused (Ok j) r s P shown it = tt
shown_not_refused (Err own) r s P shown it = let bad = rw it.0 at shown in absurd (cc)

-- what is refused unasked is refused for its own words, if they are not good
pub unasked_firm : {D J : Type 0} (d : D) (x : Result J Refusal) (refusal : Refusal) → MayRefuse x refusal
    → IfErr x (λ own. (replies.Refused refusal ≡ replies.Refused own) × (d ≡ d))
unasked_firm d (Ok j) refusal may = tt
unasked_firm d (Err own) refusal (inl is) = let same : refusal ≡ own = cc in (ap replies.Refused same, refl)
unasked_firm d (Err own) refusal (inr (fine, is)) = absurd (cc)

firm_reply : {J : Type 0} (x : Result J Refusal) (r : Reply) (P : Type 0)
    → IfErr x (λ refusal. (r ≡ replies.Refused refusal) × P) → IfErr x (λ refusal. r ≡ replies.Refused refusal)
firm_reply (Ok j) r P it = tt
firm_reply (Err own) r P it = it.0

module _ {S : Type 0} (g : Ghosts S) where
  firm_one : (old new : ArchiveView S) (x : Result Request MessageRefusal) (bytes : List ℕ)
      → AnswersAsked (StoreAnswers g) old x bytes new → AnswersAsked AnswersFirmly tt x bytes tt
  unfolding StoreAnswers
  firm_one old new (Ok q) bytes (reply, answered, is) =
      (reply, firm_reply (validated q) reply (new ≡ old) answered.1, is)
  firm_one old new (Err refusal) bytes (is, same) = (is, refl)

  pub firm_run : (old new : ArchiveView S) (ms : List Message) (bytes : List ℕ)
      → MessageRun (AnswersMessage (StoreAnswers g)) old ms bytes new
      → MessageRun (AnswersMessage AnswersFirmly) tt ms bytes tt
  firm_run old new [] bytes run = (run.0, refl)
  firm_run old new (bad ∷ ms) bytes (later, is, run) = (later, is, firm_run old new ms later run)
  firm_run old new (good parsed body ∷ ms) bytes (reply, later, mid, answered, is, run) =
      (reply, later, tt, firm_one old mid (asked parsed body) reply answered, is, firm_run mid new ms later run)

  pub firm_replies : (stream : Option (List ℕ)) (old new : ArchiveView S) (x y : Option (List ℕ))
      → RepliesCutShort (AnswersMessage (StoreAnswers g)) stream old new x y
      → RepliesCutShort (AnswersMessage AnswersFirmly) stream tt tt x y
  firm_replies stream old new x y b = record {
    done = b.done;
    bytes = b.bytes;
    messages = b.messages;
    run = firm_run old new b.done b.bytes b.run;
    put = b.put;
  }
