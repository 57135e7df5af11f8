-- What the replies of serving say.
use Rattle.std.proofs.Common.{ℕ, List, Option, Result, Ok, Err, OnOk, inl, inr, subst}
use Rattle.sqlite_trees.specs.declared.store.Store.{Ghosts}
use Rattle.life_rle.specs.Stream.{Appends, AppendsSome}
use Rattle.life_store.specs.Tables.{ArchiveView}
use Rattle.life_desk.specs.Archive.{Archive}
use Rattle.life_desk.specs.Represents.{IsRepresentable, Represents}
use Rattle.life_desk.specs.Run.{RequestStep}
use Rattle.life_desk.specs.Headline.{HeadlineHolds}
use Rattle.life_desk.proofs.Representing.{representable_of}
use Rattle.life_pages.specs.declared.pages_fault.IoFault.{IoFault}
use Rattle.life_pages.specs.Message.{Message, MessageRun, AnswersMessage}
use Rattle.life_pages.specs.Serving.{AreAllOf, AreFirstOfStream, Served, RepliesCutShort}
use Rattle.life_pages.specs.ServedArchive.{ByArchive}
use Rattle.life_pages.specs.Requests.{requests_of, ServesTheHeadline}
use Rattle.life_pages.proofs.RequestRuns.{as_requests}

-- what follows for each archive that was meant
by_more : {S : Type 0} (g : Ghosts S) (P Q : Archive → Archive → Type 0) (old new : ArchiveView S)
    → ((A B : Archive) → Represents old A → P A B → Q A B) → ByArchive g P old new → ByArchive g Q old new
by_more g P Q old new more by = record {
  transition = by.transition;
  run = λ healthy A m. let done = by.run healthy A m in (done.0, more A done.0 m done.1, done.2);
  lasting = λ healthy A m. elim (by.lasting healthy A m) [
    | inl still ↦ inl (still.0, (still.1.0, more A still.1.0 m still.1.1, still.1.2))
    | inr failed ↦ inr (failed.0, λ clean. let done = failed.1 clean in (done.0, more A done.0 m done.1))
  ];
}

module _ (law : HeadlineHolds) (are : List Message → Type 0) (puts : List ℕ → Type 0) where
  says : (A B : Archive) (ms : List Message) (bytes : List ℕ) → IsRepresentable A → are ms
      → MessageRun (AnswersMessage RequestStep) A ms bytes B → puts bytes
      → ServesTheHeadline are puts A B
  says A B ms bytes can begun run put =
      let it = as_requests A B ms bytes run in
      record {
        done = ms;
        replies = it.0;
        messages = begun;
        put = subst puts it.2 put;
        run = it.1;
        headline = law A B (requests_of ms) it.0 can it.1;
      }

module _ {S : Type 0} (g : Ghosts S) (law : HeadlineHolds) (stream : Option (List ℕ)) (old new : ArchiveView S)
    (x y : Option (List ℕ)) where
  pub headline_first : ByArchive g (λ A B. RepliesCutShort (AnswersMessage RequestStep) stream A B x y) old new
      → ByArchive g (ServesTheHeadline (AreFirstOfStream stream) (AppendsSome x y)) old new
  headline_first by =
      by_more g (λ A B. RepliesCutShort (AnswersMessage RequestStep) stream A B x y)
      (ServesTheHeadline (AreFirstOfStream stream) (AppendsSome x y)) old new
      (λ A B m b. says law (AreFirstOfStream stream) (AppendsSome x y) A B b.done b.bytes
      (representable_of old A m) b.messages b.run b.put) by

  pub headline_all : (r : Result (Unit {0}) IoFault)
      → OnOk r (ByArchive g (λ A B. Served (AnswersMessage RequestStep) stream A B x y) old new)
      → OnOk r (ByArchive g (ServesTheHeadline (AreAllOf stream) (Appends x y)) old new)
  headline_all (Err fault) by = tt
  headline_all (Ok u) by =
      by_more g (λ A B. Served (AnswersMessage RequestStep) stream A B x y)
      (ServesTheHeadline (AreAllOf stream) (Appends x y)) old new
      (λ A B m b. says law (AreAllOf stream) (Appends x y) A B b.done b.bytes
      (representable_of old A m) b.messages b.run b.put) by
