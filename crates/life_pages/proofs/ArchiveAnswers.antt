-- Runs of a store, with every fact of `IsAnswered`.
use Rattle.std.proofs.Common.{ℕ, List, Option, Result, Ok, Err, OnOk}
use Rattle.sqlite_trees.specs.declared.store.Store.{Ghosts}
use Rattle.life_rle.specs.Stream.{Appends, AppendsSome}
use Rattle.life_store.specs.Tables.{ArchiveView}
use Rattle.life_desk.proofs.RequestRuns.{IsSettled}
use Rattle.life_pages.specs.declared.pages_fault.IoFault.{IoFault}
use Rattle.life_pages.specs.Message.{Message, MessageRun, AnswersMessage}
use Rattle.life_pages.specs.Serving.{AreAllOf, AreFirstOfStream, Served, RepliesCutShort}
use Rattle.life_pages.specs.ServedArchive.{StoreAnswers, IsAnswered}
use Rattle.life_pages.proofs.ArchiveRuns.{run_answered, by_taken, left_safely}
use Rattle.life_pages.proofs.FirmReplies.{firm_run}

module _ {S : Type 0} (g : Ghosts S) (old new : ArchiveView S) (law : IsSettled g old) where
  pub is_answered : (are : List Message → Type 0) (puts : List ℕ → Type 0) (ms : List Message) (bytes : List ℕ)
      → are ms → puts bytes → MessageRun (AnswersMessage (StoreAnswers g)) old ms bytes new
      → IsAnswered g are puts old new
  is_answered are puts ms bytes is put run =
      let it = run_answered g old new ms bytes run in
      record {
        done = ms;
        bytes = bytes;
        messages = is;
        put = put;
        steps = run;
        run = by_taken g old new it.taken;
        own_refusals = firm_run g old new ms bytes run;
        crash = left_safely g old new ms bytes law it;
      }

  pub first_answered : (stream x y : Option (List ℕ))
      → RepliesCutShort (AnswersMessage (StoreAnswers g)) stream old new x y
      → IsAnswered g (AreFirstOfStream stream) (AppendsSome x y) old new
  first_answered stream x y some =
      is_answered (AreFirstOfStream stream) (AppendsSome x y) some.done some.bytes some.messages some.put some.run

  pub all_answered : (stream x y : Option (List ℕ)) (r : Result (Unit {0}) IoFault)
      → OnOk r (Served (AnswersMessage (StoreAnswers g)) stream old new x y)
      → OnOk r (IsAnswered g (AreAllOf stream) (Appends x y) old new)
  all_answered stream x y (Err fault) all = tt
  all_answered stream x y (Ok done) all =
      is_answered (AreAllOf stream) (Appends x y) all.done all.bytes all.messages all.put all.run
