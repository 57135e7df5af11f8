-- What a crash leaves of a deposit.
use Rattle.std.proofs.Common.{inl, inr, ℕ, List, [], ◌∷◌, Option, Result}
use Rattle.sqlite_trees.specs.declared.store.Store.{Ghosts}
use Rattle.life_store.specs.Tables.{ArchiveView}
use Rattle.life_desk.specs.declared.request.Request.TheVariants as requests
use Rattle.life_desk.proofs.RequestRuns.{IsSettled, crash_safe}
use Rattle.life_archive.specs.declared.archive_stop.ArchiveStop.{ArchiveStop}
use Rattle.life_archive.specs.Deposit.{Deposits, IsDepositSafe}

pub deposit_safe : {S : Type 0} (g : Ghosts S) (old new : ArchiveView S) (member token : List ℕ)
    (known before now : Option (List ℕ)) (answer : Result (Unit {0}) ArchiveStop) → IsSettled g old
    → Deposits g old new member token known before now answer
    → IsDepositSafe g old new member token known before now answer
deposit_safe g old new member token known before now answer settled (inl unasked) = inl unasked
deposit_safe g old new member token known before now answer settled (inr once) =
    inr (
      once,
      crash_safe old new (requests.Deposit member token once.file ∷ [])
          (once.reply ∷ []) settled once.answered,
    )
