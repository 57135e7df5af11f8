-- Used only by contracts inside the crate: the effect of one SQL statement.
use Rattle.std.specs.Prelude.{◌≡◌, ◌≤◌, Result, IfOk, OnOk, OnErr, IsTrue}
use Rattle.std.specs.Borrow.{MutBor}
use Rattle.sqlite_trees.specs.declared.store.Store.{Ghosts}
use Rattle.sqlite_trees.specs.Tree.{Trees}
use Rattle.sqlite_trees.specs.View.{doubt}
use Rattle.sqlite.specs.Held.{Held, state}
use Rattle.sqlite.specs.State.{HasCleanDisk, KeepsCommit}
use Rattle.life_store.specs.Crash.{NothingNew, CrashLeaves}
use Rattle.life_store.specs.Kept.{Kept}
use Rattle.life_store.specs.Tables.{Tables, tables_of, Holds, TreesHold, WasHealthy, StaysHealthy, HoldsTheSame}
use Rattle.life_store.specs.Tables.{ForAllHeld}

-- Whatever the disk does in a step, a healthy database stays healthy unless the disk fails. A crash leaves what it
-- might have left before, or trees that satisfy `Adds`.
pub record Withstands {S : Type 0} (g : Ghosts S) (Adds : Trees → Type 0) (old new : Held S) : Type 0 where
  pub lasts : StaysHealthy (tables_of (state g old)) (tables_of (state g new))
  pub crash : CrashLeaves g Adds old.store new.store

-- A query outside a transaction: the tables represent afterwards what they did before. If it answers, the database is
-- open.
pub record Queries {S A E : Type 0} (g : Ghosts S) (old new : Held S) (result : Result A E) : Type 0 where
  pub lost : WasHealthy (tables_of (state g old)) (tables_of (state g new))
  pub keeps : HoldsTheSame (tables_of (state g old)) (tables_of (state g new))
  pub up : HasCleanDisk (state g new) → OnOk result (IsTrue (state g new).is_open)
  pub withstands : Withstands g NothingNew old new

-- A query outside a transaction whose answer satisfies `Tells` for the contents that the tables represented.
pub record QueriesFor {S A E : Type 0} (g : Ghosts S) (old new : Held S) (result : Result A E)
    (Tells : Kept → A → Type 0) : Type 0 where
  pub queries : Queries g old new result
  pub tells : ForAllHeld (tables_of (state g old)) (tables_of (state g new)) (λ k. IfOk result (Tells k))

-- if the tables represent contents for which this is the next item, the trees represent them with the item added
abbrev pub HoldNext : (Kept → Type 0) → (Kept → Kept) → Tables → Trees → Type 0
HoldNext IsNext adds old db = (k : Kept) → Holds old k → IsNext k → TreesHold db (adds k)

-- Adding an item under a number. If the number is the next one, `Ok` means that the item was added. `Err` means that
-- nothing changed.
pub record AddsNext {S A E : Type 0} (g : Ghosts S) (IsNext : Kept → Type 0) (adds : Kept → Kept)
    (old new : Held S) (result : Result A E) : Type 0 where
  pub lost : WasHealthy (tables_of (state g old)) (tables_of (state g new))
  pub up : HasCleanDisk (state g new) → OnOk result (IsTrue (state g new).is_open)
  pub withstands : Withstands g (HoldNext IsNext adds (tables_of (state g old))) old new
  pub ok : OnOk result ((k : Kept) → IsTrue (tables_of (state g new)).is_healthy → Holds (tables_of (state g old)) k
      → IsNext k → Holds (tables_of (state g new)) (adds k))
  pub err : OnErr result (HoldsTheSame (tables_of (state g old)) (tables_of (state g new)))

-- A statement inside a transaction: the transaction is the same, commits nothing, and if the statement succeeds, stays
-- open.
pub record StaysInside {S A E : Type 0} (g : Ghosts S) (old new : MutBor (Held S)) (result : Result A E) : Type 0 where
  pub same_reference : new.ghost_name ≡ old.ghost_name
  pub inside : HasCleanDisk (state g new.now) → IsTrue old.now.in_transaction
      → OnOk result (IsTrue new.now.in_transaction)
  pub kept : HasCleanDisk (state g new.now) → IsTrue old.now.in_transaction
      → KeepsCommit (state g old.now) (state g new.now)
  -- a disk that has returned what was written had done so before
  pub clean : doubt (state g old.now).is_clean ≤ doubt (state g new.now).is_clean
  -- a crash leaves nothing new
  pub crash : CrashLeaves g NothingNew old.now.store new.now.store
