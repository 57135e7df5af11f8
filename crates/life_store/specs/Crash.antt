-- What a crash leaves of a `sqlite` store: `recovers` holds for whatever an opening after a crash at this moment may
-- find. The clause of a call also covers a crash during the call. Interrupting a call has the same effect as a disk
-- that fails from that moment on, and the clause covers such a disk ("The crash argument" of the kit's `sqlite_wal`).
use Rattle.std.specs.Prelude.{◌⊎◌}
use Rattle.sqlite_trees.specs.declared.store.Store.{Ghosts}
use Rattle.sqlite_trees.specs.Tree.{Trees}
use Rattle.sqlite_trees.specs.View.{IsClean}

-- a call that adds no possible result of a crash
abbrev pub NothingNew : Trees → Type 0
NothingNew db = ⊥

-- If the disk has returned everything as it was written, it had done so before too. A crash now leaves what it might
-- have left before, or trees that satisfy `Adds`.
pub record CrashLeaves {S : Type 0} (g : Ghosts S) (Adds : Trees → Type 0) (old new : S) : Type 0 where
  pub honest : IsClean (g.view new) → IsClean (g.view old)
  pub found : IsClean (g.view new) → (db : Trees) → g.recovers new db → g.recovers old db ⊎ Adds db
