-- The results of the private functions that query the archive, and the facts that they preserve.
use Rattle.std.specs.Prelude.{Result, IfOk, OnOk, IsTrue}
use Rattle.sqlite_trees.specs.declared.store.Store.{Ghosts}
use Rattle.life_store.specs.Crash.{NothingNew}
use Rattle.life_store.specs.Tables.{ArchiveView, IsTransition, IsHealthyIfClean}
use Rattle.life_desk.specs.Archive.{Archive}
use Rattle.life_desk.specs.Represents.{Represents}

-- `P` holds for the archive that the tables represented before the call, if the database is healthy after it
abbrev pub ForAllRepresented : {S : Type 0} → ArchiveView S → ArchiveView S → (Archive → Type 0) → Type 0
ForAllRepresented old new P = (A : Archive) → IsTrue new.tables.is_healthy → Represents old A → P A

-- the tables still represent the same archive
abbrev pub RepresentsTheSame : {S : Type 0} → ArchiveView S → ArchiveView S → Type 0
RepresentsTheSame old new = (A : Archive) → IsTrue new.tables.is_healthy → Represents old A → Represents new A

-- The tables still represent the same archive, and the answer satisfies `Tells` for it. A crash leaves what it might
-- have left before. A database that answers is healthy unless its disk has lied.
pub record LooksUp {S X E : Type 0} (g : Ghosts S) (old new : ArchiveView S) (result : Result X E)
    (Tells : Archive → X → Type 0) : Type 0 where
  pub transition : IsTransition g NothingNew old new
  pub healthy : OnOk result (IsHealthyIfClean g new)
  pub same : RepresentsTheSame old new
  pub value : ForAllRepresented old new (λ A. IfOk result (Tells A))
