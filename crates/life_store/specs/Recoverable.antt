-- What a crash may leave of an archive. Contracts of `life_desk` and `life_pages` use these definitions, and never
-- trees or files.
use Rattle.sqlite_trees.specs.declared.store.Store.{Ghosts}
use Rattle.sqlite_trees.specs.Tree.{Trees}
use Rattle.sqlite_trees.specs.View.{IsClean}
use Rattle.life_store.specs.Kept.{Kept}
use Rattle.life_store.specs.Tables.{ArchiveView, TreesHold}

-- what an opening after a crash finds
abbrev pub Recoverable : Type 0
Recoverable = Trees

-- a crash at this moment may leave this
abbrev pub MayBeRecovered : {S : Type 0} → Ghosts S → ArchiveView S → Recoverable → Type 0
MayBeRecovered g archive found = g.recovers archive.store found

-- what is left represents these deposits and these censuses, and no others
abbrev pub RecoveredHolds : Recoverable → Kept → Type 0
RecoveredHolds found k = TreesHold found k

-- the disk has returned what was written so far
abbrev pub IsHonest : {S : Type 0} → Ghosts S → ArchiveView S → Type 0
IsHonest g archive = IsClean (g.view archive.store)
