-- Laws that check the definitions of archives.
use Rattle.std.specs.Prelude.{◌≡◌, map}
use Rattle.sqlite_wal.specs.Recovery.{Image}
use Rattle.sqlite.specs.Files.{IsNothing}
use Rattle.life_store.specs.Migration.{HoldsFirst, unflagged}
use Rattle.life_store.specs.Kept.{Kept}
use Rattle.life_store.specs.Opening.{ListNothing}
use Rattle.life_store.specs.Tables.{Tables, Holds}

-- Files in which nothing was written yet list no table.
abbrev pub BlankFilesListNothing : Type 0
BlankFilesListNothing = (image : Image) → IsNothing image → ListNothing image

-- Rows represent at most one list of deposits and one list of censuses.
abbrev pub OneMeaning : Type 0
OneMeaning = (t : Tables) (a b : Kept) → Holds t a → Holds t b → a ≡ b

-- Rows of schema version 1 also represent at most one list of each, apart from the flags, which they lack.
abbrev pub OneFirstMeaning : Type 0
OneFirstMeaning =
    (t : Tables) (a b : Kept) → HoldsFirst t a → HoldsFirst t b
    → (a.deposits ≡ b.deposits) × (map unflagged a.censuses ≡ map unflagged b.censuses)
