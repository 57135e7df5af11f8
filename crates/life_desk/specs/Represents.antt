-- The tables of a store represent an archive if their rows represent its deposits and its censuses. Each census is
-- stored with the tally of the generation that it counts, and with whether that generation is steady. The model's
-- archive has neither tallies nor flags, since both can be computed.
use Rattle.std.specs.Prelude.{◌≡◌, ℕ, List, [], Ok, map, IsSome}
use Rattle.std.specs.List.{AllByRecursion}
use Rattle.life_rle.specs.File.{kept}
use Rattle.life_rle.specs.Record.{Contents}
use Rattle.life_rle.specs.Writer.{text}
use Rattle.life_store.specs.declared.kept.Deposit.{Deposit}
use Rattle.life_store.specs.declared.kept.Census.{Census}
use Rattle.life_store.specs.Kept.{Kept, Tallied, numbered}
use Rattle.life_store.specs.Migration.{Migrated}
use Rattle.life_store.specs.Opening.{nothing_kept}
use Rattle.life_store.specs.Recoverable.{Recoverable, RecoveredHolds}
use Rattle.life_store.specs.Tables.{Tables, ArchiveView, Holds}
use Rattle.life_desk.specs.Archive.{Archive, tally_at, steady_at}

-- a census with its tally and its flag, both computed
abbrev pub tallied : List Deposit → Census → Tallied
tallied ds c = record { census = c; tally = tally_at ds c; steady = steady_at ds c }

abbrev pub kept_of : Archive → Kept
kept_of A = record { deposits = A.deposits; censuses = map (tallied A.deposits) A.censuses }

-- the deposit of each census exists
abbrev pub EachHasDeposit : List Deposit → List Census → Type 0
EachHasDeposit ds cs = AllByRecursion (λ c. IsSome (numbered ds c.deposit)) cs

-- reading the text of a record gives the record again
abbrev pub IsReadAgain : Contents → Type 0
IsReadAgain r = kept (text r) ≡ Ok r

-- reading the text of each deposit's record gives the record again
abbrev pub EachIsReadAgain : List Deposit → Type 0
EachIsReadAgain ds = AllByRecursion (λ d. IsReadAgain d.content) ds

-- an archive that tables can represent
pub record IsRepresentable (A : Archive) : Type 0 where
  pub again : EachIsReadAgain A.deposits
  pub each : EachHasDeposit A.deposits A.censuses

-- tables that represent its deposits and its censuses, each with its computed tally and flag, and its capacity
pub record IsRepresented (t : Tables) (most : ℕ) (A : Archive) : Type 0 where
  pub capacity : most ≡ A.capacity
  pub each : EachHasDeposit A.deposits A.censuses
  pub holds : Holds t (kept_of A)

-- the tables represent the archive
unfoldable pub Represents : {S : Type 0} → ArchiveView S → Archive → Type 0
Represents t A = IsRepresented t.tables t.capacity A

-- An opening finds this archive in the trees, apart from the capacity, which the opening sets.
abbrev pub RecoveredRepresents : Recoverable → Archive → Type 0
RecoveredRepresents found A = RecoveredHolds found (kept_of A)

-- A new archive has neither deposits nor censuses.
abbrev pub NewIsEmpty : Type 0
NewIsEmpty =
    (t : Tables) (capacity : ℕ) → Holds t nothing_kept
    → IsRepresented t capacity (record { deposits = []; censuses = []; capacity = capacity })

-- Migrating an archive from schema version 1 leaves the same archive, since each added flag is the one that the archive
-- computes.
abbrev pub MigratedIsTheSame : Type 0
MigratedIsTheSame =
    (t : Tables) (capacity : ℕ) (A : Archive) → capacity ≡ A.capacity → EachHasDeposit A.deposits A.censuses
    → Migrated t (kept_of A) → IsRepresented t capacity A
