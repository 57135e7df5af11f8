-- When a check finds the tables of an archive sound.
use Rattle.std.specs.Prelude.{◌≡◌, ◌≢◌, ◌<◌, ◌^◌, ℕ, Bool, true, false, List, length, map, slice_get, Some}
use Rattle.std.specs.List.{AllByRecursion}
use Rattle.sqlite_trees.specs.Tree.{Trees}
use Rattle.life_store.specs.declared.kept.Deposit.{Deposit}
use Rattle.life_store.specs.Kept.{Kept, Tallied}
use Rattle.life_store.specs.Layout.{archive_schema}
use Rattle.life_store.specs.Stored.{IsFiled, rows_by, deposit_cells, census_cells, count_cells, flag_cells, counts_from}
use Rattle.life_store.specs.Tables.{Tables, ArchiveView, version_2}
use Rattle.life_desk.specs.Archive.{Archive, AddsUp}
use Rattle.life_desk.specs.Represents.{Represents, EachHasDeposit}
use Rattle.life_check.specs.declared.archive_check.CheckVerdict.{CheckVerdict}
use Rattle.life_check.specs.declared.archive_check.CheckVerdict.TheVariants.{Sound, SoundButForCounts, NotSound}
use Rattle.life_check.specs.declared.archive_check.Wrong.{Wrong}
use Rattle.life_check.specs.declared.archive_check.Wrong.TheVariants as wrong
use Rattle.life_check.specs.ReadState.{AreOf, AreNone, AreNames, IsValidCensus, IsNamed, IsFirstWrong}
use Rattle.life_check.specs.CountState.{AreFiled, AreCounted, AreTallied, IsFirstWrongCensus}

-- The trees represent this many deposits and this many censuses, which are correctly counted unless the check is quick.
pub record AreSound (quick : Bool) (trees : Trees) (deposits censuses : ℕ) : Type 0 where
  pub version : trees 0 ≡ version_2
  pub filed : AreOf deposit_cells IsNamed (trees 1) deposits
  pub few_deposits : deposits < 2 ^ 63
  pub few_censuses : censuses < 2 ^ 63
  pub counted : (ds : List Deposit) → AreFiled trees ds → AreCounted quick trees ds censuses

-- The first error in the trees: the rows before it are right, and an archive never has these rows. A wrong schema
-- doesn't show in trees, so it is not found here.
abbrev pub FindsWrong : Bool → Trees → Wrong → Type 0
FindsWrong quick trees wrong.Tables = ⊥
FindsWrong quick trees wrong.Layout = trees 0 ≢ version_2
FindsWrong quick trees (wrong.Deposit id) =
    AreNone deposit_cells IsFiled (trees 1) × (trees 0 ≡ version_2)
    × IsFirstWrong deposit_cells IsNamed IsFiled (trees 1) id
FindsWrong quick trees (wrong.DepositNames id) =
    AreNone deposit_cells IsNamed (trees 1) × (trees 0 ≡ version_2)
    × IsFirstWrong deposit_cells IsNamed IsNamed (trees 1) id
FindsWrong quick trees (wrong.Census id) =
    ((ds : List Deposit) → AreFiled trees ds → AreTallied trees ds → ⊥) × (trees 0 ≡ version_2)
    × (ds : List Deposit) × (trees 1 ≡ rows_by deposit_cells 1 ds) × AllByRecursion IsNamed ds
    × IsFirstWrongCensus quick (trees 3) (trees 5) (trees 7) ds id

abbrev pub FindsSound : Bool → Trees → CheckVerdict → Type 0
FindsSound quick trees (Sound d c) = AreSound quick trees d c × (quick ≡ false)
FindsSound quick trees (SoundButForCounts d c) = AreSound quick trees d c × (quick ≡ true)
FindsSound quick trees (NotSound w) = FindsWrong quick trees w

-- the fields of each deposit and each census are valid in a request
pub record IsAskedFor (A : Archive) : Type 0 where
  pub deposits : AllByRecursion (λ d. AreNames d.member d.token) A.deposits
  pub censuses : AllByRecursion IsValidCensus A.censuses

-- elements with the same member and the same token are at the same index
abbrev pub AreUnique : {X : Type 0} → (X → List ℕ × List ℕ) → List X → Type 0
AreUnique {X} names xs =
    (i j : ℕ) (x y : X) → slice_get xs i ≡ Some x → slice_get xs j ≡ Some y → names x ≡ names y → i ≡ j

-- A member's token belongs to at most one deposit and at most one census. The two are independent.
pub record HasUniqueTokens (A : Archive) : Type 0 where
  pub deposits : AreUnique (λ d. (d.member, d.token)) A.deposits
  pub censuses : AreUnique (λ c. (c.member, c.token)) A.censuses

-- The tables represent these deposits and these censuses as in `Holds`, except that the rows of a tally may be in any
-- order.
pub record HoldsInAnyOrder (t : Tables) (k : Kept) : Type 0 where
  pub schema : t.schema ≡ archive_schema
  pub committed : t.in_transaction ≡ false
  pub layout : t.layout ≡ version_2
  pub deposits : t.deposits ≡ rows_by deposit_cells 1 k.deposits
  pub censuses : t.censuses ≡ rows_by census_cells 1 k.censuses
  pub census_rows : t.census_rows ≡ rows_by count_cells 1 (counts_from 1 k.censuses)
  pub census_flags : t.census_flags ≡ rows_by flag_cells 1 k.censuses
  pub filed : AllByRecursion IsFiled k.deposits
  pub few_deposits : length k.deposits < 2 ^ 63
  pub few_censuses : length k.censuses < 2 ^ 63

-- The tables represent the archive except for its tallies and flags: each census has some tally that adds up, and some
-- flag. The rows of a tally may be in any order.
pub record RepresentsButForCounts {S : Type 0} (a : ArchiveView S) (A : Archive) : Type 0 where
  pub capacity : a.capacity ≡ A.capacity
  pub each : EachHasDeposit A.deposits A.censuses
  pub counts : List Tallied
  pub are : map (λ (t : Tallied). t.census) counts ≡ A.censuses
  pub add_up : AllByRecursion (λ t. AddsUp t.tally) counts
  pub holds : HoldsInAnyOrder a.tables (record { deposits = A.deposits; censuses = counts })

-- The schema is an archive's, and `layout` names version 2.
pub record HaveLayout (t : Tables) : Type 0 where
  pub schema : t.schema ≡ archive_schema
  pub layout : t.layout ≡ version_2

-- This is the first error: everything that a check reads before it is right.
abbrev pub IsFirstError : Bool → Tables → Wrong → Type 0
IsFirstError quick t wrong.Tables = t.schema ≢ archive_schema
IsFirstError quick t wrong.Layout = (t.schema ≡ archive_schema) × (t.layout ≢ version_2)
IsFirstError quick t (wrong.Deposit id) = HaveLayout t × IsFirstWrong deposit_cells IsNamed IsFiled t.deposits id
IsFirstError quick t (wrong.DepositNames id) = HaveLayout t × IsFirstWrong deposit_cells IsNamed IsNamed t.deposits id
IsFirstError quick t (wrong.Census id) =
    HaveLayout t × (ds : List Deposit) × (t.deposits ≡ rows_by deposit_cells 1 ds) × AllByRecursion IsNamed ds
    × IsFirstWrongCensus quick t.censuses t.census_rows t.census_flags ds id

-- The tables don't represent an archive or, for the last two errors, one that valid requests can make.
abbrev pub AreNoArchive : {S : Type 0} → ArchiveView S → Wrong → Type 0
AreNoArchive a wrong.Tables = (A : Archive) → Represents a A → ⊥
AreNoArchive a wrong.Layout = (A : Archive) → Represents a A → ⊥
AreNoArchive a (wrong.Deposit id) = (A : Archive) → Represents a A → ⊥
AreNoArchive a (wrong.DepositNames id) = (A : Archive) → IsAskedFor A → Represents a A → ⊥
AreNoArchive a (wrong.Census id) = (A : Archive) → IsAskedFor A → Represents a A → ⊥

-- the same, and this error is the first one
abbrev pub RepresentsNone : {S : Type 0} → Bool → ArchiveView S → Wrong → Type 0
RepresentsNone quick a w = AreNoArchive a w × IsFirstError quick a.tables w

-- the tables represent an archive with this many deposits and censuses, apart from its counts if the check is quick, or
-- they don't represent an archive
abbrev pub RepresentsSome : {S : Type 0} → Bool → ArchiveView S → CheckVerdict → Type 0
RepresentsSome quick a (Sound d c) =
    (A : Archive) × Represents a A × (length A.deposits ≡ d) × (length A.censuses ≡ c) × IsAskedFor A
    × HasUniqueTokens A × (quick ≡ false)
RepresentsSome quick a (SoundButForCounts d c) =
    (A : Archive) × RepresentsButForCounts a A × (length A.deposits ≡ d) × (length A.censuses ≡ c)
    × IsAskedFor A × HasUniqueTokens A × (quick ≡ true)
RepresentsSome quick a (NotSound w) = RepresentsNone quick a w
