-- Reading the censuses of an archive, with the rows of their tallies and their flags: the state, and the results.
use Rattle.std.specs.Prelude.{◌≡◌, ◌<◌, ◌≤◌, ◌+◌, ◌^◌, ◌==◌, ℕ, Bool, false, List, [], ◌∷◌, ◌++◌, length, sum_by, Some}
use Rattle.std.specs.Prelude.{IsSome, IfSome, Option}
use Rattle.std.specs.List.{AllByRecursion}
use Rattle.sqlite_value.specs.Order.{Row}
use Rattle.sqlite_trees.specs.Tree.{Trees}
use Rattle.sqlite_trees.specs.View.{View}
use Rattle.life_rle.specs.Record.{IsInside}
use Rattle.life_store.specs.declared.kept.Deposit.{Deposit}
use Rattle.life_store.specs.Kept.{Tallied, numbered}
use Rattle.life_store.specs.Stored.{IsFiled, rows_by, deposit_cells, census_cells, count_cells, flag_cells, tagged}
use Rattle.life_store.specs.Stored.{counts_from}
use Rattle.life_store.specs.Tables.{HasOrder}
use Rattle.life_desk.specs.Archive.{AddsUp}
use Rattle.life_desk.specs.Represents.{tallied}
use Rattle.life_check.specs.declared.walk.FoundCensuses.{FoundCensuses}
use Rattle.life_check.specs.declared.walk.FoundCensuses.TheVariants.{All, Wrong}
use Rattle.life_check.specs.ReadState.{census_row, flag_row, IsValidCensus}

-- The census's fields are valid in a request, its deposit exists, and its tally adds up. Unless the check is quick, its
-- tally and its flag are the computed ones, and the rows of the tally are in order.
pub record IsCounted (quick : Bool) (ds : List Deposit) (t : Tallied) : Type 0 where
  pub askable : IsValidCensus t.census
  pub deposit : Deposit
  pub there : numbered ds t.census.deposit ≡ Some deposit
  pub adds_up : AddsUp t.tally
  pub is : quick ≡ false → t ≡ tallied ds t.census
  pub ordered : quick ≡ false → HasOrder t.tally

-- the rows of the three tables represent exactly n censuses of these deposits
pub record AreCounted (quick : Bool) (trees : Trees) (ds : List Deposit) (n : ℕ) : Type 0 where
  pub censuses : List Tallied
  pub many : length censuses ≡ n
  pub good : AllByRecursion (IsCounted quick ds) censuses
  pub rows : trees 3 ≡ rows_by census_cells 1 censuses
  pub counts : trees 5 ≡ rows_by count_cells 1 (counts_from 1 censuses)
  pub flags : trees 7 ≡ rows_by flag_cells 1 censuses

-- each row of a tally counts one cluster or more
abbrev pub AreSome : List (List ℕ × ℕ) → Type 0
AreSome rows = AllByRecursion (λ row. 1 ≤ row.1) rows

-- The census's fields are valid in a request, its deposit exists, and its tally and its flag are the computed ones.
-- Such a tally adds up.
pub record IsTallied (ds : List Deposit) (t : Tallied) : Type 0 where
  pub askable : IsValidCensus t.census
  pub there : IsSome (numbered ds t.census.deposit)
  pub is : t ≡ tallied ds t.census
  pub adds_up : AddsUp t.tally
  pub some : AreSome t.tally.rows

-- the rows of the three tables represent exactly some such censuses of these deposits
pub record AreTallied (trees : Trees) (ds : List Deposit) : Type 0 where
  pub censuses : List Tallied
  pub good : AllByRecursion (IsTallied ds) censuses
  pub rows : trees 3 ≡ rows_by census_cells 1 censuses
  pub counts : trees 5 ≡ rows_by count_cells 1 (counts_from 1 censuses)
  pub flags : trees 7 ≡ rows_by flag_cells 1 censuses

-- the table of deposits has the rows of these; reading each file gives its record again
abbrev pub AreFiled : Trees → List Deposit → Type 0
AreFiled trees ds = (trees 1 ≡ rows_by deposit_cells 1 ds) × AllByRecursion IsFiled ds

-- the deposit that was read last is the one that the trees have under its number
abbrev pub IsKnown : View → Option (ℕ × Deposit) → Type 0
IsKnown v last = (ds : List Deposit) → AreFiled v.trees ds → IfSome last (λ known. numbered ds known.0 ≡ Some known.1)

abbrev pub IsInsideSquare : Option (ℕ × Deposit) → Type 0
IsInsideSquare last = IfSome last (λ known. IsInside 1024 known.1.content.cells)

-- The census with this number is the first wrong one in the three tables. The rows of the earlier ones are right. Rows
-- are left, and they don't begin with a census of this number, its tally's rows and its flag.
pub record IsFirstWrongCensus (quick : Bool) (rows counts flags : List Row) (ds : List Deposit) (id : ℕ) : Type 0 where
  pub before : List Tallied
  pub number : id ≡ length before + 1
  pub good : AllByRecursion (IsCounted quick ds) before
  pub left : List Row
  pub left_counts : List Row
  pub left_flags : List Row
  pub rows_are : rows ≡ rows_by census_cells 1 before ++ left
  pub counts_are : counts ≡ rows_by count_cells 1 (counts_from 1 before) ++ left_counts
  pub flags_are : flags ≡ rows_by flag_cells 1 before ++ left_flags
  pub some : left ≡ [] → left_counts ≡ [] → left_flags ≡ [] → ⊥
  pub bad : (t : Tallied) → IsTallied ds t → (more more_counts more_flags : List Row)
      → left ≡ census_row id t ∷ more
      → left_counts ≡ rows_by count_cells (length (counts_from 1 before) + 1) (tagged id t.tally.rows) ++ more_counts
      → left_flags ≡ flag_row id t ∷ more_flags → ⊥

-- The result for the three tables. All: the rows represent n censuses. Wrong: no valid censuses have these rows, and
-- the first wrong one has this number.
abbrev pub FindsCounted : Bool → Trees → FoundCensuses → Type 0
FindsCounted quick trees (All n) =
    ((ds : List Deposit) → AreFiled trees ds → AreCounted quick trees ds n) × (n < 2 ^ 63)
FindsCounted quick trees (Wrong n) =
    ((ds : List Deposit) → AreFiled trees ds → AreTallied trees ds → ⊥)
    × ((ds : List Deposit) → AreFiled trees ds → IsFirstWrongCensus quick (trees 3) (trees 5) (trees 7) ds n)

-- The cursor will return these rows next.
pub record IsBefore (cursor : ℕ) (rows : List Row) (v : View) : Type 0 where
  pub left : List Row
  pub at : v.cursors cursor ≡ Some (rows ++ left)

-- The cursor returned these rows. The other cursors have not moved.
pub record Takes (cursor : ℕ) (rows : List Row) (old now : View) : Type 0 where
  pub left : List Row
  pub was : old.cursors cursor ≡ Some (rows ++ left)
  pub at : now.cursors cursor ≡ Some left
  pub others : (d : ℕ) → (d == cursor) ≡ false → now.cursors d ≡ old.cursors d
  pub trees : now.trees ≡ old.trees

-- The cursor of the tallies' rows returned rows with the number of the census and this many clusters in all.
pub record TakesClusters (id clusters before more : ℕ) (old now : View) : Type 0 where
  pub rows : List (List ℕ × ℕ)
  pub are : sum_by (λ (row : List ℕ × ℕ). row.1) rows ≡ clusters
  pub more_is : more ≡ before + length rows
  pub takes : Takes 1 (rows_by count_cells (before + 1) (tagged id rows)) old now

-- The row belongs to this census under this number, and the other two cursors are before its rows and its flag.
pub record AwaitsCensus (ds : List Deposit) (id before : ℕ) (row : Row) (t : Tallied) (v : View) : Type 0 where
  pub good : IsTallied ds t
  pub row_is : row ≡ census_row id t
  pub counts : IsBefore 1 (rows_by count_cells (before + 1) (tagged id t.tally.rows)) v
  pub flag : IsBefore 2 (flag_row id t ∷ []) v

-- The cursors are before the rows of the censuses after the first n, whose tallies have this many rows.
pub record AwaitsRest (ds : List Deposit) (n read : ℕ) (v : View) : Type 0 where
  pub rest : List Tallied
  pub good : AllByRecursion (IsTallied ds) rest
  pub at : v.cursors 0 ≡ Some (rows_by census_cells (n + 1) rest)
  pub at_counts : v.cursors 1 ≡ Some (rows_by count_cells (read + 1) (counts_from (n + 1) rest))
  pub at_flags : v.cursors 2 ≡ Some (rows_by flag_cells (n + 1) rest)

-- The first n censuses are read, with this many rows of tallies.
pub record HasCounted (quick : Bool) (ds : List Deposit) (n read : ℕ) (old now : View) : Type 0 where
  pub trees : now.trees ≡ old.trees
  pub done : List Tallied
  pub many : length done ≡ n
  pub good : AllByRecursion (IsCounted quick ds) done
  pub reads : length (counts_from 1 done) ≡ read
  pub left : List Row
  pub at : now.cursors 0 ≡ Some left
  pub rows : old.trees 3 ≡ rows_by census_cells 1 done ++ left
  pub left_counts : List Row
  pub at_counts : now.cursors 1 ≡ Some left_counts
  pub counts : old.trees 5 ≡ rows_by count_cells 1 (counts_from 1 done) ++ left_counts
  pub left_flags : List Row
  pub at_flags : now.cursors 2 ≡ Some left_flags
  pub flags : old.trees 7 ≡ rows_by flag_cells 1 done ++ left_flags

-- The row belongs to such a census under this number, and the other two cursors returned its rows and its flag.
pub record Follows (quick : Bool) (ds : List Deposit) (id before more : ℕ) (row : Row) (old now : View) : Type 0 where
  pub census : Tallied
  pub good : IsCounted quick ds census
  pub row_is : row ≡ census_row id census
  pub more_is : more ≡ before + length census.tally.rows
  pub middle : View
  pub counts : Takes 1 (rows_by count_cells (before + 1) (tagged id census.tally.rows)) old middle
  pub flag : Takes 2 (flag_row id census ∷ []) middle now
