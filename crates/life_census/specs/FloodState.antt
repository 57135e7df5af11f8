-- A flood fill by runs: cells that chains connect to a start move from one set to another.
use Rattle.std.specs.Prelude.{◌≡◌, ◌⊎◌, ℕ, zero, suc, ◌+◌, ◌≤◌, ◌<◌, ℤ, pos, ◌+ℤ◌, ◌≤ℤ◌, ◌<ℤ◌, Bool, true, false, List}
use Rattle.std.specs.Prelude.{[], ◌∷◌, ◌++◌, length, slice_index_or, slice_set}
use Rattle.std.specs.List.{All, Contains, count_by}
use Rattle.std.specs.FinSet as set
use Rattle.life_core.specs.declared.cell.Cell.{Cell}
use Rattle.life_core.specs.Pattern.{Cells}
use Rattle.life_code.specs.Apart.{near}
use Rattle.life_core.specs.declared.runs.Run.{Run}
use Rattle.life_census.specs.Cluster.{AreJoined}
use Rattle.life_core.specs.Runs.{cells_in}

-- ---- sets

-- no cell of L is near a cell of P
abbrev pub IsClear : Cells → Cells → Type 0
IsClear P L = (c d : Cell) → set.contains P c ≡ true → near c d ≡ true → set.contains L d ≡ false

-- L is split into P and the rest, and chains connect the cells of P to the start
pub record IsFlood (L : Cells) (start : Cell) (P left : Cells) : Type 0 where
  pub begins : set.contains P start ≡ true
  pub taken : (c : Cell) → set.contains P c ≡ true → set.contains L c ≡ true
  pub kept : (c : Cell) → set.contains left c ≡ true → set.contains L c ≡ true
  pub split : (c : Cell) → set.contains L c ≡ true → (set.contains P c ≡ true) ⊎ (set.contains left c ≡ true)
  pub fresh : (c : Cell) → set.contains P c ≡ true → set.contains left c ≡ false
  pub joined : (c : Cell) → set.contains P c ≡ true → AreJoined L start c

-- ---- runs

-- whether n is not 0
abbrev pub is_some_number : ℕ → Bool
is_some_number zero = false
is_some_number (suc n) = true

-- the empty run that takes the place of a moved run
abbrev pub emptied : Run → Run
emptied r = record { row = r.row; first = r.first; len = 0 }

-- whether the run has a cell
abbrev pub is_filled : Run → Bool
is_filled r = is_some_number r.len

-- there is a run at place i, and it has a cell
abbrev pub IsFilledAt : List Run → ℕ → Type 0
IsFilledAt rs i = (i < length rs) × ((d : Run) → 1 ≤ (slice_index_or rs i d).len)

-- c is at most 2 rows and 2 columns from a cell of r, if r has one
pub record IsRound (r : Run) (c : Cell) : Type 0 where
  pub rows_up : r.row ≤ℤ (c.row +ℤ pos 2)
  pub rows_down : c.row ≤ℤ (r.row +ℤ pos 2)
  pub left : r.first ≤ℤ (c.column +ℤ pos 2)
  pub right : c.column <ℤ ((r.first +ℤ pos r.len) +ℤ pos 2)

-- s is r or a prefix of it
pub record IsKept (r s : Run) : Type 0 where
  pub row : s.row ≡ r.row
  pub first : s.first ≡ r.first
  pub len : s.len ≤ r.len

-- each run of the second list is the same run of the first, or a prefix of it
pub record AreKept (rs ss : List Run) : Type 0 where
  pub length : length ss ≡ length rs
  pub each : (k : ℕ) (d : Run) → IsKept (slice_index_or rs k d) (slice_index_or ss k d)

-- runs near r have moved from the first list to the end of the second, and a flood that has reached r remains one
pub record HasGrown (r : Run) (left cluster after grown : List Run) : Type 0 where
  pub more : (es : List Run) × (grown ≡ cluster ++ es)
  pub kept : AreKept left after
  pub as_many : count_by is_filled after + length grown ≡ count_by is_filled left + length cluster
  pub filled : All (λ s. 1 ≤ s.len) cluster → All (λ s. 1 ≤ s.len) grown
  pub flood : (X : Cells) (start : Cell) → 1 ≤ r.len → Contains cluster r
      → IsFlood X start (cells_in cluster) (cells_in left) → IsFlood X start (cells_in grown) (cells_in after)

-- the run r at place i has moved from the first list to the end of the second, unless it is empty
abbrev pub IsTaken : Run → ℕ → List Run → List Run → List Run → List Run → Type 0
IsTaken r i left cluster after grown =
    ((r.len ≡ 0) × (after ≡ left) × (grown ≡ cluster))
    ⊎ ((1 ≤ r.len) × (after ≡ slice_set left i (emptied r)) × (grown ≡ cluster ++ r ∷ []))

-- the first cell of the run comes before this cell, by row and then by column
abbrev pub BeginsBefore : Run → ℤ → ℤ → Type 0
BeginsBefore r row column = (r.row <ℤ row) ⊎ ((r.row ≡ row) × (r.first <ℤ column))

-- the first cell of the run is this cell or comes after it
abbrev pub BeginsAtOrAfter : Run → ℤ → ℤ → Type 0
BeginsAtOrAfter r row column = (row <ℤ r.row) ⊎ ((r.row ≡ row) × (column ≤ℤ r.first))
