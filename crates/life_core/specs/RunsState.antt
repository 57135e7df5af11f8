-- The states of lists of runs and of the functions on them.
use Rattle.std.specs.Prelude.{◌≡◌, ℕ, ◌<◌, ◌+◌, ◌^◌, ℤ, pos, neg_ℤ, ◌+ℤ◌, ◌≤ℤ◌, int_lt, int_le, Bool, ◌||◌, ◌&&◌, List}
use Rattle.std.specs.Prelude.{[], ◌∷◌, ◌++◌, length}
use Rattle.std.specs.Coded.{Coded, coded_list}
use Rattle.std.specs.Ordering.{int_eq}
use Rattle.life_core.specs.declared.cell.Cell.{Cell}
use Rattle.life_core.specs.declared.runs.Run.{Run}
use Rattle.life_core.specs.Cell.{coded_cell}
use Rattle.life_core.specs.Runs.{runs_cells, Joins, AreLongest}

-- whether all of r comes before the place, by row and then by column
abbrev pub is_before_cell : Run → ℤ → ℤ → Bool
is_before_cell r row column = int_lt r.row row || (int_eq r.row row && int_le (r.first +ℤ pos r.len) column)

-- a run begins in the plane
pub record IsNear (r : Run) : Type 0 where
  pub top : neg_ℤ (pos 1000000000) ≤ℤ r.row
  pub bottom : r.row ≤ℤ pos 1000000000
  pub left : neg_ℤ (pos 1000000000) ≤ℤ r.first
  pub right : r.first ≤ℤ pos 1000000000

-- lists of cells, as they are stored
abbrev pub coded_cell_list : Coded (List Cell)
coded_cell_list = coded_list coded_cell

-- longest runs that have n cells in total
pub record IsRunList (rs : List Run) (n : ℕ) : Type 0 where
  pub longest : AreLongest rs
  pub count : n ≡ length (runs_cells rs)

-- the run s begins where the last of the runs ends
pub record JoinsLast (rs : List Run) (s : Run) : Type 0 where
  pub front : List Run
  pub last : Run
  pub all : rs ≡ front ++ last ∷ []
  pub joins : Joins last s

-- there is a last run, and it can grow by this many cells
pub record LastFits (rs : List Run) (n : ℕ) : Type 0 where
  pub some : 0 < length rs
  pub fits : (front : List Run) (last : Run) → rs ≡ front ++ last ∷ [] → last.len + n < 2 ^ 32

-- the last run has grown by this many cells
abbrev pub IsLonger : List Run → List Run → ℕ → Type 0
IsLonger old new n =
    (front : List Run) (last : Run) → old ≡ front ++ last ∷ []
    → new ≡ front ++ record { row = last.row; first = last.first; len = last.len + n } ∷ []
