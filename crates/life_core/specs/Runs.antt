-- Runs: adjacent cells of a row (as in run-length encoding, LifeWiki, "Run Length Encoded"), and lists of cells as
-- their longest runs.
use Rattle.std.specs.Prelude.{◌≡◌, ◌⊎◌, ℕ, zero, suc, ◌≤◌, ℤ, pos, neg_ℤ, ◌+ℤ◌, ◌-ℤ◌, ◌≤ℤ◌, ◌<ℤ◌, int_lt, int_le, Bool}
use Rattle.std.specs.Prelude.{◌&&◌, List, [], ◌∷◌, ◌++◌, ⊤}
use Rattle.std.specs.List.{flat_map, list_any, AllPairs}
use Rattle.std.specs.FinSet as set
use Rattle.std.specs.Ordering.{int_eq, eq_by_cmp}
use Rattle.life_core.specs.declared.cell.Cell.{Cell}
use Rattle.life_core.specs.declared.runs.Run.{Run}
use Rattle.life_core.specs.Cell.{cell_cmp, IsCellWithin}
use Rattle.life_core.specs.Pattern.{Cells}

-- this many cells of a row, from a column on
abbrev pub cells_from : ℤ → ℤ → ℕ → List Cell
cells_from row column zero = []
cells_from row column (suc n) = record { row = row; column = column } ∷ cells_from row (column +ℤ pos 1) n

-- the cells of a run
abbrev pub run_cells : Run → List Cell
run_cells r = cells_from r.row r.first r.len

-- the cells of runs, one run after the other
abbrev pub runs_cells : List Run → List Cell
runs_cells rs = flat_map run_cells rs

-- the first cell of a run
abbrev pub first_cell : Run → Cell
first_cell r = record { row = r.row; column = r.first }

-- the last cell of a run that has one
abbrev pub last_cell : Run → Cell
last_cell r = record { row = r.row; column = (r.first +ℤ pos r.len) -ℤ pos 1 }

-- whether a list has a cell
abbrev pub has_cell : List Cell → Cell → Bool
has_cell cs c = list_any (eq_by_cmp cell_cmp c) cs

-- the set of the cells of runs
unfoldable pub cells_in : List Run → Cells
cells_in rs = set.from_list (runs_cells rs)

-- a run moved dx columns to the right and dy rows down
abbrev pub moved_run : ℤ → ℤ → Run → Run
moved_run dx dy r = record { row = r.row +ℤ dy; first = r.first +ℤ dx; len = r.len }

-- r ends before s begins: in an earlier row, or further to the left
abbrev pub IsRunBefore : Run → Run → Type 0
IsRunBefore r s = (r.row <ℤ s.row) ⊎ ((r.row ≡ s.row) × ((r.first +ℤ pos r.len) ≤ℤ s.first))

-- each run ends before all later ones begin
abbrev pub AreRunsInOrder : List Run → Type 0
AreRunsInOrder = AllPairs IsRunBefore

-- all of r comes before the place, by row and then by column
abbrev pub IsBehind : Run → ℤ → ℤ → Type 0
IsBehind r row column = (r.row <ℤ row) ⊎ ((r.row ≡ row) × ((r.first +ℤ pos r.len) ≤ℤ column))

-- the last cell of r is at the place or comes after it, by row and then by column
abbrev pub IsAhead : Run → ℤ → ℤ → Type 0
IsAhead r row column = (row <ℤ r.row) ⊎ ((r.row ≡ row) × (column <ℤ (r.first +ℤ pos r.len)))

-- whether c is a cell of r
abbrev pub in_run : Run → Cell → Bool
in_run r c = int_eq r.row c.row && (int_le r.first c.column && int_lt c.column (r.first +ℤ pos r.len))

-- c is a cell of r
pub record IsInRun (r : Run) (c : Cell) : Type 0 where
  pub row : c.row ≡ r.row
  pub low : r.first ≤ℤ c.column
  pub high : c.column <ℤ (r.first +ℤ pos r.len)

-- the first and the last cell of a run lie between -k and k
pub record IsRunWithin (k : ℕ) (r : Run) : Type 0 where
  pub first : IsCellWithin k (first_cell r)
  pub last : IsCellWithin k (last_cell r)

-- s begins where r ends
abbrev pub Joins : Run → Run → Type 0
Joins r s = (r.row ≡ s.row) × ((r.first +ℤ pos r.len) ≡ s.first)

-- no run begins where r ends
abbrev pub NoneJoins : Run → List Run → Type 0
NoneJoins r [] = ⊤
NoneJoins r (s ∷ rs) = Joins r s → ⊥

-- a nonempty run that does not begin too far left, so that no sum of coordinates wraps
pub record IsRun (r : Run) : Type 0 where
  pub some : 1 ≤ r.len
  pub from : neg_ℤ (pos 1100000000) ≤ℤ r.first

-- No run begins where the one before it ends, so a list of cells has exactly one such list of runs.
abbrev pub AreLongest : List Run → Type 0
AreLongest [] = ⊤
AreLongest (r ∷ rs) = IsRun r × NoneJoins r rs × AreLongest rs

-- a prefix of these cells was appended to a list
abbrev pub GainsBeginning : List Cell → List Cell → List Cell → Type 0
GainsBeginning cells old new = (done : List Cell) × (rest : List Cell) × (cells ≡ done ++ rest) × (new ≡ old ++ done)
