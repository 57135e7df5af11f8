-- Three rows of packed words as a set of cells, and what a step of the middle one is in the plane.
use Rattle.std.specs.Prelude.{◌≡◌, ℕ, ◌*◌, ℤ, pos, negsuc, false, nat_eq, List, ◌++◌, map, length}
use Rattle.std.specs.List.{filter, range_with_len}
use Rattle.std.specs.FinSet as set
use Rattle.life_core.specs.declared.cell.Cell.{Cell}
use Rattle.life_core.specs.Cell.{cell_at}
use Rattle.life_core.specs.Pattern.{Cells}
use Rattle.life_core.specs.Generations.{next}
use Rattle.life_core.specs.PackedRow.{one_if, place, next_place}
use Rattle.life_core.specs.Rule.{RuleSets}

-- the cells of row y in the columns whose places are set
abbrev pub row_cells : ℤ → List ℕ → List Cell
row_cells y ws = map (λ p. cell_at (pos p, y)) (filter (λ p. nat_eq (place ws p) 1) (range_with_len 0 (64 * length ws)))

-- the cells of three rows of the plane: the middle one at height 0, one above it and one below
abbrev pub cells_of_rows : List ℕ → List ℕ → List ℕ → Cells
cells_of_rows above here below =
    set.from_list (row_cells (negsuc 0) above ++ (row_cells (pos 0) here ++ row_cells (pos 1) below))

-- Under a rule without births from nothing, a place of the middle row is live next exactly when its cell is in the next
-- generation of the three rows.
abbrev pub PlacesAreNext : Type 0
PlacesAreNext =
    (r : RuleSets) (above here below : List ℕ) (p : ℕ) → set.contains r.birth 0 ≡ false
    → next_place r above here below p
    ≡ one_if (set.contains (next r (cells_of_rows above here below)) (cell_at (pos p, pos 0)))
