-- The live cells of the box of 40 by 40 at the origin, with a flag for each cell, row by row.
use Rattle.std.specs.Prelude.{◌≡◌, ℕ, ◌+◌, ◌*◌, ◌<◌, Bool, false, if◌then◌else◌, List, pos, get_or}
use Rattle.std.specs.FinSet as set
use Rattle.life_core.specs.declared.cell.Cell.{Cell}
use Rattle.life_core.specs.Cell.{cell_at}
use Rattle.life_core.specs.Pattern.{Cells}
use Rattle.life_core.specs.Runs.{has_cell}
use Rattle.life_code.specs.DecodeState.{cell_of_index}

-- a flag is set if the list has the cell
abbrev pub Marks : List Bool → List Cell → Type 0
Marks flags cells = (i : ℕ) → i < 1600 → get_or flags i false ≡ has_cell cells (cell_of_index i)

-- a flag is set if the cell is live
abbrev pub Shows : List Bool → Cells → Type 0
Shows flags X = (x y : ℕ) → x < 40 → y < 40 → get_or flags (40 * y + x) false ≡ set.contains X (cell_at (pos x, pos y))

-- 1 if the flag is set
abbrev pub bit_of : List Bool → ℕ → ℕ
bit_of flags i = if get_or flags i false then 1 else 0

-- the five flags of column x in strip s as a number; a strip has 5 * 40 = 200 flags
abbrev pub shown_value : List Bool → ℕ → ℕ → ℕ
shown_value flags s x =
    bit_of flags (200 * s + x) + 2 * bit_of flags (200 * s + 40 + x) + 4 * bit_of flags (200 * s + 80 + x)
    + 8 * bit_of flags (200 * s + 120 + x) + 16 * bit_of flags (200 * s + 160 + x)
