-- The cells that a Wechsler text spells.
use Rattle.std.specs.Prelude.{◌≡◌, ℕ, ◌+◌, ◌-◌, ◌*◌, ◌/◌, ◌%◌, ◌^◌, ◌<◌, ◌≤◌, Bool, true, false, ◌&&◌, ◌||◌, ◌==◌}
use Rattle.std.specs.Prelude.{nat_lt, nat_le, if◌then◌else◌, List, [], ◌∷◌, map, get_or, pos}
use Rattle.std.specs.List.{filter, range_with_len}
use Rattle.std.specs.FinSet as set
use Rattle.life_core.specs.Ascii.{digit_0, letter_x, letter_y, letter_z}
use Rattle.life_core.specs.declared.cell.Cell.{Cell}
use Rattle.life_core.specs.Cell.{cell_at}
use Rattle.life_core.specs.Pattern.{Cells}
use Rattle.life_code.specs.Wechsler.{value_of}

-- whether bit n is set: 5 has bits 0 and 2
abbrev pub has_bit : ℕ → ℕ → Bool
has_bit n value = ((value / 2 ^ n) % 2) == 1

-- whether a text spells the cell in column x and row y, counted from the top of a strip; the text continues at column k
-- of that strip, after a `y` if the flag is set
unfoldable pub spells_cell : ℕ → Bool → List ℕ → ℕ → ℕ → Bool
spells_cell k after_y [] x y = false
spells_cell k true (c ∷ text) x y = spells_cell (k + 4 + value_of c) false text x y
spells_cell k false (c ∷ text) x y =
    if c == letter_z then (if nat_lt y 5 then false else spells_cell 0 false text x (y - 5))
    else if c == digit_0 then spells_cell (k + 1) false text x y
    else if c == 119 then spells_cell (k + 2) false text x y
    else if c == letter_x then spells_cell (k + 3) false text x y
    else if c == letter_y then spells_cell k true text x y
    else if (k == x) && nat_lt y 5 then has_bit y (value_of c)
    else spells_cell (k + 1) false text x y

-- the cell with index i in a box of 40 columns, row by row: 41 is column 1 of row 1
abbrev pub cell_of_index : ℕ → Cell
cell_of_index i = cell_at (pos (i % 40), pos (i / 40))

-- the cells of the box of 40 by 40 that a text spells
unfoldable pub decoded : List ℕ → Cells
decoded text =
    set.from_list (map cell_of_index (filter (λ i. spells_cell 0 false text (i % 40) (i / 40)) (range_with_len 0 1600)))

-- ---- reading a text once

-- whether the cell in column x and row y is live, given the values of the columns. Each strip of five rows has 40
-- values, and the top strip comes first.
abbrev pub is_live : List ℕ → ℕ → ℕ → Bool
is_live columns x y = has_bit (y % 5) (get_or columns (40 * (y / 5) + x) 0)

-- whether that cell will be live after the rest of the text. The text continues at column k of strip s, after a `y` if
-- the flag is set.
abbrev pub awaited_cell : List ℕ → ℕ → ℕ → Bool → List ℕ → ℕ → ℕ → Bool
awaited_cell columns s k after_y text x y =
    is_live columns x y || (nat_le (5 * s) y && spells_cell k after_y text x (y - 5 * s))

-- all columns from column k of strip s on are still zero
abbrev pub AreBlank : List ℕ → ℕ → ℕ → Type 0
AreBlank columns s k = (x t : ℕ) → x < 40 → t < 8 → s ≤ t → (t ≡ s → k ≤ x) → get_or columns (40 * t + x) 0 ≡ 0
