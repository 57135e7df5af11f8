-- A picture as lines of half blocks: a character shows two cells, one above the other (Unicode, "Block Elements").
use Rattle.std.specs.Prelude.{ℕ, pos, ◌+◌, ◌*◌, Bool, true, false, ◌||◌, if◌then◌else◌, List, [], ◌∷◌, ◌++◌, map}
use Rattle.std.specs.List.{flat_map, range_with_len}
use Rattle.std.specs.Char.{encode_utf8}
use Rattle.std.specs.Int.{div_ceil}
use Rattle.std.specs.FinSet as set
use Rattle.life_core.specs.Ascii.{line_feed, space}
use Rattle.life_core.specs.Pattern.{Cells}
use Rattle.life_rle.specs.Writer.{pairs_of, width_of, height_of}

-- whether the cell at this column and row is live
abbrev pub is_live_at : Cells → ℕ → ℕ → Bool
is_live_at X column row = set.contains X (record { row = pos row; column = pos column })

-- the two cells of a column that line i shows: in row 2 i and in the row below
abbrev pub two_cells : Cells → ℕ → ℕ → Bool × Bool
two_cells X i column = (is_live_at X column (2 * i), is_live_at X column (2 * i + 1))

-- the character of two cells: a full block, its upper or its lower half, or a blank
abbrev pub half_block : Bool × Bool → ℕ
half_block (true, true) = 0x2588
half_block (true, false) = 0x2580
half_block (false, true) = 0x2584
half_block (false, false) = space

-- two cells in front of others; if both are dead and no others follow, they are left out
abbrev pub before_cells : Bool × Bool → List (Bool × Bool) → List (Bool × Bool)
before_cells two [] = if two.0 || two.1 then two ∷ [] else []
before_cells two (next ∷ others) = two ∷ next ∷ others

-- the list without its pairs of dead cells at the end
unfoldable pub trimmed : List (Bool × Bool) → List (Bool × Bool)
trimmed [] = []
trimmed (two ∷ others) = before_cells two (trimmed others)

-- the pairs of cells that line i shows, in this many columns
abbrev pub cells_of_line : Cells → ℕ → ℕ → List (Bool × Bool)
cells_of_line X width i = trimmed (map (two_cells X i) (range_with_len 0 width))

-- line i with this many columns and its line feed
unfoldable pub line : Cells → ℕ → ℕ → List ℕ
line X width i = flat_map (λ two. encode_utf8 (half_block two)) (cells_of_line X width i) ++ line_feed ∷ []

-- the lines of a normal set, over its box; those of a glider are ` ▀▄` and `▀▀▀`
unfoldable pub text : Cells → List ℕ
text X = flat_map (line X (width_of (pairs_of X))) (range_with_len 0 (div_ceil (height_of (pairs_of X)) 2))
