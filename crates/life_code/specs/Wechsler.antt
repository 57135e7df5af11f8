-- The extended Wechsler text of a normal set (LifeWiki, "Apgcode": the set is cut into strips of five rows, each column
-- of a strip is one character, and runs of empty columns have characters of their own).
use Rattle.std.specs.Prelude.{ℕ, ◌+◌, ◌-◌, ◌*◌, ◌/◌, ◌==◌, nat_lt, if◌then◌else◌, List, [], ◌∷◌, ◌++◌, map, pos}
use Rattle.std.specs.List.{range_with_len, join_with_byte}
use Rattle.std.specs.FinSet as set
use Rattle.life_core.specs.Ascii.{digit_0, letter_x, letter_y, letter_z}
use Rattle.life_core.specs.Cell.{cell_at}
use Rattle.life_core.specs.Pattern.{Cells, past_greatest}

-- ---- the box of a normal set

-- the number of columns of a normal set's box
unfoldable pub width : Cells → ℕ
width X = past_greatest (λ c. c.column) X

-- the number of its rows
unfoldable pub height : Cells → ℕ
height X = past_greatest (λ c. c.row) X

-- ---- characters

-- the character of a value up to 35: `0` to `9`, then `a` to `z`
abbrev pub character : ℕ → ℕ
character n = if nat_lt n 10 then 48 + n else 87 + n

-- the value of such a character: `9` is 9, `a` is 10
abbrev pub value_of : ℕ → ℕ
value_of c = if nat_lt c 58 then c - 48 else c - 87

-- a run of n empty columns before another column: nothing for 0, `0`, `w` and `x` for 1 to 3, `y` and a character for
-- 4 to 39
abbrev pub zero_run : ℕ → List ℕ
zero_run n =
    if n == 0 then []
    else if n == 1 then digit_0 ∷ []
    else if n == 2 then 119 ∷ []
    else if n == 3 then letter_x ∷ []
    else letter_y ∷ character (n - 4) ∷ []

-- the text of the remaining columns after n empty ones: 1, 0, 0, 0, 0, 0, 2, 0 is `1y12`, without the empty column at
-- the end
unfoldable pub spelled : ℕ → List ℕ → List ℕ
spelled n [] = []
spelled n (value ∷ columns) =
    if value == 0 then spelled (n + 1) columns else zero_run n ++ character value ∷ spelled 0 columns

-- ---- the text

-- 1 if the cell in this column and row is live
abbrev pub bit_at : Cells → ℕ → ℕ → ℕ
bit_at X x y = if set.contains X (cell_at (pos x, pos y)) then 1 else 0

-- column x of strip s as a number, whose bit of value 1 is the top row: the glider `3o$2bo$bo!` has columns 1, 5 and 3
unfoldable pub column_value : Cells → ℕ → ℕ → ℕ
column_value X s x =
    bit_at X x (5 * s) + 2 * bit_at X x (5 * s + 1) + 4 * bit_at X x (5 * s + 2) + 8 * bit_at X x (5 * s + 3)
    + 16 * bit_at X x (5 * s + 4)

-- the text of strip s
unfoldable pub strip : Cells → ℕ → List ℕ
strip X s = spelled 0 (map (column_value X s) (range_with_len 0 (width X)))

-- the texts of the strips from the top, joined by `z`; the glider above has one strip and the text `153`
unfoldable pub wechsler : Cells → List ℕ
wechsler X = join_with_byte letter_z (map (strip X) (range_with_len 0 ((height X + 4) / 5)))
