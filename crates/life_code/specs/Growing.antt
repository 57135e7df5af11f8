-- Pairs of live cells that send the first row of a pattern one row further in each generation.
use Rattle.std.specs.Prelude.{◌≡◌, ◌≤ℤ◌, ℤ, pos, ◌+ℤ◌, ◌-ℤ◌, true, false}
use Rattle.std.specs.FinSet as set
use Rattle.life_core.specs.declared.cell.Cell.{Cell}
use Rattle.life_core.specs.Cell.{cell_at}
use Rattle.life_core.specs.Pattern.{Cells}
use Rattle.life_core.specs.Rule.{RuleSets}

-- the two cells before column x and the two after column x + 1 are dead in row y
pub record IsAlone (X : Cells) (x y : ℤ) : Type 0 where
  pub second_left : set.contains X (cell_at (x -ℤ pos 2, y)) ≡ false
  pub left : set.contains X (cell_at (x -ℤ pos 1, y)) ≡ false
  pub right : set.contains X (cell_at (x +ℤ pos 2, y)) ≡ false
  pub second_right : set.contains X (cell_at (x +ℤ pos 3, y)) ≡ false

-- The cells in columns x and x + 1 of row y are live. Unless three live neighbours give a birth, the two nearest cells
-- on either side must be dead: `2o` has such a pair under B2/S and under B23/S, `3o` only under B23/S.
pub record HasPair (r : RuleSets) (X : Cells) (x y : ℤ) : Type 0 where
  pub left : set.contains X (cell_at (x, y)) ≡ true
  pub right : set.contains X (cell_at (x +ℤ pos 1, y)) ≡ true
  pub alone : set.contains r.birth 3 ≡ false → IsAlone X x y

-- all cells of X lie in the rows from top to bottom
abbrev pub LiesInRows : Cells → ℤ → ℤ → Type 0
LiesInRows X top bottom = (c : Cell) → set.contains X c ≡ true → (top ≤ℤ c.row) × (c.row ≤ℤ bottom)
