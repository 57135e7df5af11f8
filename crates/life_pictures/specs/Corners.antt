-- The corners of the box of a set of cells.
use Rattle.std.specs.Prelude.{◌≡◌, ◌≤ℤ◌, ℤ, ℕ, ◌+ℤ◌, ◌≤◌, neg_ℤ, pos, ◌||◌, Option, None, Some}
use Rattle.std.specs.FinSet as set
use Rattle.life_core.specs.declared.cell.Cell.{Cell}
use Rattle.life_core.specs.Pattern.{Cells, IsLeast, IsGreatest}
use Rattle.life_pictures.specs.declared.corners.Corners.{Corners}

-- `count` columns or rows from `from` on, all within 4096 of the origin; frames reach at most 1024 + 2048 + 239
pub record IsNearSpan (from : ℤ) (count : ℕ) : Type 0 where
  pub some : 1 ≤ count
  pub low : neg_ℤ (pos 4096) ≤ℤ from
  pub high : (from +ℤ pos count) ≤ℤ pos 4097

-- corners of a box that lies within 4096 of the origin
pub record AreNear (e : Corners) : Type 0 where
  pub left : neg_ℤ (pos 4096) ≤ℤ e.first.column
  pub across : e.first.column ≤ℤ e.last.column
  pub right : e.last.column ≤ℤ pos 4096
  pub top : neg_ℤ (pos 4096) ≤ℤ e.first.row
  pub down : e.first.row ≤ℤ e.last.row
  pub bottom : e.last.row ≤ℤ pos 4096

-- the least and the greatest column and row of X, which lies within 4096 of the origin
pub record AreCorners (e : Corners) (X : Cells) : Type 0 where
  pub left : IsLeast (λ c. c.column) X e.first.column
  pub right : IsGreatest (λ c. c.column) X e.last.column
  pub top : IsLeast (λ c. c.row) X e.first.row
  pub bottom : IsGreatest (λ c. c.row) X e.last.row
  pub near : AreNear e

-- the corners of X, if it has a cell
abbrev pub HasCorners : Cells → Option Corners → Type 0
HasCorners X None = X ≡ set.empty
HasCorners X (Some e) = AreCorners e X

-- Z is the union of X and Y
abbrev pub AreTogether : Cells → Cells → Cells → Type 0
AreTogether X Y Z = (c : Cell) → set.contains Z c ≡ (set.contains X c || set.contains Y c)
