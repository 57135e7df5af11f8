-- Eight-sided boxes around cells.
use Rattle.std.specs.Prelude.{◌+ℤ◌, ◌-ℤ◌, ◌≤ℤ◌}
use Rattle.life_core.specs.declared.cell.Cell.{Cell}
use Rattle.life_core.specs.Cell.{moved_cell}
use Rattle.life_code.specs.declared.part_frames.Frame.{Frame}

-- the cell lies in the box
pub record IsInFrame (f : Frame) (c : Cell) : Type 0 where
  pub left : f.columns.least ≤ℤ c.column
  pub right : c.column ≤ℤ f.columns.greatest
  pub top : f.rows.least ≤ℤ c.row
  pub bottom : c.row ≤ℤ f.rows.greatest
  pub sum_from : f.sums.least ≤ℤ (c.row +ℤ c.column)
  pub sum_to : (c.row +ℤ c.column) ≤ℤ f.sums.greatest
  pub difference_from : f.differences.least ≤ℤ (c.row -ℤ c.column)
  pub difference_to : (c.row -ℤ c.column) ≤ℤ f.differences.greatest

-- every cell of the first box lies in the second
unfoldable pub IsWider : Frame → Frame → Type 0
IsWider f g = (c : Cell) → IsInFrame f c → IsInFrame g c

-- every cell of the first box, moved by the columns and rows of v, lies in the second
unfoldable pub HasMoved : Frame → Cell → Frame → Type 0
HasMoved f v g = (c : Cell) → IsInFrame f c → IsInFrame g (moved_cell v.column v.row c)
