-- Frames of whole blocks, the room that sets have in them, and wider frames.
use Rattle.std.specs.Prelude.{◌≡◌, ℕ, pos, ◌+◌, ◌*◌, ◌/◌, ◌≤◌, ◌+ℤ◌, ◌-ℤ◌, ◌≤ℤ◌, true, nat_eq, if◌then◌else◌}
use Rattle.std.specs.FinSet as set
use Rattle.life_core.specs.declared.cell.Cell.{Cell}
use Rattle.life_core.specs.declared.packed.frame.Frame.{Frame}
use Rattle.life_core.specs.declared.packed.margins.Wider.{Wider}
use Rattle.life_core.specs.Pattern.{Cells}

-- a frame of whole blocks of two words and sixteen rows, in at least three lines
pub record IsWhole (f : Frame) : Type 0 where
  pub wide : f.words ≡ 2 * (f.words / 2)
  pub tall : f.height ≡ 16 * (f.height / 16)
  pub many : 3 ≤ f.height / 16

-- a cell lies in the frame, and more than n cells from the edges of the part without the first and the last line of
-- blocks
pub record IsAway (f : Frame) (n : ℕ) (c : Cell) : Type 0 where
  pub from_left : (f.left +ℤ pos (n + 1)) ≤ℤ c.column
  pub to_right : (c.column +ℤ pos (n + 2)) ≤ℤ (f.left +ℤ pos (64 * f.words))
  pub from_top : (f.top +ℤ pos (n + 17)) ≤ℤ c.row
  pub to_bottom : (c.row +ℤ pos (n + 18)) ≤ℤ (f.top +ℤ pos f.height)

-- all cells of X are that far away, so that the frame has room for n generations and no cell reaches an edge
pub record HasSlack (f : Frame) (n : ℕ) (X : Cells) : Type 0 where
  pub away : (c : Cell) → set.contains X c ≡ true → IsAway f n c

-- for how many generations there is room after the margins are checked, which happens only if n is 0
abbrev pub checked_room : ℕ → ℕ
checked_room n = if nat_eq n 0 then 31 else n

-- a frame that contains f and has w.left more words on the left and w.top more rows at the top, both in whole blocks
pub record IsWider (f : Frame) (w : Wider) : Type 0 where
  pub left : w.frame.left ≡ f.left -ℤ pos (64 * w.left)
  pub top : w.frame.top ≡ f.top -ℤ pos w.top
  pub wide : w.left + f.words ≤ w.frame.words
  pub tall : w.top + f.height ≤ w.frame.height
  pub columns : w.left ≡ 2 * (w.left / 2)
  pub lines : w.top ≡ 16 * (w.top / 16)
