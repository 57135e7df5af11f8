-- Rows of packed words in a frame, and the set of cells that they represent.
use Rattle.std.specs.Prelude.{◌≡◌, ℕ, ◌+◌, ◌*◌, ◌/◌, ◌%◌, ◌<◌, ℤ, pos, negsuc, ◌+ℤ◌, ◌≤ℤ◌, neg_ℤ, Bool, true, false}
use Rattle.std.specs.Prelude.{◌&&◌, nat_eq, nat_lt, List, map, length}
use Rattle.std.specs.List.{filter, range_with_len}
use Rattle.std.specs.FinSet as set
use Rattle.life_core.specs.declared.cell.Cell.{Cell}
use Rattle.life_core.specs.declared.packed.frame.Frame.{Frame}
use Rattle.life_core.specs.Cell.{cell_at}
use Rattle.life_core.specs.Pattern.{Cells}
use Rattle.life_core.specs.PackedRow.{place}

-- the cell in column x and row y of a box
abbrev pub cell_in : ℤ → ℤ → ℕ → ℕ → Cell
cell_in left top x y = cell_at (left +ℤ pos x, top +ℤ pos y)

-- the cell of place p, in rows of width places
abbrev pub cell_of : ℤ → ℤ → ℕ → ℕ → Cell
cell_of left top width p = cell_in left top (p % width) (p / width)

-- the places before the n-th at which the words are set
abbrev pub places_below : List ℕ → ℕ → List ℕ
places_below words n = filter (λ p. nat_eq (place words p) 1) (range_with_len 0 n)

-- the places of the words that are set
abbrev pub set_places : List ℕ → List ℕ
set_places words = places_below words (64 * length words)

-- the set that the words represent, in rows of width places
abbrev pub cells_of : ℤ → ℤ → ℕ → List ℕ → Cells
cells_of left top width words = set.from_list (map (cell_of left top width) (set_places words))

-- the set that the words represent in a frame
abbrev pub framed : Frame → List ℕ → Cells
framed f rows = cells_of f.left f.top (64 * f.words) rows

-- a nonempty frame near enough to the origin that no sum of coordinates wraps; its margins may lie outside the plane
pub record IsFrame (f : Frame) : Type 0 where
  pub wide : 0 < f.words
  pub tall : 0 < f.height
  pub from_left : neg_ℤ (pos 1100000000) ≤ℤ f.left
  pub to_right : (f.left +ℤ pos (64 * f.words)) ≤ℤ pos 1100000000
  pub from_top : neg_ℤ (pos 1100000000) ≤ℤ f.top
  pub to_bottom : (f.top +ℤ pos f.height) ≤ℤ pos 1100000000

-- a cell lies in the box
pub record IsIn (left top : ℤ) (width height : ℕ) (c : Cell) : Type 0 where
  pub from_left : left ≤ℤ c.column
  pub to_right : (c.column +ℤ pos 1) ≤ℤ (left +ℤ pos width)
  pub from_top : top ≤ℤ c.row
  pub to_bottom : (c.row +ℤ pos 1) ≤ℤ (top +ℤ pos height)

-- a cell lies in the box and not at its edge
pub record IsInner (left top : ℤ) (width height : ℕ) (c : Cell) : Type 0 where
  pub from_left : (left +ℤ pos 1) ≤ℤ c.column
  pub to_right : (c.column +ℤ pos 2) ≤ℤ (left +ℤ pos width)
  pub from_top : (top +ℤ pos 1) ≤ℤ c.row
  pub to_bottom : (c.row +ℤ pos 2) ≤ℤ (top +ℤ pos height)

-- no cell of X lies at the edge of the box, or outside it
pub record HasRoom (left top : ℤ) (width height : ℕ) (X : Cells) : Type 0 where
  pub inner : (c : Cell) → set.contains X c ≡ true → IsInner left top width height c

-- whether the place in column x and row y of the rows is set
abbrev pub bit_in : ℕ → List ℕ → ℤ → ℤ → Bool
bit_in width words (pos x) (pos y) =
    nat_lt x width && (nat_lt (y * width + x) (64 * length words) && nat_eq (place words (y * width + x)) 1)
bit_in width words (pos x) (negsuc y) = false
bit_in width words (negsuc x) y = false
