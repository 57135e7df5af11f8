-- Lists of cells as a pattern stores them.
use Rattle.std.specs.Prelude.{◌≡◌, ◌≢◌, Option, None, Some, ℕ, ℤ, List, [], map}
use Rattle.std.specs.List.{All}
use Rattle.std.specs.List.Sorted.{IsStrictlySortedBy}
use Rattle.life_core.specs.declared.cell.Cell.{Cell}
use Rattle.life_core.specs.Cell.{cell_cmp, moved_cell, IsCellWithin}

-- a list of cells: ascending, and within k
pub record IsCellList (k : ℕ) (cs : List Cell) : Type 0 where
  pub sorted : IsStrictlySortedBy cell_cmp cs
  pub inside : All (IsCellWithin k) cs

-- the translation that takes each cell of cs to the cell at the same index of ds: None if cs is empty or there is no
-- such translation
abbrev pub ShiftsListTo : List Cell → List Cell → Option (ℤ × ℤ) → Type 0
ShiftsListTo cs ds None = (dx dy : ℤ) → map (moved_cell dx dy) cs ≡ ds → cs ≡ []
ShiftsListTo cs ds (Some move) = (cs ≢ []) × (map (moved_cell move.0 move.1) cs ≡ ds)
