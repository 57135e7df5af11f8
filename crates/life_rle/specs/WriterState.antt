-- Cells that are written in their order, as runs and as items.
use Rattle.std.specs.Prelude.{ℕ, List, ◌++◌, ◌≡◌, ◌⊎◌, ◌≤◌, ◌<◌, ◌+◌, ◌==◌, if◌then◌else◌, nat_abs, [], ◌∷◌, replicate}
use Rattle.std.specs.Prelude.{map}
use Rattle.life_rle.specs.Tags.{live_tag}
use Rattle.life_rle.specs.Writer.{item_text, runs_of, tags_from, IsQuarterRun}
use Rattle.life_core.specs.declared.runs.Run.{Run}

-- the cells are in the order of rows and columns, from this row and column on, each once
abbrev pub InOrder : ℕ → ℕ → List (ℕ × ℕ) → Type 0
InOrder row column [] = Unit {0}
InOrder row column (cell ∷ cells) =
    (row ≤ cell.1) × (row ≡ cell.1 → column ≤ cell.0) × InOrder cell.1 (cell.0 + 1) cells

-- the texts of the items for `live` cells before this place, and for the cells after them
abbrev pub texts_from : ℕ → ℕ → ℕ → List (ℕ × ℕ) → List (List ℕ)
texts_from live row column cells = map item_text (runs_of (replicate live live_tag ++ tags_from row column cells))

-- the text of an item of this count, or nothing if it is 0
abbrev pub counted : ℕ → ℕ → List (List ℕ)
counted count tag = if count == 0 then [] else item_text (count, tag) ∷ []

-- the column of a run's first cell
abbrev pub column_of : Run → ℕ
column_of r = nat_abs r.first

-- the row of a run's first cell
abbrev pub row_of : Run → ℕ
row_of r = nat_abs r.row

-- a run that may follow `live` cells right before this place: it comes later, by row and then by column, and is not
-- adjacent to them
pub record IsNextRun (row column live : ℕ) (r : Run) : Type 0 where
  pub cells : IsQuarterRun r
  pub below : row ≤ row_of r
  pub right : row ≡ row_of r → column ≤ column_of r
  pub apart : 0 < live → (row < row_of r) ⊎ (column < column_of r)

-- runs each of which may follow the one before it, the first after these live cells
abbrev pub AreNextRuns : ℕ → ℕ → ℕ → List Run → Type 0
AreNextRuns row column live [] = Unit {0}
AreNextRuns row column live (r ∷ rs) =
    IsNextRun row column live r × AreNextRuns (row_of r) (column_of r + r.len) r.len rs
