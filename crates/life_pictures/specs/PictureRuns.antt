-- The longest runs of live cells in each row, and the path that fills them (W3C, "Scalable Vector Graphics 2", "Path
-- data").
use Rattle.std.specs.Prelude.{ℕ, ◌+◌, Bool, ◌==◌, ◌&&◌, if◌then◌else◌, List, [], ◌∷◌, ◌++◌, codes}
use Rattle.std.specs.List.{flat_map}
use Rattle.life_core.specs.Pattern.{Cells}
use Rattle.life_rle.specs.Body.{run}
use Rattle.life_rle.specs.Writer.{pairs_of}
use Rattle.life_pictures.specs.declared.picture_runs.Run.{Run}
use Rattle.life_pictures.specs.Numbers.{with_number}

-- whether a run begins directly right of a cell
abbrev pub is_right_of : ℕ × ℕ → Run → Bool
is_right_of cell run = run.row == cell.1 && run.column == cell.0 + 1

-- a run of this length from a cell on
abbrev pub run_from : ℕ × ℕ → ℕ → Run
run_from cell length = record { column = cell.0; row = cell.1; length = length }

-- the cells of a run
abbrev pub cells_of_run : Run → List (ℕ × ℕ)
cells_of_run r = run r.column r.row r.length

-- runs with one more cell (column, row) in front
abbrev pub before_runs : ℕ × ℕ → List Run → List Run
before_runs cell [] = run_from cell 1 ∷ []
before_runs cell (run ∷ runs) =
    if is_right_of cell run then run_from cell (run.length + 1) ∷ runs else run_from cell 1 ∷ run ∷ runs

-- the longest runs of cells that are in the order of rows and columns
unfoldable pub runs_of : List (ℕ × ℕ) → List Run
runs_of [] = []
runs_of (cell ∷ cells) = before_runs cell (runs_of cells)

-- the rectangle around a run, clockwise from its upper left corner; cells (0, 2) to (2, 2) give `M0 2h3v1h-3z`
unfoldable pub run_path : Run → List ℕ
run_path run =
    with_number (codes "M") run.column ++ with_number (codes " ") run.row ++ with_number (codes "h") run.length
    ++ with_number (codes "v1h-") run.length ++ codes "z"

-- the rectangles of all runs of a normal set, such as `M1 0h1v1h-1zM2 1h1v1h-1zM0 2h3v1h-3z` for a glider
unfoldable pub path : Cells → List ℕ
path X = flat_map run_path (runs_of (pairs_of X))
