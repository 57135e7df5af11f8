-- Animations as SVG documents: one path, whose data change to those of the next generation, frame after frame (W3C,
-- "Scalable Vector Graphics 2", "Path data"; "SVG Animations Level 2", "The 'animate' element").
use Rattle.std.specs.Prelude.{ℕ, ◌+◌, ◌*◌, neg_ℤ, List, ◌++◌, codes, Option}
use Rattle.std.specs.List.{flat_map, range_with_len}
use Rattle.std.specs.FinSet as set
use Rattle.life_core.specs.declared.cell.Cell.{Cell}
use Rattle.life_core.specs.Cell.{moved_cell}
use Rattle.life_core.specs.Pattern.{Cells, image, in_order, corner, normal}
use Rattle.life_core.specs.Rule.{RuleSets}
use Rattle.life_core.specs.Generations.{generation_of}
use Rattle.life_rle.specs.Record.{Contents}
use Rattle.life_rle.specs.Writer.{pairs_of, width_of, height_of}
use Rattle.life_pictures.specs.Numbers.{with_number}
use Rattle.life_pictures.specs.PictureRuns.{path}
use Rattle.life_pictures.specs.Document.{front}

-- the cells of `count` generations, from X on; a cell occurs once for each generation in which it is live
abbrev pub trail_cells : RuleSets → Cells → ℕ → List Cell
trail_cells rule X count = flat_map (λ k. in_order (generation_of rule X k)) (range_with_len 0 count)

-- the cells that are live in at least one of these generations
unfoldable pub trail : RuleSets → Cells → ℕ → Cells
trail rule X count = set.from_list (trail_cells rule X count)

-- X in the coordinates of a box whose upper left cell is `at`
abbrev pub in_box : Cell → Cells → Cells
in_box at X = image (moved_cell (neg_ℤ at.column) (neg_ℤ at.row)) X

-- the data of a path for such a set; the first move draws nothing, so that the data are never empty
unfoldable pub frame : Cell → Cells → List ℕ
frame at X = codes "M0 0" ++ path (in_box at X)

-- the frames of this many generations after X, with a semicolon before each
abbrev pub next_frames : RuleSets → Cells → Cell → ℕ → List ℕ
next_frames rule X at count =
    flat_map (λ k. codes ";" ++ frame at (generation_of rule X (k + 1))) (range_with_len 0 count)

-- a path that shows the frames of X and of this many generations after it, each for 125 milliseconds, in a loop
unfoldable pub animated_path : RuleSets → Cells → Cell → ℕ → List ℕ
animated_path rule X at more =
    codes "<path d=\"" ++ frame at X
    ++ with_number (codes "\"><animate attributeName=\"d\" calcMode=\"discrete\" dur=\"") (125 * (more + 1))
    ++ codes "ms\" repeatCount=\"indefinite\" values=\"" ++ frame at X ++ next_frames rule X at more
    ++ codes "\"/></path>\n"

-- the document of X and this many generations after it, in the box of all of them
unfoldable pub moving : Option (List ℕ) → RuleSets → Cells → ℕ → List ℕ
moving name rule X more =
    let all = trail rule X (more + 1) in
    let box = pairs_of (normal all) in
    front (width_of box) (height_of box) name ++ animated_path rule X (corner all) more ++ codes "</svg>\n"

-- the document of generation n of a record and the `more` generations after it
abbrev pub animation : Contents → ℕ → ℕ → List ℕ
animation r n more = moving r.name r.rule (generation_of r.rule r.cells n) more
