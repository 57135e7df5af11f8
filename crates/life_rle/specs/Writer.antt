-- The canonical text of a record: its texts, its header, and the longest runs of its cells in lines of at most 70 bytes
-- (LifeWiki, "Run Length Encoded": "lines should be no more than 70 characters").
use Rattle.std.specs.Prelude.{◌≤◌, ◌≤ℤ◌, ℕ, pos, codes, ◌+◌, ◌-◌, ◌==◌, max, nat_le, if◌then◌else◌, nat_abs, List, []}
use Rattle.std.specs.Prelude.{◌∷◌, ◌++◌, length, replicate, map, Option, Some, None}
use Rattle.std.specs.List.{flat_map, fold}
use Rattle.std.specs.Fmt.{decimal}
use Rattle.life_core.specs.Ascii.{capital_n, capital_o}
use Rattle.life_rle.specs.Tags.{dead_tag, live_tag, row_end_tag}
use Rattle.life_core.specs.declared.cell.Cell.{Cell}
use Rattle.life_core.specs.declared.cell.TheConstants.{PLANE}
use Rattle.life_core.specs.declared.runs.Run.{Run}
use Rattle.life_core.specs.Pattern.{Cells, in_order}
use Rattle.life_core.specs.RuleText.{rule_text}
use Rattle.life_core.specs.Runs.{first_cell}
use Rattle.life_rle.specs.Record.{Contents}

-- a body without counts, from this row and column on: a tag for each row end and each cell; a glider's is `bo$bbo$ooo`
unfoldable pub tags_from : ℕ → ℕ → List (ℕ × ℕ) → List ℕ
tags_from row column [] = []
tags_from row column (cell ∷ cells) =
    replicate (cell.1 - row) row_end_tag ++ replicate (cell.0 - (if cell.1 == row then column else 0)) dead_tag
    ++ live_tag ∷ tags_from cell.1 (cell.0 + 1) cells

-- runs with one more tag in front; a run is a count and a tag
abbrev pub onto_run : ℕ → List (ℕ × ℕ) → List (ℕ × ℕ)
onto_run tag [] = (1, tag) ∷ []
onto_run tag (run ∷ runs) = if run.1 == tag then (run.0 + 1, tag) ∷ runs else (1, tag) ∷ run ∷ runs

-- the longest runs of equal tags
unfoldable pub runs_of : List ℕ → List (ℕ × ℕ)
runs_of [] = []
runs_of (tag ∷ tags) = onto_run tag (runs_of tags)

-- the text of a run: its count, unless it is 1, and its tag, such as `3o` or `o`
abbrev pub item_text : ℕ × ℕ → List ℕ
item_text run = (if run.0 == 1 then [] else decimal run.0) ++ run.1 ∷ []

-- the items' texts, the last of them `!`
abbrev pub item_texts : List (ℕ × ℕ) → List (List ℕ)
item_texts cells = map item_text (runs_of (tags_from 0 0 cells)) ++ codes "!" ∷ []

-- the items in lines of at most 70 bytes, broken between items as late as possible; the first line already has `used`
-- bytes
unfoldable pub laid : ℕ → List (List ℕ) → List ℕ
laid used [] = codes "\n"
laid used (item ∷ items) =
    if nat_le (used + length item) 70 then item ++ laid (used + length item) items
    else codes "\n" ++ item ++ laid (length item) items

-- the line of a text, such as `#N text` for the letter `N`
abbrev pub text_line : ℕ → List ℕ → List ℕ
text_line letter text = codes "#" ++ (letter ∷ codes " ") ++ text ++ codes "\n"

-- the line of a text, if there is one
abbrev pub optional_line : ℕ → Option (List ℕ) → List ℕ
optional_line letter None = []
optional_line letter (Some text) = text_line letter text

-- `#C text`, or only `#C` if the text is empty
abbrev pub comment_line : List ℕ → List ℕ
comment_line text = if length text == 0 then codes "#C\n" else text_line 67 text

-- one past the greatest column, and 0 if there are no cells
abbrev pub width_of : List (ℕ × ℕ) → ℕ
width_of cells = fold (λ n cell. max n (cell.0 + 1)) 0 cells

-- one past the greatest row, and 0 if there are no cells
abbrev pub height_of : List (ℕ × ℕ) → ℕ
height_of cells = fold (λ n cell. max n (cell.1 + 1)) 0 cells

-- `x = W, y = H, rule = R`
abbrev pub header_line : ℕ → ℕ → List ℕ → List ℕ
header_line width height rule =
    codes "x = " ++ decimal width ++ (codes ", y = " ++ decimal height) ++ (codes ", rule = " ++ rule) ++ codes "\n"

-- a cell that a normal set may have: both coordinates lie between 0 and `PLANE`
pub record IsQuarterCell (c : Cell) : Type 0 where
  pub row_low : pos 0 ≤ℤ c.row
  pub row_high : c.row ≤ℤ pos PLANE
  pub column_low : pos 0 ≤ℤ c.column
  pub column_high : c.column ≤ℤ pos PLANE

-- a nonempty run whose first cell is one that a normal set may have
pub record IsQuarterRun (r : Run) : Type 0 where
  pub some : 1 ≤ r.len
  pub first : IsQuarterCell (first_cell r)

-- a cell of a normal set as a pair (column, row)
abbrev pub coordinates : Cell → ℕ × ℕ
coordinates c = (nat_abs c.column, nat_abs c.row)

-- the cells of a normal set as such pairs, by row and then by column
abbrev pub pairs_of : Cells → List (ℕ × ℕ)
pairs_of X = map coordinates (in_order X)

-- the canonical text of a record; for a blinker in a row it is `x = 3, y = 1, rule = B3/S23` and the line `3o!`
unfoldable pub text : Contents → List ℕ
text r =
    optional_line capital_n r.name ++ optional_line capital_o r.author ++ flat_map comment_line r.comments
    ++ header_line (width_of (pairs_of r.cells)) (height_of (pairs_of r.cells)) (rule_text r.rule)
    ++ laid 0 (item_texts (pairs_of r.cells))
