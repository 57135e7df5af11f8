-- Reading a file: its record, or its first fault (LifeWiki, "Run Length Encoded"; Golly's help, "File formats").
use Rattle.std.specs.Prelude.{ℕ, pos, map, List, [], ◌∷◌, length, take, drop, nat_lt, if◌then◌else◌, Option, Some, None}
use Rattle.std.specs.Prelude.{Result, Ok, Err}
use Rattle.std.specs.List.{flat_map, position_or_len}
use Rattle.std.specs.FinSet as set
use Rattle.life_core.specs.declared.cell.Cell.{Cell}
use Rattle.life_core.specs.Cell.{cell_at}
use Rattle.life_core.specs.Rule.{RuleSets, life}
use Rattle.life_core.specs.RuleText.{without_blanks, read_rule}
use Rattle.life_core.specs.Pattern.{normal}
use Rattle.life_rle.specs.declared.file_reader.TheConstants.{LONGEST_FILE}
use Rattle.life_rle.specs.declared.rle_fault.RleFault.{RleFault}
use Rattle.life_rle.specs.declared.rle_fault.RleFault.TheVariants.{TooLong, TextLimit, NoHeader}
use Rattle.life_rle.specs.RleFault.{in_file, ◌>>=◌}
use Rattle.life_rle.specs.RleLines.{lines_of, is_mark_line}
use Rattle.life_rle.specs.Notes.{Notes, no_notes, notes_of, is_header, is_past_limit}
use Rattle.life_rle.specs.Header.{header_rule}
use Rattle.life_rle.specs.Body.{body_cells}
use Rattle.life_rle.specs.Record.{Contents}

-- the lines before the header
abbrev pub front_lines : List (List ℕ) → List (List ℕ)
front_lines lines = take (position_or_len is_header lines) lines

-- the header, and the lines after it
abbrev pub header_lines : List (List ℕ) → List (List ℕ)
header_lines lines = drop (position_or_len is_header lines) lines

-- the rule: the header's if it gives one, else the rule of the first `#r` line, else Life
abbrev pub chosen_rule : Option (List ℕ) → Option (List ℕ) → Result RuleSets RleFault
chosen_rule (Some text) noted = in_file (read_rule text)
chosen_rule None (Some text) = in_file (read_rule text)
chosen_rule None None = Ok life

-- the bytes that a line adds to the body: none if it is marked with `#`
abbrev pub body_part : List ℕ → List ℕ
body_part line = if is_mark_line line then [] else without_blanks line

-- the cell of a pair (column, row)
abbrev pub cell_of : ℕ × ℕ → Cell
cell_of p = cell_at (pos p.0, pos p.1)

-- the record of these texts, this rule and the cells that a body places, moved so that the least column and the least
-- row are 0
abbrev pub contents : Notes → RuleSets → List (ℕ × ℕ) → Contents
contents notes rule cells =
    record {
      name = notes.name;
      author = notes.author;
      comments = notes.comments;
      rule = rule;
      cells = normal (set.from_list (map cell_of cells));
    }

-- the result of the lines from the header on, with the texts before them
unfoldable pub after_front : Notes → List (List ℕ) → Result Contents RleFault
after_front notes [] = Err NoHeader
after_front notes (line ∷ lines) = do
  given ← header_rule (without_blanks line)
  rule ← chosen_rule given notes.rule
  cells ← body_cells (flat_map body_part lines)
  Ok (contents notes rule cells)

-- the result of these lines, if the lines before them left the texts `before`
unfoldable pub read_lines : Notes → List (List ℕ) → Result Contents RleFault
read_lines before lines =
    let notes = notes_of before (front_lines lines) in
    if is_past_limit notes then Err TextLimit else after_front notes (header_lines lines)

-- the record, or the first fault, of a file of any length
unfoldable pub kept : List ℕ → Result Contents RleFault
kept bytes = read_lines no_notes (lines_of bytes)

-- the record, or the first fault, of a file
unfoldable pub file : List ℕ → Result Contents RleFault
file bytes = if nat_lt LONGEST_FILE (length bytes) then Err TooLong else kept bytes
