-- Laws that make the definitions of files believable. They describe canonical bodies, and the texts before a header,
-- independently of how they are computed. Reading gives records, and reverses writing.
use Rattle.std.specs.Prelude.{◌≡◌, ◌≢◌, ◌↔◌, ◌⊎◌, ◌≤◌, ◌<◌, ◌+◌, ◌^◌, ℕ, codes, ℤ, Bool, true, false, ◌||◌}
use Rattle.std.specs.Prelude.{if◌then◌else◌, List, [], ◌∷◌, ◌++◌, length, replicate, map, Option, Some, None, Ok}
use Rattle.std.specs.List.{AllByRecursion, flat_map, filter, find, join_with_byte}
use Rattle.std.specs.Option.{option_map}
use Rattle.std.specs.Char.{is_ascii_digit, to_ascii_lowercase}
use Rattle.life_core.specs.Ascii.{line_feed}
use Rattle.life_rle.specs.Tags.{dead_tag, live_tag, row_end_tag}
use Rattle.life_core.specs.declared.cell.TheConstants.{PLANE}
use Rattle.life_core.specs.Rule.{IsRule}
use Rattle.life_core.specs.Pattern.{IsBox, IsWithin}
use Rattle.life_rle.specs.Header.{header_form}
use Rattle.life_rle.specs.RleLines.{Line, named, authored, comment, ruled, line_kind, lines_of}
use Rattle.life_rle.specs.Notes.{no_notes, notes_of}
use Rattle.life_rle.specs.Body.{Item, items_of, placed}
use Rattle.life_rle.specs.Record.{Contents, HasNoLineEnd, IsRecord, IsInside}
use Rattle.life_rle.specs.File.{front_lines, kept, file}
use Rattle.life_rle.specs.Writer.{runs_of, item_text, item_texts, laid, pairs_of, width_of, height_of, text}

-- ---- lines, items, runs and boxes

-- The lines of a file, joined by line feeds, are its bytes, and no line has a line feed.
abbrev pub LinesAreTheFile : Type 0
LinesAreTheFile =
    (bytes : List ℕ) → (join_with_byte line_feed (lines_of bytes) ≡ bytes)
    × AllByRecursion HasNoLineEnd (lines_of bytes)

-- the byte of an item, if it has one
abbrev pub tag_bytes : Option ℕ → List ℕ
tag_bytes None = []
tag_bytes (Some byte) = byte ∷ []

-- an item is cut after its digits: these are only digits, and its byte is not a digit
pub record IsCut (item : Item) : Type 0 where
  pub digits : AllByRecursion (λ b. is_ascii_digit b ≡ true) item.digits
  pub tag : AllByRecursion (λ b. is_ascii_digit b ≡ false) (tag_bytes item.tag)

-- The digits and the bytes of a body's items, one after the other, are the body.
abbrev pub ItemsAreTheBody : Type 0
ItemsAreTheBody =
    (body : List ℕ) → (flat_map (λ (i : Item). i.digits ++ tag_bytes i.tag) (items_of body) ≡ body)
    × AllByRecursion IsCut (items_of body)

-- each run has a tag, and neighbours have different ones
abbrev pub AreMaximalRuns : List (ℕ × ℕ) → Type 0
AreMaximalRuns [] = Unit {0}
AreMaximalRuns (run ∷ []) = 0 < run.0
AreMaximalRuns (run ∷ next ∷ runs) = (0 < run.0) × (run.1 ≢ next.1) × AreMaximalRuns (next ∷ runs)

-- The runs of tags, spelled out, are the tags, and no two neighbouring runs could be one.
abbrev pub RunsAreLongest : Type 0
RunsAreLongest =
    (tags : List ℕ) → (flat_map (λ (run : ℕ × ℕ). replicate run.0 run.1) (runs_of tags) ≡ tags)
    × AreMaximalRuns (runs_of tags)

-- The header of a record's text has the width and height of the box of the record's cells.
abbrev pub HeadersGiveTheBox : Type 0
HeadersGiveTheBox =
    (r : Contents) (left top : ℤ) (width height : ℕ) → IsRecord r → IsBox r.cells left top width height
    → (width_of (pairs_of r.cells) ≡ width) × (height_of (pairs_of r.cells) ≡ height)

-- ---- the header line

-- digits, at least one
pub record IsNumber (text : List ℕ) : Type 0 where
  pub some : 1 ≤ length text
  pub digits : AllByRecursion (λ b. is_ascii_digit b ≡ true) text

-- the end of a header after its height: empty, or `,rule=` and a rule text
abbrev pub IsRuleEnd : Option (List ℕ) → List ℕ → Type 0
IsRuleEnd None end = end ≡ []
IsRuleEnd (Some rule) end = (words : List ℕ) × (map to_ascii_lowercase words ≡ codes ",rule=") × (end ≡ words ++ rule)

-- The form of a header without blanks, with its rule text if it has one: `x=`, a number, `,y=`, a number, and its end.
-- Letters are of either case.
pub record HasHeaderForm (text : List ℕ) (rule : Option (List ℕ)) : Type 0 where
  pub x : List ℕ
  pub width : List ℕ
  pub y : List ℕ
  pub height : List ℕ
  pub end : List ℕ
  pub is : text ≡ x ++ (width ++ (y ++ (height ++ end)))
  pub x_is : map to_ascii_lowercase x ≡ codes "x="
  pub width_is : IsNumber width
  pub y_is : map to_ascii_lowercase y ≡ codes ",y="
  pub height_is : IsNumber height
  pub rule_is : IsRuleEnd rule end

-- A header is read as its rule text exactly when it has the form.
abbrev pub HeadersAreRead : Type 0
HeadersAreRead = (text : List ℕ) (rule : Option (List ℕ)) → (header_form text ≡ Some rule) ↔ HasHeaderForm text rule

-- ---- canonical bodies

-- the characters of these runs: the count of each, unless it is 1, and its tag
abbrev pub spelled_runs : List (ℕ × ℕ) → List ℕ
spelled_runs runs = flat_map item_text runs

-- how many characters the first run has
abbrev pub first_length : List (ℕ × ℕ) → ℕ
first_length [] = 0
first_length (run ∷ runs) = length (item_text run)

-- no line of runs has more than 70 characters, and the first run of the next would not have fitted on it
abbrev pub AreFull : List (List (ℕ × ℕ)) → Type 0
AreFull [] = Unit {0}
AreFull (line ∷ []) = length (spelled_runs line) ≤ 70
AreFull (line ∷ next ∷ lines) =
    (length (spelled_runs line) ≤ 70) × (70 < length (spelled_runs line) + first_length next) × AreFull (next ∷ lines)

-- a row end, `$`, a dead cell, `b`, or a live cell, `o`
abbrev pub IsTag : ℕ → Type 0
IsTag tag = (tag ≡ row_end_tag) ⊎ ((tag ≡ dead_tag) ⊎ (tag ≡ live_tag))

-- no dead cells come before row ends, and the last run has live cells
abbrev pub EndInLiveCells : List (ℕ × ℕ) → Type 0
EndInLiveCells [] = Unit {0}
EndInLiveCells (run ∷ []) = run.1 ≡ live_tag
EndInLiveCells (run ∷ next ∷ runs) = (run.1 ≡ dead_tag → next.1 ≢ row_end_tag) × EndInLiveCells (next ∷ runs)

-- a canonical body of these cells
pub record IsCanonical (cells : List (ℕ × ℕ)) (body : List ℕ) : Type 0 where
  -- it consists of lines of runs with `!` after the last run, and each line is as full as it can be
  pub lines : List (List (ℕ × ℕ))
  pub runs : List (ℕ × ℕ)
  pub spells : body ≡ flat_map (λ line. spelled_runs line ++ codes "\n") lines
  pub ends : flat_map (λ line. line) lines ≡ runs ++ (1, 33) ∷ []
  pub full : AreFull lines
  -- the runs are of row ends, dead and live cells, counted in 64 bits; no two neighbours could be one, and no run is
  -- superfluous
  pub kinds : AllByRecursion (λ run. IsTag run.1) runs
  pub counts : AllByRecursion (λ run. run.0 < 2 ^ 64) runs
  pub apart : AreMaximalRuns runs
  pub live_end : EndInLiveCells runs
  -- read back, they place exactly these cells
  pub cells_back : placed (items_of (spelled_runs runs)) ≡ cells

-- the body with which the text of a record ends
abbrev pub body_of_record : Contents → List ℕ
body_of_record r = laid 0 (item_texts (pairs_of r.cells))

-- The body of a record's text is canonical ..
abbrev pub BodiesAreCanonical : Type 0
BodiesAreCanonical =
    (r : Contents) → IsRecord r → IsWithin PLANE r.cells → IsCanonical (pairs_of r.cells) (body_of_record r)

-- .. and cells have at most one canonical body, so these conditions determine it.
abbrev pub OneCanonicalBody : Type 0
OneCanonicalBody =
    (cells : List (ℕ × ℕ)) (body other : List ℕ) → IsCanonical cells body → IsCanonical cells other → body ≡ other

-- ---- texts

-- whether a line gives a name: `#N` and a text that is not empty
abbrev pub is_name : Line → Bool
is_name (named (b ∷ text)) = true
is_name line = false

-- whether a line gives an author: `#O` and a text that is not empty
abbrev pub is_author : Line → Bool
is_author (authored (b ∷ text)) = true
is_author line = false

-- whether a line gives a rule: `#r` and a text that is not empty
abbrev pub is_rule : Line → Bool
is_rule (ruled (b ∷ text)) = true
is_rule line = false

-- whether a line gives a comment: `#C` or `#c`, with or without a text
abbrev pub is_comment : Line → Bool
is_comment (comment text) = true
is_comment line = false

-- the text that a line gives
abbrev pub text_of_line : Line → List ℕ
text_of_line (named text) = text
text_of_line (authored text) = text
text_of_line (comment text) = text
text_of_line (ruled text) = text
text_of_line line = []

-- the text of the first line of a kind
abbrev pub first_text : (Line → Bool) → List Line → Option (List ℕ)
first_text p lines = option_map text_of_line (find p lines)

-- the lines without the first of a kind
abbrev pub without_first : (Line → Bool) → List Line → List Line
without_first p [] = []
without_first p (line ∷ lines) = if p line then lines else line ∷ without_first p lines

-- the texts of lines: the first name, the first author, and as comments all other names, authors and comments in their
-- order
pub record AreTextsOf (lines : List Line) (name author : Option (List ℕ)) (comments : List (List ℕ)) : Type 0 where
  pub name_first : name ≡ first_text is_name lines
  pub author_first : author ≡ first_text is_author lines
  pub others : comments ≡ map text_of_line (without_first is_name
      (without_first is_author (filter (λ line. is_name line || is_author line || is_comment line) lines)))

-- Lines before a header leave their texts and the first rule ..
abbrev pub NotesAreTheLines : Type 0
NotesAreTheLines =
    (lines : List (List ℕ)) → let notes = notes_of no_notes lines in
    let kinds = map line_kind lines in
    AreTextsOf kinds notes.name notes.author notes.comments × (notes.rule ≡ first_text is_rule kinds)

-- .. and a record that is read has the texts of the lines before its file's header.
abbrev pub TextsAreTheFile : Type 0
TextsAreTheFile =
    (bytes : List ℕ) (r : Contents) → kept bytes ≡ Ok r
    → AreTextsOf (map line_kind (front_lines (lines_of bytes))) r.name r.author r.comments

-- ---- reading and writing

-- Bytes that are read without a fault give a valid record.
abbrev pub RecordsAreRead : Type 0
RecordsAreRead = (bytes : List ℕ) (r : Contents) → kept bytes ≡ Ok r → IsRecord r

-- The text of a record in a box of at most 1024 by 1024 is read as that record ..
abbrev pub IsReadAgain : Type 0
IsReadAgain = (r : Contents) → IsRecord r → IsRule r.rule → IsInside 1024 r.cells → kept (text r) ≡ Ok r

-- .. and so is a file with that text, if the text is not too long.
abbrev pub IsFileAgain : Type 0
IsFileAgain =
    (r : Contents) → IsRecord r → IsRule r.rule → IsInside 1024 r.cells → length (text r) ≤ 1048576
    → file (text r) ≡ Ok r
