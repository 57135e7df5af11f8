-- The texts in the lines before the header: a name, an author, comments and a rule (LifeWiki, "Run Length Encoded").
use Rattle.std.specs.Prelude.{ℕ, Bool, true, false, ◌||◌, List, [], ◌∷◌, ◌++◌, length, ◌==◌, nat_lt, if◌then◌else◌}
use Rattle.std.specs.Prelude.{Option, Some, None, is_some}
use Rattle.std.specs.List.{fold, list_any}
use Rattle.life_rle.specs.declared.notes.Notes as code
use Rattle.life_rle.specs.declared.notes.TheConstants.{LONGEST_TEXT, MOST_COMMENTS}
use Rattle.life_rle.specs.RleLines.{Line, passed, named, authored, comment, ruled, header, line_kind}

-- the texts so far
pub record Notes : Type 0 where
  pub name : Option (List ℕ)
  pub author : Option (List ℕ)
  pub comments : List (List ℕ)
  pub rule : Option (List ℕ)

-- no texts
abbrev pub no_notes : Notes
no_notes = record { name = None; author = None; comments = []; rule = None }

-- the texts with one more comment
abbrev pub with_comment : Notes → List ℕ → Notes
with_comment notes text = record notes { comments = notes.comments ++ text ∷ [] }

-- the texts after one more line: later names and authors become comments; later rules are dropped, and so are empty
-- names, authors and rules
abbrev pub with_line : Notes → Line → Notes
with_line notes passed = notes
with_line notes (named text) =
    if length text == 0 then notes
    else (if is_some notes.name then with_comment notes text else record notes { name = Some text })
with_line notes (authored text) =
    if length text == 0 then notes
    else (if is_some notes.author then with_comment notes text else record notes { author = Some text })
with_line notes (comment text) = with_comment notes text
with_line notes (ruled text) =
    if length text == 0 || is_some notes.rule then notes else record notes { rule = Some text }
with_line notes header = notes

-- whether a line of this kind is the header
abbrev pub is_header_kind : Line → Bool
is_header_kind passed = false
is_header_kind (named text) = false
is_header_kind (authored text) = false
is_header_kind (comment text) = false
is_header_kind (ruled text) = false
is_header_kind header = true

-- whether a line is the header
abbrev pub is_header : List ℕ → Bool
is_header line = is_header_kind (line_kind line)

-- the texts after these lines
abbrev pub notes_of : Notes → List (List ℕ) → Notes
notes_of notes lines = fold (λ n line. with_line n (line_kind line)) notes lines

-- a text has too many bytes
abbrev pub is_long : List ℕ → Bool
is_long text = nat_lt LONGEST_TEXT (length text)

-- whether there is a text, and it has too many
abbrev pub is_long_text : Option (List ℕ) → Bool
is_long_text None = false
is_long_text (Some text) = is_long text

-- a kept text has too many bytes, or there are too many comments
abbrev pub is_past_limit : Notes → Bool
is_past_limit notes =
    is_long_text notes.name || is_long_text notes.author || list_any is_long notes.comments
    || nat_lt MOST_COMMENTS (length notes.comments)

-- the code's texts as a value of `Notes`
abbrev pub notes : {A : Type 0} → code.Notes A → Notes
notes n = record { name = n.name; author = n.author; comments = n.comments; rule = n.rule }
