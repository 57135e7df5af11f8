-- The lines of a file, and their kinds (LifeWiki, "Run Length Encoded": lines that begin with `#`).
use Rattle.std.specs.Prelude.{ℕ, codes, not, ◌||◌, List, [], ◌∷◌, ◌++◌, reverse, length, drop, ◌==◌, if◌then◌else◌}
use Rattle.std.specs.Prelude.{slice_index, nat_eq, Bool}
use Rattle.std.specs.List.{starts_with}
use Rattle.life_core.specs.Ascii.{line_feed, hash, capital_n, capital_o}
use Rattle.life_core.specs.RuleText.{is_blank}

-- the lines of these bytes, if `line` is the part of the first line that came before them. After a final line feed
-- there is an empty line, which has no meaning.
unfoldable pub lines_after : List ℕ → List ℕ → List (List ℕ)
lines_after line [] = line ∷ []
lines_after line (b ∷ bytes) =
    if b == line_feed then line ∷ lines_after [] bytes else lines_after (line ++ b ∷ []) bytes

-- the lines of these bytes
abbrev pub lines_of : List ℕ → List (List ℕ)
lines_of bytes = lines_after [] bytes

-- a line without the blanks at its front
abbrev pub trim_start : List ℕ → List ℕ
trim_start [] = []
trim_start (b ∷ bytes) = if is_blank b then trim_start bytes else b ∷ bytes

-- a line without the blanks at its end
abbrev pub trim_end : List ℕ → List ℕ
trim_end line = reverse (trim_start (reverse line))

-- a line without the blanks at its front and at its end
abbrev pub trim : List ℕ → List ℕ
trim line = trim_end (trim_start line)

-- the kind of a line up to the header, with its text; `passed` lines are skipped
pub data Line : Type 0 where
  passed : Line
  named : List ℕ → Line
  authored : List ℕ → Line
  comment : List ℕ → Line
  ruled : List ℕ → Line
  header : Line

-- a line whose first byte other than a blank is `#`
abbrev pub is_mark_line : List ℕ → Bool
is_mark_line line = slice_index (trim_start line) 0 == hash

-- the kind of a line by the letter after `#`: `N` a name, `O` an author, `C` or `c` a comment, `r` a rule
abbrev pub marked : ℕ → List ℕ → Line
marked letter text =
    if letter == capital_n then named text
    else (if letter == capital_o then authored text
    else (if letter == 67 || letter == 99 then comment text
    else (if letter == 114 then ruled text
    else passed)))

-- the kind of a line; lines of blanks, and lines that begin with `#CXRLE`, which Golly writes, are skipped
unfoldable pub line_kind : List ℕ → Line
line_kind line =
    let front = trim_start line in
    if length front == 0 then passed
    else (if not (slice_index front 0 == hash) then header
    else (if starts_with nat_eq front (codes "#CXRLE") then passed
    else marked (slice_index front 1) (trim (drop 2 front))))
