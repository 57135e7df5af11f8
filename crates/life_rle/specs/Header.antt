-- The form of the header line: `x = W, y = H`, optionally followed by `, rule = R` (LifeWiki, "Run Length Encoded").
use Rattle.std.specs.Prelude.{ℕ, codes, Bool, not, ◌||◌, List, [], ◌∷◌, length, ◌==◌, if◌then◌else◌, slice_index}
use Rattle.std.specs.Prelude.{Option, Some, None, Result, Ok, Err}
use Rattle.std.specs.Char.{is_ascii_digit, to_ascii_lowercase}
use Rattle.life_core.specs.Ascii.{capital_x, letter_x}
use Rattle.life_core.specs.RuleText.{after_while, ◌>>=◌}
use Rattle.life_rle.specs.declared.rle_fault.RleFault.{RleFault}
use Rattle.life_rle.specs.declared.rle_fault.RleFault.TheVariants.{NoHeader, BadHeader}

-- the text after these words, if it begins with them; the words are in lower case, the text in either case
abbrev pub after_words : List ℕ → List ℕ → Option (List ℕ)
after_words [] text = Some text
after_words (word ∷ words) [] = None
after_words (word ∷ words) (b ∷ text) = if to_ascii_lowercase b == word then after_words words text else None

-- the text without the digits at its front
abbrev pub past_digits : List ℕ → List ℕ
past_digits text = after_while is_ascii_digit text

-- the text after a number of one digit or more, if it begins with one
abbrev pub after_number : List ℕ → Option (List ℕ)
after_number [] = None
after_number (b ∷ text) = if is_ascii_digit b then Some (past_digits text) else None

-- the end of a header: empty, or `,rule=` and a rule text
unfoldable pub rule_part : List ℕ → Option (Option (List ℕ))
rule_part text =
    if length text == 0 then Some None
    else do
      rule ← after_words (codes ",rule=") text
      Some (Some rule)

-- the rule text, if any, of a header without blanks, such as `x=3,y=1,rule=B3/S23`; None if it doesn't have the form
unfoldable pub header_form : List ℕ → Option (Option (List ℕ))
header_form text = do
  width ← after_words (codes "x=") text
  comma ← after_number width
  height ← after_words (codes ",y=") comma
  rest ← after_number height
  rule_part rest

-- whether a text begins with `x` or `X`
abbrev pub begins_with_x : List ℕ → Bool
begins_with_x text = slice_index text 0 == letter_x || slice_index text 0 == capital_x

-- the rule text of a header that has the form; otherwise it is a bad header
abbrev pub formed : Option (Option (List ℕ)) → Result (Option (List ℕ)) RleFault
formed (Some rule) = Ok rule
formed None = Err BadHeader

-- the rule text, if any, of a header line without its blanks, or its fault
unfoldable pub header_rule : List ℕ → Result (Option (List ℕ)) RleFault
header_rule text = if not (begins_with_x text) then Err NoHeader else formed (header_form text)
