-- The meaning of a request's head (RFC 9112). `httparse` defines the grammar.
use Rattle.std.specs.Prelude.{ℕ, ◌-◌, ◌^◌, ◌==◌, ◌&&◌, ◌||◌, nat_lt, nat_le, min, Bool, true, false, if◌then◌else◌}
use Rattle.std.specs.Prelude.{List, [], ◌∷◌, length, map, filter, Option, None, Some, option_map, unwrap_or, codes}
use Rattle.std.specs.List.{list_any, list_all}
use Rattle.std.specs.Char.{is_ascii_digit}
use Rattle.std.specs.Str.{str_eq_ignore_ascii_case}
use Rattle.std.specs.Str.Parse.{digits_value}
use Rattle.httparse.specs.Ascii.{comma}
use Rattle.httparse.specs.Grammar.{RequestHead, trim_ows}
use Rattle.httparse.specs.Spans.{name_and_value}

-- a header line: its name, and its value without spaces and tabs at the ends
abbrev pub HeaderLine : Type 0
HeaderLine = List ℕ × List ℕ

-- the values of the lines with this name, which may be written in upper or lower case
abbrev pub values_of : List ℕ → List HeaderLine → List (List ℕ)
values_of name lines = map (λ l. l.1) (filter (λ l. str_eq_ignore_ascii_case l.0 name) lines)

-- the first of them
abbrev pub first_of : List (List ℕ) → Option (List ℕ)
first_of [] = None
first_of (v ∷ vs) = Some v

-- the greatest u64: larger numbers are read as this one
abbrev pub most : ℕ
most = 2 ^ 64 - 1

-- The number that one or more digits write, saturating at `most`. "007" is 7; "" and "-1" are None.
abbrev pub parsed_number : List ℕ → Option ℕ
parsed_number text =
    if nat_lt 0 (length text) && list_all is_ascii_digit text then Some (min (digits_value 10 text) most) else None

-- the most bytes that a body has
abbrev pub body_limit : ℕ
body_limit = 1048576

abbrev pub within_limit : Option ℕ → Option ℕ
within_limit None = None
within_limit (Some n) = if nat_le n body_limit then Some n else None

-- the length of the body from the content-length lines: 0 without one, and None if there are two
abbrev pub body_length : List (List ℕ) → Option ℕ
body_length [] = Some 0
body_length (v ∷ []) = within_limit (parsed_number v)
body_length (v ∷ w ∷ vs) = None

-- puts a byte in front of the first part
abbrev pub onto_first : ℕ → List (List ℕ) → List (List ℕ)
onto_first b [] = (b ∷ []) ∷ []
onto_first b (p ∷ ps) = (b ∷ p) ∷ ps

-- the parts between commas: "a,,b" has the three parts "a", "" and "b"
abbrev pub parts_between_commas : List ℕ → List (List ℕ)
parts_between_commas [] = [] ∷ []
parts_between_commas (b ∷ rest) =
    if b == comma then [] ∷ parts_between_commas rest else onto_first b (parts_between_commas rest)

-- whether one of the parts is the option close, in any case: "keep-alive, Close" has it
abbrev pub says_close : List ℕ → Bool
says_close value =
    list_any (λ part. str_eq_ignore_ascii_case (trim_ows part) (codes "close")) (parts_between_commas value)

-- the parts of a valid head that the request and the stream depend on
pub record Head : Type 0 where
  pub method : List ℕ
  pub target : List ℕ
  pub member : List ℕ
  pub token : List ℕ
  pub body : ℕ
  pub closes : Bool

abbrev pub has_some : List (List ℕ) → Bool
has_some [] = false
has_some (v ∷ vs) = true

-- a head with these parts, for a body of n bytes; HTTP/1.0, with minor version 0, closes the stream
abbrev pub head_with : List ℕ → List ℕ → ℕ → List HeaderLine → ℕ → Head
head_with method target minor lines n = record {
  method = method;
  target = target;
  member = unwrap_or (first_of (values_of (codes "x-member") lines)) [];
  token = unwrap_or (first_of (values_of (codes "x-token") lines)) [];
  body = n;
  closes = minor == 0 || list_any says_close (values_of (codes "connection") lines);
}

-- a head with these parts, if it is valid: a transfer-encoding is not supported
abbrev pub said_by : List ℕ → List ℕ → ℕ → List HeaderLine → Option Head
said_by method target minor lines =
    if has_some (values_of (codes "transfer-encoding") lines) then None
    else option_map (head_with method target minor lines) (body_length (values_of (codes "content-length") lines))

-- the most header lines of a head
abbrev pub line_limit : ℕ
line_limit = 32

-- the parts of a head that `httparse` read, if it is valid
abbrev pub head_of : RequestHead → Option Head
head_of h =
    if nat_lt line_limit (length h.fields) then None
    else said_by h.method h.target h.minor (map name_and_value h.fields)
