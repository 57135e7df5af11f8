-- Decimal numbers in the texts of SVG documents.
use Rattle.std.specs.Prelude.{ℕ, List, ◌++◌}
use Rattle.std.specs.Fmt.{decimal}

-- a text, and a number after it in decimal digits
abbrev pub with_number : List ℕ → ℕ → List ℕ
with_number text n = text ++ decimal n
