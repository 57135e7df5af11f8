-- A tally as comma-separated values (RFC 4180 with a header, but lines end in a line feed without a carriage return).
use Rattle.std.specs.Prelude.{ℕ, List, [], ◌∷◌, ◌++◌, codes}
use Rattle.std.specs.Fmt.{decimal}
use Rattle.std.specs.List.{flat_map}
use Rattle.life_core.specs.Ascii.{line_feed, comma}
use Rattle.life_census.specs.Rows.{TallyCounts}

-- a line: a text, a comma, a number in decimal digits, and a line feed
abbrev pub line : List ℕ → ℕ → List ℕ
line text n = text ++ comma ∷ decimal n ++ line_feed ∷ []

-- a header, a line for each code, and the number of clusters without a code: a block gives the lines `code,count`,
-- `xs4_33,1` and `unresolved,0`
abbrev pub lines : List (List ℕ × ℕ) → ℕ → List ℕ
lines rows unresolved =
    codes "code,count" ++ line_feed ∷ flat_map (λ row. line row.0 row.1) rows ++ line (codes "unresolved") unresolved

-- the text of a tally
abbrev pub csv_text : TallyCounts → List ℕ
csv_text t = lines t.rows t.unresolved
