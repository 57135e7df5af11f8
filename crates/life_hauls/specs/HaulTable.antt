-- The table of a haul: its arguments, the counts and the sums. The counts are comma-separated values (RFC 4180 with a
-- header), but lines end in a line feed without a carriage return.
use Rattle.std.specs.Prelude.{ℕ, List, [], ◌∷◌, ◌++◌, codes, Option, None, Some}
use Rattle.std.specs.Fmt.{decimal}
use Rattle.std.specs.List.{flat_map}
use Rattle.life_core.specs.Ascii.{line_feed, comma}
use Rattle.life_core.specs.Rule.{RuleSets}
use Rattle.life_core.specs.RuleText.{rule_text}
use Rattle.life_hauls.specs.declared.haul_rows.Occurrences.{Occurrences}
use Rattle.life_hauls.specs.declared.symmetry.Symmetry.{Symmetry}
use Rattle.life_hauls.specs.declared.symmetry.Symmetry.TheVariants.{C1}
use Rattle.life_hauls.specs.Hauls.{HaulCounts}
use Rattle.life_hauls.specs.Soups.{symmetry_name}

-- a line: a name and a text
unfoldable pub named : List ℕ → List ℕ → List ℕ
named name text = name ++ text ++ line_feed ∷ []

-- the line of the symmetry; C1 has none
unfoldable pub symmetry_line : Symmetry → List ℕ
symmetry_line C1 = []
symmetry_line s = named (codes "# symmetry ") (symmetry_name s)

-- the arguments of a haul, a line each: the root, the text of the rule, the generation, the limit on the period, and
-- the symmetry
abbrev pub heading : Symmetry → List ℕ → List ℕ → ℕ → ℕ → List ℕ
heading s root rule n limit =
    named (codes "# root ") root ++ named (codes "# rule ") rule ++ named (codes "# generation ") (decimal n)
    ++ named (codes "# limit ") (decimal limit) ++ symmetry_line s

-- a count, a comma, and the number of the first soup
abbrev pub occurrences_text : Occurrences → List ℕ
occurrences_text s = decimal s.count ++ comma ∷ decimal s.first

-- the same for clusters without a code: `0,` if there are none
abbrev pub unresolved_text : Option Occurrences → List ℕ
unresolved_text None = codes "0,"
unresolved_text (Some s) = occurrences_text s

-- the line of a code with its occurrences: `xs4_33,5,17` counts five blocks, the first in soup 17
abbrev pub line : List ℕ × Occurrences → List ℕ
line row = row.0 ++ comma ∷ occurrences_text row.1 ++ line_feed ∷ []

-- a header, a line for each code, and a line for the clusters without a code
abbrev pub counts_text : HaulCounts → List ℕ
counts_text h =
    codes "code,count,first\n" ++ flat_map line h.rows ++ codes "unresolved,"
    ++ unresolved_text h.unresolved ++ codes "\n"

-- the number of clusters, and the number of soups with the number of the first
abbrev pub sums_text : ℕ → HaulCounts → List ℕ
sums_text first h =
    codes "clusters," ++ decimal h.total ++ codes ",\nsoups," ++ decimal h.soups ++ comma ∷ decimal first ++ codes "\n"

-- the complete table
abbrev pub csv_text : Symmetry → List ℕ → RuleSets → ℕ → ℕ → ℕ → HaulCounts → List ℕ
csv_text s root rule n limit first h = heading s root (rule_text rule) n limit ++ counts_text h ++ sums_text first h
