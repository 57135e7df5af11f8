-- Counting the clusters of a set by code.
use Rattle.std.specs.Prelude.{◌≡◌, ℕ, List, map, length, count_by, Option, is_none}
use Rattle.std.specs.declared.cmp.Ordering.{Ordering}
use Rattle.std.specs.Ordering.{nat_cmp, eq_by_cmp}
use Rattle.std.specs.Cmp.Lexicographic.{slice_cmp}
use Rattle.std.specs.List.{filter_map}
use Rattle.std.specs.FinMap as table
use Rattle.life_core.specs.Pattern.{Cells}
use Rattle.life_census.specs.Rows.{TallyCounts}

-- ---- the tally

-- rows are ordered by their codes, byte by byte
abbrev pub row_cmp : List ℕ → List ℕ → Ordering
row_cmp = slice_cmp nat_cmp

-- how often a text occurs in a list
abbrev pub how_often : List ℕ → List (List ℕ) → ℕ
how_often t ts = count_by (eq_by_cmp row_cmp t) ts

-- each text of a list once, with its count, in the order of rows: `b`, `a`, `b` gives (`a`, 1), (`b`, 2)
unfoldable pub occurrences_of : List (List ℕ) → List (List ℕ × ℕ)
occurrences_of ts = table.entries (table.from_entries {R = row_cmp} (map (λ t. (t, how_often t ts)) ts))

-- t is the tally of a list of sets: their codes with counts, the number of sets without a code, and the number of all
-- sets
pub record IsTally (code : Cells → Option (List ℕ)) (Ps : List Cells) (t : TallyCounts) : Type 0 where
  pub rows : t.rows ≡ occurrences_of (filter_map code Ps)
  pub unresolved : t.unresolved ≡ count_by (λ P. is_none (code P)) Ps
  pub total : t.total ≡ length Ps

-- the tally as a function
abbrev pub tally_of : (Cells → Option (List ℕ)) → List Cells → TallyCounts
tally_of code Ps = record {
  rows = occurrences_of (filter_map code Ps);
  unresolved = count_by (λ P. is_none (code P)) Ps;
  total = length Ps;
}
