-- Hauls: for each code its count over many soups, and the first soup that has it (Catagolue, "haul" and "census").
use Rattle.std.specs.Prelude.{ℕ, zero, suc, ◌+◌, min, Bool, true, false, List, [], ◌∷◌, ◌++◌, map, length, sum_by}
use Rattle.std.specs.Prelude.{count_by, filter, Option, None, Some, option_map, is_none, refl}
use Rattle.std.specs.Coded.{Coded, code_by, coded×, coded_ℕ, coded_list, coded_option}
use Rattle.std.specs.List.{filter_map, flat_map, range_with_len}
use Rattle.std.specs.FinMap as table
use Rattle.life_core.specs.Generations.{generation_of}
use Rattle.life_core.specs.Rule.{RuleSets}
use Rattle.life_code.specs.Codes.{code_of}
use Rattle.life_census.specs.Cluster.{clusters_of}
use Rattle.life_census.specs.Counting.{row_cmp, how_often}
use Rattle.life_hauls.specs.declared.haul_rows.Occurrences.{Occurrences}
use Rattle.life_hauls.specs.declared.haul_rows.HaulRow.{HaulRow}
use Rattle.life_hauls.specs.declared.symmetry.Symmetry.{Symmetry}
use Rattle.life_hauls.specs.Soups.{soup_of}

-- ---- the content of a haul

-- a row as its code and its occurrences
abbrev pub row_seen : {A : Type 0} → HaulRow A → List ℕ × Occurrences
row_seen r = (r.code, r.seen)

-- the counts of a haul: codes with their occurrences, the clusters without a code, the number of soups, and the number
-- of all clusters
pub record HaulCounts : Type 0 where
  pub rows : List (List ℕ × Occurrences)
  pub unresolved : Option Occurrences
  pub soups : ℕ
  pub total : ℕ

-- encodes occurrences as a pair
abbrev pub coded_occurrences : Coded Occurrences
coded_occurrences =
    code_by (ℕ × ℕ) (coded× coded_ℕ coded_ℕ) (λ s. (s.count, s.first))
    (λ p. record { count = p.0; first = p.1 }) (λ _. refl)

-- encodes the counts as nested pairs
abbrev pub coded_counts : Coded HaulCounts
coded_counts =
    code_by (List (List ℕ × Occurrences) × (Option Occurrences × (ℕ × ℕ)))
    (coded× (coded_list (coded× (coded_list coded_ℕ) coded_occurrences))
    (coded× (coded_option coded_occurrences) (coded× coded_ℕ coded_ℕ)))
    (λ h. (h.rows, (h.unresolved, (h.soups, h.total))))
    (λ p. record { rows = p.0; unresolved = p.1.0; soups = p.1.1.0; total = p.1.1.1 })
    (λ _. refl)

-- ---- occurrences in soups

-- the smaller of a number and another, if there is another
abbrev pub lesser_number : ℕ → Option ℕ → ℕ
lesser_number n None = n
lesser_number n (Some m) = min n m

-- the least number of a list, if it is not empty
abbrev pub least_number : List ℕ → Option ℕ
least_number [] = None
least_number (n ∷ ns) = Some (lesser_number n (least_number ns))

-- whether n is not 0
abbrev pub is_positive : ℕ → Bool
is_positive zero = false
is_positive (suc n) = true

-- If soup i has f i clusters of some sort: how many the soups with these numbers have together, and the least number
-- of a soup with one. `None` if no soup has any.
unfoldable pub seen : (ℕ → ℕ) → List ℕ → Option Occurrences
seen f ns =
    option_map (λ i. record { count = sum_by f ns; first = i }) (least_number (filter (λ i. is_positive (f i)) ns))

-- each text of a list for which f has a value, once, with this value, in byte order
unfoldable pub rows_by : (List ℕ → Option Occurrences) → List (List ℕ) → List (List ℕ × Occurrences)
rows_by f ts = table.entries (table.from_entries {R = row_cmp} (filter_map (λ t. option_map (λ s. (t, s)) (f t)) ts))

-- adds occurrences: the counts add up, and the smaller number of a soup is the first
abbrev pub both : Occurrences → Occurrences → Occurrences
both a b = record { count = a.count + b.count; first = min a.first b.first }

-- adds occurrences to earlier ones, if there are any
abbrev pub more : Option Occurrences → Occurrences → Occurrences
more None s = s
more (Some a) s = both a s

-- adds the occurrences in two hauls, each of which may have none
abbrev pub joined : Option Occurrences → Option Occurrences → Option Occurrences
joined a None = a
joined a (Some s) = Some (more a s)

-- the codes of those clusters that have one
abbrev pub texts_in : List (Option (List ℕ)) → List (List ℕ)
texts_in os = filter_map (λ o. o) os

-- The counts over the soups with these numbers. `codes i` lists the codes of soup i's clusters, with None for a
-- cluster without a code.
unfoldable pub counts_over : (ℕ → List (Option (List ℕ))) → List ℕ → HaulCounts
counts_over codes ns = record {
  rows = rows_by (λ t. seen (λ i. how_often t (texts_in (codes i))) ns) (flat_map (λ i. texts_in (codes i)) ns);
  unresolved = seen (λ i. count_by is_none (codes i)) ns;
  soups = length ns;
  total = sum_by (λ i. length (codes i)) ns;
}

-- the sum of two hauls, which may come from different machines
unfoldable pub together : HaulCounts → HaulCounts → HaulCounts
together a b = record {
  rows =
      rows_by (λ t. joined (table.find row_cmp t a.rows) (table.find row_cmp t b.rows))
      (map (λ e. e.0) (a.rows ++ b.rows));
  unresolved = joined a.unresolved b.unresolved;
  soups = a.soups + b.soups;
  total = a.total + b.total;
}

-- the codes of the clusters of generation n of soup i
abbrev pub soup_codes : Symmetry → List ℕ → RuleSets → ℕ → ℕ → ℕ → List (Option (List ℕ))
soup_codes s root rule n limit i =
    map (λ P. code_of rule P limit) (clusters_of (generation_of rule (soup_of s root i) n))

-- the haul over `count` soups, beginning with number `first`
abbrev pub haul_of : Symmetry → List ℕ → RuleSets → ℕ → ℕ → ℕ → ℕ → HaulCounts
haul_of s root rule n limit first count = counts_over (soup_codes s root rule n limit) (range_with_len first count)
