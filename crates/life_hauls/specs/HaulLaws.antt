-- Laws that show that the definitions of hauls mean what they should.
use Rattle.std.specs.Prelude.{◌≡◌, ◌↔◌, ◌≤◌, ℕ, ◌+◌, List, map, sum_by, Option, None, Some}
use Rattle.std.specs.Option.{unwrap_or}
use Rattle.std.specs.List.{Contains, range_with_len}
use Rattle.std.specs.List.Sorted.{IsStrictlySortedBy}
use Rattle.std.specs.FinMap as table
use Rattle.life_core.specs.Generations.{generation_of}
use Rattle.life_core.specs.Rule.{RuleSets}
use Rattle.life_code.specs.Codes.{code_of}
use Rattle.life_census.specs.Cluster.{clusters_of}
use Rattle.life_census.specs.Rows.{TallyCounts}
use Rattle.life_census.specs.Counting.{row_cmp, tally_of}
use Rattle.life_hauls.specs.declared.haul_rows.Occurrences.{Occurrences}
use Rattle.life_hauls.specs.Hauls.{HaulCounts, seen, joined, together, haul_of}
use Rattle.life_hauls.specs.declared.symmetry.Symmetry.{Symmetry}
use Rattle.life_hauls.specs.Soups.{soup_of}

-- ---- many machines

-- The haul over two adjacent ranges is the sum of the hauls over each ..
abbrev pub HaulsAddUp : Type 0
HaulsAddUp =
    (s : Symmetry) (root : List ℕ) (rule : RuleSets) (n limit first a b : ℕ) → haul_of s root rule n limit first (a + b)
    ≡ together (haul_of s root rule n limit first a) (haul_of s root rule n limit (first + a) b)

-- .. which joins the occurrences of each code: it adds the counts, and keeps the smaller number of a first soup ..
abbrev pub TogetherByCodes : Type 0
TogetherByCodes =
    (a b : HaulCounts) (code : List ℕ) → table.find row_cmp code (together a b).rows
    ≡ joined (table.find row_cmp code a.rows) (table.find row_cmp code b.rows)

-- .. in either order ..
abbrev pub TogetherInAnyOrder : Type 0
TogetherInAnyOrder = (a b : HaulCounts) → together a b ≡ together b a

-- .. and in any grouping.
abbrev pub TogetherInAnyGrouping : Type 0
TogetherInAnyGrouping = (a b c : HaulCounts) → together (together a b) c ≡ together a (together b c)

-- ---- occurrences

-- the number of clusters in occurrences that may be missing
abbrev pub count_of : Option Occurrences → ℕ
count_of None = 0
count_of (Some s) = s.count

-- The count is the sum over the soups; the first soup has one, and no soup with a smaller number does ..
abbrev pub SeenIsLeast : Type 0
SeenIsLeast =
    (f : ℕ → ℕ) (ns : List ℕ) (s : Occurrences) → seen f ns ≡ Some s → (s.count ≡ sum_by f ns)
    × Contains ns s.first × (1 ≤ f s.first) × ((i : ℕ) → Contains ns i → 1 ≤ f i → s.first ≤ i)

-- .. and there are no occurrences if and only if the sum is 0.
abbrev pub NothingIsSeen : Type 0
NothingIsSeen = (f : ℕ → ℕ) (ns : List ℕ) → (seen f ns ≡ None) ↔ (sum_by f ns ≡ 0)

-- ---- tallies

-- the tally of generation n of soup i
abbrev pub soup_tally : Symmetry → List ℕ → RuleSets → ℕ → ℕ → ℕ → TallyCounts
soup_tally s root rule n limit i =
    tally_of (λ P. code_of rule P limit) (clusters_of (generation_of rule (soup_of s root i) n))

-- the number of clusters in a tally that have this code
abbrev pub count_in : List ℕ → TallyCounts → ℕ
count_in code t = unwrap_or (table.find row_cmp code t.rows) 0

-- The row of a code has its occurrences in the tallies of the soups; there is no row if no tally has the code ..
abbrev pub RowsAreOfTallies : Type 0
RowsAreOfTallies = (s : Symmetry) (root : List ℕ) (rule : RuleSets) (n limit first count : ℕ) (code : List ℕ)
    → table.find row_cmp code (haul_of s root rule n limit first count).rows
    ≡ seen (λ i. count_in code (soup_tally s root rule n limit i)) (range_with_len first count)

-- .. the codes of the rows ascend, byte by byte ..
abbrev pub RowsAscend : Type 0
RowsAscend =
    (s : Symmetry) (root : List ℕ) (rule : RuleSets) (n limit first count : ℕ) → IsStrictlySortedBy row_cmp
    (map (λ (row : List ℕ × Occurrences). row.0) (haul_of s root rule n limit first count).rows)

-- .. the clusters without a code agree with the tallies too ..
abbrev pub UnresolvedAreOfTallies : Type 0
UnresolvedAreOfTallies = (s : Symmetry) (root : List ℕ) (rule : RuleSets) (n limit first count : ℕ)
    → (haul_of s root rule n limit first count).unresolved
    ≡ seen (λ i. (soup_tally s root rule n limit i).unresolved) (range_with_len first count)

-- .. and each cluster of each soup is counted once.
abbrev pub ClustersCountOnce : Type 0
ClustersCountOnce = (s : Symmetry) (root : List ℕ) (rule : RuleSets) (n limit first count : ℕ)
    → (sum_by (λ (row : List ℕ × Occurrences). row.1.count) (haul_of s root rule n limit first count).rows
    + count_of (haul_of s root rule n limit first count).unresolved
    ≡ sum_by (λ i. (soup_tally s root rule n limit i).total) (range_with_len first count))
    × ((haul_of s root rule n limit first count).total
    ≡ sum_by (λ i. (soup_tally s root rule n limit i).total) (range_with_len first count))

-- The sums of a table are right: `clusters` is the sum over all rows and the clusters without a code, and `soups` is
-- the length of the range.
abbrev pub SumsAreCounts : Type 0
SumsAreCounts = (s : Symmetry) (root : List ℕ) (rule : RuleSets) (n limit first count : ℕ)
    → ((haul_of s root rule n limit first count).total ≡ sum_by (λ (row : List ℕ × Occurrences). row.1.count)
    (haul_of s root rule n limit first count).rows + count_of (haul_of s root rule n limit first count).unresolved)
    × ((haul_of s root rule n limit first count).soups ≡ count)
