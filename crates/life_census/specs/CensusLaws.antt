-- Laws that show that the definitions of clusters, tallies and steady fields mean what they should.
use Rattle.std.specs.Prelude.{◌≡◌, ◌≢◌, ◌↔◌, ◌≤◌, ℕ, ◌+◌, true, false, IsTrue, List, Option, map, sum_by}
use Rattle.std.specs.List.{Contains}
use Rattle.std.specs.List.Sorted.{IsStrictlySortedBy}
use Rattle.std.specs.FinSet as set
use Rattle.life_core.specs.declared.cell.Cell.{Cell}
use Rattle.life_core.specs.Pattern.{Cells}
use Rattle.life_core.specs.Rule.{RuleSets}
use Rattle.life_core.specs.Generations.{generation_of}
use Rattle.life_code.specs.Apart.{union_of}
use Rattle.life_census.specs.Cluster.{AreClustersOf, clusters_of}
use Rattle.life_census.specs.Steady.{IsSteady, is_steady}
use Rattle.life_census.specs.Rows.{TallyCounts}
use Rattle.life_census.specs.Counting.{row_cmp, how_often, occurrences_of, IsTally}

-- `clusters_of` lists the clusters of each set ..
abbrev pub ClustersAreListed : Type 0
ClustersAreListed = (X : Cells) → AreClustersOf X (clusters_of X)

-- .. and no other list does.
abbrev pub OneListOfClusters : Type 0
OneListOfClusters = (X : Cells) (Ps : List Cells) → AreClustersOf X Ps → Ps ≡ clusters_of X

-- Each cell of a set is in one of its clusters, and in no other.
abbrev pub OneClusterEach : Type 0
OneClusterEach =
    (X : Cells) (c : Cell) → set.contains X c ≡ true → (P : Cells) × Contains (clusters_of X) P
    × (set.contains P c ≡ true) × ((Q : Cells) → Contains (clusters_of X) Q → set.contains Q c ≡ true → Q ≡ P)

-- The rows of a tally are the codes of its sets, each with its count ..
abbrev pub RowsAreCounts : Type 0
RowsAreCounts =
    (codes : List (List ℕ)) (code : List ℕ) (n : ℕ)
    → Contains (occurrences_of codes) (code, n) ↔ ((n ≡ how_often code codes) × (1 ≤ n))

-- .. and their codes ascend, byte by byte.
abbrev pub RowsAscend : Type 0
RowsAscend =
    (codes : List (List ℕ)) → IsStrictlySortedBy row_cmp (map (λ (row : List ℕ × ℕ). row.0) (occurrences_of codes))

-- The counts and the unresolved sets add up to the total.
abbrev pub TalliesAddUp : Type 0
TalliesAddUp =
    (code : Cells → Option (List ℕ)) (Ps : List Cells) (t : TallyCounts) → IsTally code Ps t
    → sum_by (λ (row : List ℕ × ℕ). row.1) t.rows + t.unresolved ≡ t.total

-- `is_steady` decides if a field is steady, even with a limit of 0, under which no cluster counts as staying in place.
abbrev pub SteadyIsDecided : Type 0
SteadyIsDecided = (r : RuleSets) (X : Cells) (limit : ℕ) → IsTrue (is_steady r X limit) ↔ IsSteady r X limit

-- Each generation of a steady field is the union of the same generation of its clusters, each evolving by itself ..
abbrev pub SteadyFieldsEvolveByClusters : Type 0
SteadyFieldsEvolveByClusters =
    (r : RuleSets) (X : Cells) (limit : ℕ) → set.contains r.birth 0 ≡ false → IsSteady r X limit
    → (k : ℕ) → generation_of r X k ≡ union_of (map (λ P. generation_of r P k) (clusters_of X))

-- .. and no two clusters ever share a cell.
abbrev pub ClustersShareNoCell : Type 0
ClustersShareNoCell =
    (r : RuleSets) (X : Cells) (limit : ℕ) → IsSteady r X limit → (k : ℕ) (P Q : Cells) → Contains (clusters_of X) P
    → Contains (clusters_of X) Q → P ≢ Q → (c : Cell) → set.contains (generation_of r P k) c ≡ true
    → set.contains (generation_of r Q k) c ≡ false
