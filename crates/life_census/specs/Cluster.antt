-- Clusters of a set of cells: the classes of cells that chains of near cells connect. Cells at most 2 apart count as
-- near, since they can have a common neighbour (Life Lexicon, "cluster": each live cell is connected to every other by
-- a path that does not pass through two consecutive dead cells).
use Rattle.std.specs.Prelude.{◌≡◌, Bool, true, false, cond, not, List, [], ◌∷◌}
use Rattle.std.specs.declared.cmp.Ordering.TheVariants.{Less}
use Rattle.std.specs.List.{AllByRecursion, Contains, list_any, filter}
use Rattle.std.specs.FinSet as set
use Rattle.life_core.specs.declared.cell.Cell.{Cell}
use Rattle.life_core.specs.Cell.{cell_cmp}
use Rattle.life_core.specs.Pattern.{Cells, in_order}
use Rattle.life_code.specs.Apart.{near}

-- ---- what a cluster is

-- these cells of X lead from c to d, each near the one before it
abbrev pub IsChain : Cells → Cell → List Cell → Cell → Type 0
IsChain X c [] d = c ≡ d
IsChain X c (e ∷ es) d = (set.contains X e ≡ true) × (near c e ≡ true) × IsChain X e es d

-- some chain of cells of X leads from c to d
abbrev pub AreJoined : Cells → Cell → Cell → Type 0
AreJoined X c d = (es : List Cell) × IsChain X c es d

-- P is a cluster of X: it has a cell, chains join all its cells, and no other cell of X is near it. `3obo` is one
-- cluster; `3o2bo` has two, since its last cell is 3 columns away from the others.
pub record IsCluster (X P : Cells) : Type 0 where
  pub inside : (c : Cell) → set.contains P c ≡ true → set.contains X c ≡ true
  pub cell : (c : Cell) × (set.contains P c ≡ true)
  pub joined : (c d : Cell) → set.contains P c ≡ true → set.contains P d ≡ true → AreJoined X c d
  pub apart : (c d : Cell) → set.contains P c ≡ true → set.contains X d ≡ true → set.contains P d ≡ false
      → near c d ≡ false

-- ---- the list of the clusters

-- some cell of P comes before all cells of Q, by row and then by column
abbrev pub IsBefore : Cells → Cells → Type 0
IsBefore P Q = (c : Cell) × (set.contains P c ≡ true) × ((d : Cell) → set.contains Q d ≡ true → cell_cmp c d ≡ Less)

-- the list is sorted in this order
abbrev pub AreInOrder : List Cells → Type 0
AreInOrder [] = Unit {0}
AreInOrder (P ∷ Ps) = AllByRecursion (IsBefore P) Ps × AreInOrder Ps

-- the cell is in some set of the list
abbrev pub IsCovered : Cell → List Cells → Type 0
IsCovered c Ps = (P : Cells) × Contains Ps P × (set.contains P c ≡ true)

-- the list of the clusters of X, each once, ordered by their least cells
pub record AreClustersOf (X : Cells) (Ps : List Cells) : Type 0 where
  pub each : AllByRecursion (IsCluster X) Ps
  pub all : (P : Cells) → IsCluster X P → Contains Ps P
  pub covers : (c : Cell) → set.contains X c ≡ true → IsCovered c Ps
  pub ascend : AreInOrder Ps

-- ---- the list as a function

-- whether P has a cell near c
abbrev pub touches : Cell → Cells → Bool
touches c P = list_any (near c) (set.items P)

-- c together with all sets that have a cell near it
abbrev pub joined_with : Cell → List Cells → Cells
joined_with c [] = set.insert set.empty c
joined_with c (P ∷ Ps) = cond (touches c P) (set.union P (joined_with c Ps)) (joined_with c Ps)

-- adds the cells of a sorted list from the last to the first: each joins the clusters that it is near into one, and
-- the others stay
abbrev pub clusters_among : List Cell → List Cells
clusters_among [] = []
clusters_among (c ∷ cs) = joined_with c (clusters_among cs) ∷ filter (λ P. not (touches c P)) (clusters_among cs)

-- the clusters of X, ordered by their least cells
unfoldable pub clusters_of : Cells → List Cells
clusters_of X = clusters_among (in_order X)
