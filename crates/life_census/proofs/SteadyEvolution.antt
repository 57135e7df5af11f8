-- How steady fields evolve.
use Rattle.std.specs.Prelude.{◌≡◌, ℕ, true, false, ◌||◌, List, [], ◌∷◌, map}
use Rattle.std.proofs.Common.{sym, ap, subst, ◌∙◌, inl, inr}
use Rattle.std.proofs.lemmas.Bool.{false≢true, cases_Bool, or_left, or_right, false_from_ne_true}
use Rattle.std.proofs.lemmas.List.Elements.{All-contains, All-from_recursion}
use Rattle.std.specs.List.{AllByRecursion, Contains}
use Rattle.std.specs.FinSet as set
use Rattle.life_core.specs.declared.cell.Cell.{Cell}
use Rattle.life_core.specs.Cell.{cell_cmp}
use Rattle.life_core.specs.Pattern.{Cells}
use Rattle.life_core.specs.Rule.{RuleSets}
use Rattle.life_core.specs.Generations.{generation_of}
use Rattle.life_core.proofs.PatternMembers.{cell_cmp_total, same_answer, cells_by_members}
use Rattle.life_code.proofs.ApartNear.{near_self}
use Rattle.life_code.proofs.ApartUnions.{IsIn, in_from_contains, generation-union_of}
use Rattle.life_code.specs.Apart.{AreApart, AreAllApart, union_of}
use Rattle.life_census.specs.Cluster.{IsCluster, IsBefore, AreInOrder, AreClustersOf, clusters_of}
use Rattle.life_census.specs.Steady.{IsSteady}
use Rattle.life_census.specs.CensusLaws.{SteadyFieldsEvolveByClusters, ClustersShareNoCell}
use Rattle.life_census.proofs.ClusterLaws.{before_itself}
use Rattle.life_census.proofs.ClusterListing.{clusters_are}

-- ---- steady fields

-- X is the union of its parts
pub union_of_parts : (X : Cells) (Ps : List Cells) → AreClustersOf X Ps → X ≡ union_of Ps
union_of_parts X Ps clusters_of = cells_by_members X (union_of Ps) (λ c. same_answer _ _
    (λ h. let found = clusters_of.covers c h in gathered Ps found.0 c (in_from_contains Ps found.0 found.1) found.2)
    (λ h. inside Ps c clusters_of.each h))
  where
    gathered : (Ps : List Cells) (P : Cells) (c : Cell) → IsIn Ps P → set.contains P c ≡ true
        → set.contains (union_of Ps) c ≡ true
    gathered [] P c h live = absurd h
    gathered (Q ∷ Qs) P c h live = set.contains-union cell_cmp_total Q (union_of Qs) c ∙ elim h [
      | inl same ↦ or_left _ _ (ap (λ (R : Cells). set.contains R c) same ∙ live)
      | inr rest ↦ or_right _ _ (gathered Qs P c rest live)
    ]

    inside : (Ps : List Cells) (c : Cell) → AllByRecursion (IsCluster X) Ps → set.contains (union_of Ps) c ≡ true
        → set.contains X c ≡ true
    inside [] c all h = absurd (false≢true (sym (set.contains-empty cell_cmp c) ∙ h))
    inside (Q ∷ Qs) c all h = elim (cases_Bool (set.contains Q c)) [
      | inl held ↦ all.0.inside c held
      | inr free ↦
          inside Qs c all.1 (ap (λ b. b || set.contains (union_of Qs) c) (sym free)
          ∙ sym (set.contains-union cell_cmp_total Q (union_of Qs) c) ∙ h)
    ]

module _ (r : RuleSets) (X : Cells) (limit : ℕ) (steady : IsSteady r X limit) where
  all_apart : (Ps : List Cells) → AllByRecursion (IsCluster X) Ps → AreInOrder Ps → (k : ℕ)
      → AreAllApart (map (λ P. generation_of r P k) Ps)
  all_apart [] each order k = tt
  all_apart (P ∷ Ps) each order k = (from P each.0 Ps each.1 order.0, all_apart Ps each.1 order.1 k)
    where
      from : (P : Cells) → IsCluster X P → (Qs : List Cells)
          → AllByRecursion (IsCluster X) Qs → AllByRecursion (IsBefore P) Qs
          → AllByRecursion (AreApart (generation_of r P k)) (map (λ Q. generation_of r Q k) Qs)
      from P p [] each before = tt
      from P p (Q ∷ Qs) each before = (
        steady.apart P Q p each.0 (λ same. before_itself Q (subst (λ (R : Cells). IsBefore R Q) same before.0)) k k,
        from P p Qs each.1 before.1,
      )

  steady_evolves : (Ps : List Cells) → set.contains r.birth 0 ≡ false → AreClustersOf X Ps
      → (k : ℕ) → generation_of r X k ≡ union_of (map (λ P. generation_of r P k) Ps)
  steady_evolves Ps none clusters_of k =
      ap (λ (Y : Cells). generation_of r Y k) (union_of_parts X Ps clusters_of)
      ∙ generation-union_of r Ps none (all_apart Ps clusters_of.each clusters_of.ascend) k

-- a steady field evolves as its parts do, each by itself
pub evolve_by_clusters : SteadyFieldsEvolveByClusters
evolve_by_clusters r X limit none steady k = steady_evolves r X limit steady (clusters_of X) none (clusters_are X) k

-- a cell is near itself, so that sets that are apart share no cell
pub share_no_cell : ClustersShareNoCell
share_no_cell r X limit steady k P Q here there differ c h =
    false_from_ne_true (set.contains (generation_of r Q k) c) (λ live. false≢true (
    sym (steady.apart P Q (part P here) (part Q there) differ k k c c h live) ∙ near_self c))
  where
    part : (P : Cells) → Contains (clusters_of X) P → IsCluster X P
    part P in_parts =
        All-contains (IsCluster X) (clusters_of X) P
        (All-from_recursion (IsCluster X) (clusters_of X) (clusters_are X).each) in_parts
