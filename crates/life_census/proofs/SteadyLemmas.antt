-- The visits of all clusters decide if the field is steady.
use Rattle.std.specs.Prelude.{◌≡◌, ◌≢◌, ◌↔◌, ℕ, zero, suc, ◌<◌, Bool, IsTrue, List, [], ◌∷◌, length}
use Rattle.std.proofs.Common.{sym, ap, subst, ◌∙◌, inl, inr, get_or, arith}
use Rattle.std.proofs.lemmas.Bool.{cases_lt, true_from_ne_false}
use Rattle.std.proofs.lemmas.List.Elements.{All-contains, All-from_recursion, at_from_Contains}
use Rattle.std.proofs.lemmas.List.Sorted.{Contains-permutation, IsPermutation-sym}
use Rattle.std.specs.List.{All}
use Rattle.std.specs.List.Sorted.{IsPermutation}
use Rattle.std.specs.FinSet as set
use Rattle.life_core.specs.Pattern.{Cells}
use Rattle.life_core.specs.Rule.{RuleSets}
use Rattle.life_core.specs.Generations.{generation_of}
use Rattle.life_code.specs.declared.kinds.Kind.{Kind}
use Rattle.life_code.specs.Period.{kind_of}
use Rattle.life_code.proofs.ApartUnions.{in_from_contains}
use Rattle.life_census.specs.declared.meeting.Visit.{Visit}
use Rattle.life_census.specs.Cluster.{IsCluster, IsBefore, AreInOrder, AreClustersOf, clusters_of}
use Rattle.life_census.specs.Steady.{Stays, IsSteady, is_staying}
use Rattle.life_census.specs.SteadyState.{visit_of, AreVisits, AreAllApart}
use Rattle.life_census.proofs.ClusterLaws.{before_itself}
use Rattle.life_census.proofs.ClusterListing.{clusters_are}
use Rattle.life_census.proofs.SteadyPhases.{stays_for, others_go}

-- ---- parts at two places differ

before_at : (Ps : List Cells) (k l : ℕ) (d : Cells) → AreInOrder Ps → k < l → l < length Ps
    → IsBefore (get_or Ps k d) (get_or Ps l d)
before_at [] k l d ascend order low = absurd (omega arith)
before_at (P ∷ Ps) zero zero d ascend order low = absurd (omega arith)
before_at (P ∷ Ps) zero (suc l) d ascend order low = All-from_recursion (IsBefore P) Ps ascend.0 l d (omega arith)
before_at (P ∷ Ps) (suc k) zero d ascend order low = absurd (omega arith)
before_at (P ∷ Ps) (suc k) (suc l) d ascend order low = before_at Ps k l d ascend.1 (omega arith) (omega arith)

differ_at : (Ps : List Cells) (k l : ℕ) (d : Cells) → AreInOrder Ps → k ≢ l → k < length Ps
    → l < length Ps → get_or Ps k d ≢ get_or Ps l d
differ_at Ps k l d ascend other low high same = elim (cases_lt k l) [
  | inl less ↦
      before_itself (get_or Ps l d) (subst (λ (P : Cells). IsBefore P (get_or Ps l d)) same
      (before_at Ps k l d ascend less high))
  | inr more ↦ elim (cases_lt l k) [
    | inl less ↦
        before_itself (get_or Ps k d) (subst (λ (P : Cells). IsBefore P (get_or Ps k d)) (sym same)
        (before_at Ps l k d ascend less low))
    | inr equal ↦ other (omega arith)
  ]
]

-- ---- the answers

module _ (r : RuleSets) (limit : ℕ) (X : Cells) (Ps : List Cells) (clusters_of : AreClustersOf X Ps) where
  -- a part that does not stay
  pub not_steady : (All (Stays r limit) Ps → ⊥) → IsSteady r X limit → ⊥
  not_steady none steady =
      none (λ k d low. steady.stay (get_or Ps k d) (All-from_recursion (IsCluster X) Ps clusters_of.each k d low))

  module _ (stay : All (Stays r limit) Ps) (visits : List Visit) (are : AreVisits r Ps (length Ps) visits) where
    steady_from : AreAllApart visits → IsSteady r X limit
    steady_from apart = record {
      stay = λ P part. All-contains (Stays r limit) Ps P stay (clusters_of.all P part);
      apart = λ P Q here there differ i j c d h k.
          let a = at_from_Contains Ps P (clusters_of.all P here) in
          let b = at_from_Contains Ps Q (clusters_of.all Q there) in
          apart (visit_of a.0 c) (visit_of b.0 d)
          (are.all a.0 i P c a.1 (ap (λ (R : Cells). set.contains (generation_of r R i) c) (a.2 P) ∙ h))
          (are.all b.0 j Q d b.1 (ap (λ (R : Cells). set.contains (generation_of r R j) d) (b.2 Q) ∙ k))
          (λ same. differ (sym (a.2 P) ∙ ap (λ n. get_or Ps n P) same ∙ b.2 P));
    }

    steady_to : IsSteady r X limit → AreAllApart visits
    steady_to steady v w h k differ =
        let a = are.only v h in
        let b = are.only w k in
        let P = get_or Ps v.cluster X in
        let Q = get_or Ps w.cluster X in
        steady.apart P Q (All-from_recursion (IsCluster X) Ps clusters_of.each v.cluster X a.0)
        (All-from_recursion (IsCluster X) Ps clusters_of.each w.cluster X b.0)
        (differ_at Ps v.cluster w.cluster X clusters_of.ascend differ a.0 b.0) a.1.0 b.1.0 v.cell w.cell
        (a.1.1 X) (b.1.1 X)

    -- what the sweep of the sorted visits answers is the answer
    pub steady_if_apart : (sorted : List Visit) (b : Bool) → IsPermutation visits sorted
        → (IsTrue b ↔ AreAllApart sorted) → IsTrue b ↔ IsSteady r X limit
    steady_if_apart sorted b same answer = (
      λ h. steady_from (λ v w in_v in_w. answer.0 h v w (Contains-permutation visits sorted v same in_v)
          (Contains-permutation visits sorted w same in_w)),
      λ s. answer.1 (λ v w in_v in_w. steady_to s v w (Contains-permutation sorted visits v (IsPermutation-sym visits
          sorted same) in_v) (Contains-permutation sorted visits w (IsPermutation-sym visits sorted same) in_w)),
    )

-- ---- a field of one part

-- a field of one part is steady if its kind stays
pub one_cluster_steady : (r : RuleSets) (limit : ℕ) (X : Cells) (k : Kind) (b : Bool) → X ∷ [] ≡ clusters_of X
    → k ≡ kind_of r X limit → b ≡ is_staying k → IsTrue b ↔ IsSteady r X limit
one_cluster_steady r limit X k b one is answer = (
  λ t.
      let stays = stays_for r limit X k is (sym answer ∙ t) in
      record {
        stay = λ P part. subst (Stays r limit) (same P part) stays.1.stays;
        apart = λ P Q here there differ i j. absurd (differ (sym (same P here) ∙ same Q there));
      },
  λ steady. true_from_ne_false b (λ f. others_go r limit X k is (sym answer ∙ f) (steady.stay X alone.each.0)),
)
  where
    alone : AreClustersOf X (X ∷ [])
    alone = subst (AreClustersOf X) (sym one) (clusters_are X)

    same : (P : Cells) → IsCluster X P → X ≡ P
    same P part = elim (in_from_contains (X ∷ []) P (alone.all P part)) [ inl here ↦ here | inr none ↦ absurd none ]
