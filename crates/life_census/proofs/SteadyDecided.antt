-- The function that decides whether a field is steady.
use Rattle.std.specs.Prelude.{◌≡◌, ◌≢◌, ℕ, ◌%◌, ◌<◌, Bool, true, not, List, [], ◌∷◌, ◌⊎◌, IsTrue, ◌↔◌, refl}
use Rattle.std.proofs.Common.{sym, ap, subst, ◌∙◌, inl, inr, arith}
use Rattle.std.proofs.lemmas.Bool.{false≢true, and_parts, and_from, false_from_ne_true, true_from_ne_false}
use Rattle.std.proofs.lemmas.List.Elements.{All-contains}
use Rattle.std.proofs.lemmas.List.FromFn.{length-map-range_with_len, get_or-map-range_with_len}
use Rattle.std.proofs.lemmas.List.Sums.{AllPass-from_list_all, list_all-from_AllPass}
use Rattle.std.specs.List.{AllByRecursion, list_any, list_all}
use Rattle.std.specs.FinSet as set
use Rattle.life_core.specs.Pattern.{Cells}
use Rattle.life_core.specs.Rule.{RuleSets}
use Rattle.life_core.specs.Generations.{generation_of}
use Rattle.life_core.proofs.PatternMembers.{same_answer, contains-items, passing_cell, passed_by_member}
use Rattle.life_code.specs.Period.{kind_of}
use Rattle.life_code.proofs.ApartNear.{near_symmetric}
use Rattle.life_code.proofs.ApartUnions.{IsIn, in_from_contains}
use Rattle.life_code.specs.Apart.{AreApart}
use Rattle.life_census.specs.Cluster.{IsCluster, IsBefore, AreInOrder, touches, clusters_of}
use Rattle.life_census.specs.Steady.{IsSteady, stays, are_apart, first_generations, keep_apart, all_keep_apart}
use Rattle.life_census.specs.Steady.{is_steady}
use Rattle.life_census.specs.SurveyState.{StaysFor}
use Rattle.life_census.specs.CensusLaws.{SteadyIsDecided}
use Rattle.life_census.proofs.ClusterLaws.{contains_from_in, before_itself}
use Rattle.life_census.proofs.ClusterListing.{touching, touches_by, clusters_are}
use Rattle.life_census.proofs.SteadyPhases.{stays_for, others_go, phase}

-- ---- what stays

-- each generation of what stays is one of the first
is_early : (r : RuleSets) (limit p : ℕ) (P : Cells) → StaysFor r limit P p → (i : ℕ)
    → (k : ℕ) × (k < limit) × (generation_of r P i ≡ generation_of r P k)
is_early r limit p P stays i =
    (i % p, omega (arith, stays.from_one, stays.few), phase r P p i stays.from_one stays.back)

-- ---- sets that are apart

apart_if_true : (Y Z : Cells) → are_apart Y Z ≡ true → AreApart Y Z
apart_if_true Y Z h c d in_Y in_Z = false_from_ne_true _ (λ close. false≢true (ap not (sym (
    passed_by_member (λ e. touches e Z) (set.items Y) c (sym (contains-items Y c) ∙ in_Y)
    (touches_by c d Z in_Z close))) ∙ h))

true_if_apart : (Y Z : Cells) → AreApart Y Z → are_apart Y Z ≡ true
true_if_apart Y Z apart = ap not (false_from_ne_true (list_any (λ c. touches c Z) (set.items Y)) (λ some.
    let c = passing_cell (λ c. touches c Z) (set.items Y) some in
    let d = touching c.cell Z c.passes in
    false≢true (sym (apart c.cell d.0 (contains-items Y c.cell ∙ c.member) d.1) ∙ d.2)))

-- ---- the first generations

module _ (r : RuleSets) (n : ℕ) (P : Cells) (t : Cells → Bool) where
  each_passes : list_all t (first_generations r n P) ≡ true → (i : ℕ) → i < n → t (generation_of r P i) ≡ true
  each_passes all i low =
      ap t (sym (get_or-map-range_with_len (generation_of r P) 0 n i i P low (omega arith)))
      ∙ AllPass-from_list_all t (first_generations r n P) all i P
      (subst (λ m. i < m) (sym (length-map-range_with_len (generation_of r P) 0 n)) low)

  all_pass : ((i : ℕ) → i < n → t (generation_of r P i) ≡ true) → list_all t (first_generations r n P) ≡ true
  all_pass each = list_all-from_AllPass t (first_generations r n P) (λ i d short.
      let low : i < n = subst (λ m. i < m) (length-map-range_with_len (generation_of r P) 0 n) short in
      ap t (get_or-map-range_with_len (generation_of r P) 0 n i i d low (omega arith)) ∙ each i low)

-- ---- two sets that stay

-- no generation of P is near one of Q
abbrev NeverMeet : RuleSets → Cells → Cells → Type 0
NeverMeet r P Q = (i j : ℕ) → AreApart (generation_of r P i) (generation_of r Q j)

never_meet_if_true : (r : RuleSets) (limit p q : ℕ) (P Q : Cells) → StaysFor r limit P p → StaysFor r limit Q q
    → keep_apart r limit P Q ≡ true → NeverMeet r P Q
never_meet_if_true r limit p q P Q stays_P stays_Q keep i j c d in_P in_Q =
    let k = is_early r limit p P stays_P i in
    let l = is_early r limit q Q stays_Q j in
    let Y = generation_of r P k.0 in
    let all = each_passes r limit P (λ R. list_all (are_apart R) (first_generations r limit Q)) keep k.0 k.1 in
    apart_if_true Y (generation_of r Q l.0) (each_passes r limit Q (are_apart Y) all l.0 l.1) c d
    (ap (λ (R : Cells). set.contains R c) (sym k.2) ∙ in_P) (ap (λ (R : Cells). set.contains R d) (sym l.2) ∙ in_Q)

true_if_never_meet : (r : RuleSets) (limit : ℕ) (P Q : Cells) → NeverMeet r P Q → keep_apart r limit P Q ≡ true
true_if_never_meet r limit P Q apart =
    all_pass r limit P (λ Y. list_all (are_apart Y) (first_generations r limit Q)) (λ i below.
    all_pass r limit Q (are_apart (generation_of r P i))
    (λ j low. true_if_apart (generation_of r P i) (generation_of r Q j) (apart i j)))

-- ---- lists of sets

passes_in : (t : Cells → Bool) (Ps : List Cells) (P : Cells) → list_all t Ps ≡ true → IsIn Ps P → t P ≡ true
passes_in t Ps P all h = All-contains (λ Q. t Q ≡ true) Ps P (AllPass-from_list_all t Ps all) (contains_from_in Ps P h)

-- of two sets of the list, one comes later
two_keep_apart : (r : RuleSets) (limit : ℕ) (Ps : List Cells) → all_keep_apart r limit Ps ≡ true
    → (P Q : Cells) → IsIn Ps P → IsIn Ps Q → P ≢ Q
    → (keep_apart r limit P Q ≡ true) ⊎ (keep_apart r limit Q P ≡ true)
two_keep_apart r limit [] all P Q here there differ = absurd here
two_keep_apart r limit (R ∷ Rs) all P Q here there differ =
    let both = and_parts _ _ all in
    elim here [
      | inl first ↦ elim there [
        | inl same ↦ absurd (differ (sym first ∙ same))
        | inr later ↦
            inl (ap (λ S. keep_apart r limit S Q) (sym first) ∙ passes_in (keep_apart r limit R) Rs Q both.0 later)
      ]
      | inr later ↦ elim there [
        | inl first ↦
            inr (ap (λ S. keep_apart r limit S P) (sym first) ∙ passes_in (keep_apart r limit R) Rs P both.0 later)
        | inr also ↦ two_keep_apart r limit Rs both.1 P Q later also differ
      ]
    ]

-- ---- steady fields

module _ (r : RuleSets) (X : Cells) (limit : ℕ) where
  listed : (P : Cells) → IsCluster X P → IsIn (clusters_of X) P
  listed P part = in_from_contains (clusters_of X) P ((clusters_are X).all P part)

  steady_from : list_all (stays r limit) (clusters_of X) ≡ true → all_keep_apart r limit (clusters_of X) ≡ true
      → IsSteady r X limit
  steady_from stay keep = record {
    stay = λ P part. (stays_as P part).1.stays;
    apart = λ P Q here there differ.
        let p = stays_as P here in
        let q = stays_as Q there in
        elim (two_keep_apart r limit (clusters_of X) keep P Q (listed P here) (listed Q there) differ) [
          | inl before ↦ never_meet_if_true r limit p.0 q.0 P Q p.1 q.1 before
          | inr after ↦
              λ i j c d in_P in_Q. near_symmetric c d
              ∙ never_meet_if_true r limit q.0 p.0 Q P q.1 p.1 after j i d c in_Q in_P
        ];
  }
    where
      stays_as : (P : Cells) → IsCluster X P → (p : ℕ) × StaysFor r limit P p
      stays_as P part =
          stays_for r limit P (kind_of r P limit) refl
          (passes_in (stays r limit) (clusters_of X) P stay (listed P part))

  module _ (steady : IsSteady r X limit) where
    all_stay : (Ps : List Cells) → AllByRecursion (IsCluster X) Ps → list_all (stays r limit) Ps ≡ true
    all_stay [] each = refl
    all_stay (P ∷ Ps) each =
        and_from _ _ (true_from_ne_false (stays r limit P)
        (λ goes. others_go r limit P (kind_of r P limit) refl goes (steady.stay P each.0))) (all_stay Ps each.1)

    first_keeps_apart : (P : Cells) → IsCluster X P → (Qs : List Cells) → AllByRecursion (IsCluster X) Qs
        → AllByRecursion (IsBefore P) Qs → list_all (keep_apart r limit P) Qs ≡ true
    first_keeps_apart P part [] each before = refl
    first_keeps_apart P part (Q ∷ Qs) each before = and_from _ _
        (true_if_never_meet r limit P Q
        (steady.apart P Q part each.0 (λ same. before_itself Q (subst (λ (R : Cells). IsBefore R Q) same before.0))))
        (first_keeps_apart P part Qs each.1 before.1)

    each_keeps_apart : (Ps : List Cells) → AllByRecursion (IsCluster X) Ps → AreInOrder Ps
        → all_keep_apart r limit Ps ≡ true
    each_keeps_apart [] each order = refl
    each_keeps_apart (P ∷ Ps) each order =
        and_from _ _ (first_keeps_apart P each.0 Ps each.1 order.0) (each_keeps_apart Ps each.1 order.1)

-- the function says whether a field is steady
pub steady_is_decided : SteadyIsDecided
unfolding is_steady
steady_is_decided r X limit = (
  λ h. let both = and_parts _ _ h in steady_from r X limit both.0 both.1,
  λ steady.
      let are = clusters_are X in
      and_from _ _ (all_stay r X limit steady (clusters_of X) are.each)
      (each_keeps_apart r X limit steady (clusters_of X) are.each are.ascend),
)

-- an answer to whether a field is steady is that of the function
pub steady_computed : (r : RuleSets) (X : Cells) (limit : ℕ) (b : Bool) → (IsTrue b ↔ IsSteady r X limit)
    → b ≡ is_steady r X limit
steady_computed r X limit b answer =
    let decided = steady_is_decided r X limit in
    same_answer b (is_steady r X limit) (λ h. decided.1 (answer.0 h)) (λ h. answer.1 (decided.0 h))
