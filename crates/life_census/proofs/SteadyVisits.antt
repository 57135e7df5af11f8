-- The visits of all phases of the first clusters.
use Rattle.std.specs.Prelude.{◌≡◌, ℕ, ◌+◌, ◌%◌, ◌≤◌, ◌<◌, zero, suc, true, List, [], ◌∷◌, ◌++◌, map, slice_index_or}
use Rattle.std.proofs.Common.{get_or, refl, sym, ap, subst, ◌∙◌, inl, inr, arith}
use Rattle.std.proofs.lemmas.Bool.{cases_lt}
use Rattle.std.proofs.lemmas.List.Elements.{Contains-append_cases, Contains-append_left, Contains-append_right}
use Rattle.std.proofs.lemmas.List.Elements.{All-append, All-map, All-same, Contains-get_or}
use Rattle.std.proofs.lemmas.Map.Views.{Contains-from_any, list_any-from_Contains}
use Rattle.std.specs.List.{All, Contains}
use Rattle.std.specs.FinSet as set
use Rattle.life_core.specs.declared.cell.Cell.{Cell}
use Rattle.life_core.specs.declared.cell.TheConstants.{PLANE}
use Rattle.life_core.specs.Cell.{IsCellWithin}
use Rattle.life_core.specs.Pattern.{Cells, in_order, IsWithin}
use Rattle.life_core.proofs.GenerationsLaws.{generation_within, within_more}
use Rattle.life_core.specs.Rule.{RuleSets}
use Rattle.life_core.specs.Generations.{generation_of}
use Rattle.life_core.proofs.PatternMembers.{same_cell-true, same_cell_laws}
use Rattle.life_core.specs.Cell.{moved_cell}
use Rattle.life_core.specs.declared.orientation.Orientation.TheVariants.{O0}
use Rattle.life_core.proofs.Placements.{moved, undo, undo-place, place-undo, contains-placed}
use Rattle.life_code.specs.declared.period.TheConstants.{PERIOD_LIMIT}
use Rattle.life_code.proofs.PeriodLemmas.{generation-moved}
use Rattle.life_core.proofs.PatternOrder.{has_cell-in_order}
use Rattle.life_code.proofs.ApartUnions.{IsIn, in_from_contains}
use Rattle.life_census.specs.declared.meeting.Visit.{Visit}
use Rattle.life_census.specs.SteadyState.{visit_of, IsVisitInPlane, AreVisits}
use Rattle.life_census.specs.SurveyState.{phases_of, StaysFor}
use Rattle.life_census.proofs.ClusterLaws.{contains_from_in}
use Rattle.life_census.proofs.SteadyPhases.{phase}

-- ---- the phases of one part

module _ (r : RuleSets) (P : Cells) where
  in_phases : (n : ℕ) (c : Cell) → Contains (phases_of r P n) c
      → (i : ℕ) × (i < n) × (set.contains (generation_of r P i) c ≡ true)
  unfolding phases_of
  in_phases zero c h = absurd (in_from_contains [] c h)
  in_phases (suc n) c h = elim (Contains-append_cases (phases_of r P n) (in_order (generation_of r P n)) c h) [
    | inl before ↦
        let found = in_phases n c before in let low : found.0 < n = found.1 in (found.0, omega arith, found.2)
    | inr last ↦ (
      n,
      omega arith,
      sym (has_cell-in_order (generation_of r P n) c)
          ∙ list_any-from_Contains same_cell_laws c (in_order (generation_of r P n)) last,
    )
  ]

  to_phases : (n i : ℕ) (c : Cell) → i < n → set.contains (generation_of r P i) c ≡ true → Contains (phases_of r P n) c
  unfolding phases_of
  to_phases zero i c low h = absurd (omega arith)
  to_phases (suc n) i c low h = elim (cases_lt i n) [
    | inl before ↦ Contains-append_left (phases_of r P n) _ c (to_phases n i c before h)
    | inr after ↦ let last : i ≡ n = omega arith in
        Contains-append_right (phases_of r P n) _ c (Contains-from_any same_cell-true c (in_order (generation_of r P n))
        (has_cell-in_order (generation_of r P n) c ∙ ap (λ k. set.contains (generation_of r P k) c) (sym last) ∙ h))
  ]

-- ---- the visits of one part

abbrev pub visits_at : ℕ → Cell → List Cell → List Visit
visits_at number v cs = map (λ c. visit_of number (moved_cell v.column v.row c)) cs

in_map : (number : ℕ) (v : Cell) (cs : List Cell) (w : Visit) → IsIn (visits_at number v cs) w
    → (w.cluster ≡ number) × ((c : Cell) × IsIn cs c × (moved_cell v.column v.row c ≡ w.cell))
in_map number v [] w h = absurd h
in_map number v (c ∷ cs) w h = elim h [
  | inl same ↦ (sym (ap (λ (u : Visit). u.cluster) same), (c, inl refl, ap (λ (u : Visit). u.cell) same))
  | inr rest ↦ let found = in_map number v cs w rest in (found.0, (found.1.0, inr found.1.1, found.1.2))
]

map_in : (number : ℕ) (v : Cell) (cs : List Cell) (c : Cell) → IsIn cs c
    → IsIn (visits_at number v cs) (visit_of number (moved_cell v.column v.row c))
map_in number v [] c h = absurd h
map_in number v (d ∷ cs) c h = elim h [
  | inl same ↦ inl (ap (λ (e : Cell). visit_of number (moved_cell v.column v.row e)) same)
  | inr rest ↦ inr (map_in number v cs c rest)
]

-- the phases of X, moved, are those of X moved
module _ (r : RuleSets) (X : Cells) (v : Cell) where
  moved_phase : (i : ℕ) (c : Cell) → set.contains (generation_of r X i) c ≡ true
      → set.contains (generation_of r (moved v X) i) (moved_cell v.column v.row c) ≡ true
  moved_phase i c h =
      ap (λ (Y : Cells). set.contains Y (moved_cell v.column v.row c)) (generation-moved r v X i)
      ∙ contains-placed O0 v (generation_of r X i) (moved_cell v.column v.row c)
      ∙ ap (set.contains (generation_of r X i)) (undo-place O0 v c) ∙ h

  phase_moved : (i : ℕ) (d : Cell) → set.contains (generation_of r (moved v X) i) d ≡ true
      → (c : Cell) × (set.contains (generation_of r X i) c ≡ true) × (moved_cell v.column v.row c ≡ d)
  phase_moved i d h = (
    undo O0 v d,
    sym (contains-placed O0 v (generation_of r X i) d)
        ∙ ap (λ (Y : Cells). set.contains Y d) (sym (generation-moved r v X i)) ∙ h,
    place-undo O0 v d,
  )

-- ---- the visits of the first n parts

pub visits_go_on : (r : RuleSets) (limit : ℕ) (Ps : List Cells) (n p : ℕ) (v : Cell) (X P : Cells)
    (visits after : List Visit) → AreVisits r Ps n visits → ((d : Cells) → slice_index_or Ps n d ≡ P)
    → P ≡ moved v X → StaysFor r limit X p
    → after ≡ visits ++ visits_at n v (phases_of r X p) → AreVisits r Ps (n + 1) after
visits_go_on r limit Ps n p v X P visits after old at is stay made = record {
  only =
      λ w h.
      elim (Contains-append_cases visits (visits_at n v (phases_of r X p)) w (subst (λ vs. Contains vs w) made h)) [
        | inl before ↦ let found = old.only w before in (let low = found.0 in omega arith, found.1)
        | inr new ↦
            let found = in_map n v (phases_of r X p) w (in_from_contains _ w new) in
            let c = found.1.0 in
            let phase_of_c = in_phases r X p c (contains_from_in (phases_of r X p) c found.1.1) in
            let i = phase_of_c.0 in
            let live : set.contains (generation_of r P i) w.cell ≡ true =
            ap (λ (Q : Cells). set.contains (generation_of r Q i) w.cell) is
            ∙ ap (set.contains (generation_of r (moved v X) i)) (sym found.1.2)
            ∙ moved_phase r X v i c phase_of_c.2 in (
              let same = found.0 in omega arith,
              (
                i,
                λ d. ap (λ k. set.contains (generation_of r (slice_index_or Ps k d) i) w.cell) found.0
                    ∙ ap (λ (Q : Cells). set.contains (generation_of r Q i) w.cell) (at d) ∙ live,
              ),
            )
      ];
  all = λ number i d e low h. subst (λ vs. Contains vs (visit_of number e)) (sym made) (elim (cases_lt number n) [
    | inl before ↦ Contains-append_left visits _ (visit_of number e) (old.all number i d e before h)
    | inr later ↦
        let same : number ≡ n = omega arith in
        let here : set.contains (generation_of r (moved v X) i) e ≡ true = sym (ap
        (λ (Q : Cells). set.contains (generation_of r Q i) e) (ap (λ k. slice_index_or Ps k d) same ∙ at d ∙ is)) ∙ h in
        let found = phase_moved r X v i e here in
        let c = found.0 in
        let again : set.contains (generation_of r X (i % p)) c ≡ true =
        ap (λ (Q : Cells). set.contains Q c) (sym (phase r X p i stay.from_one stay.back)) ∙ found.1 in
        let listed = contains_from_in _ (visit_of n (moved_cell v.column v.row c)) (map_in n v (phases_of r X p) c
        (in_from_contains (phases_of r X p) c (to_phases r X p (i % p) c (omega (arith, stay.from_one)) again))) in
        Contains-append_right visits (visits_at n v (phases_of r X p)) (visit_of number e)
        (subst (λ k. Contains (visits_at n v (phases_of r X p)) (visit_of k e)) (sym same)
        (subst (λ f. Contains (visits_at n v (phases_of r X p)) (visit_of n f)) found.2 listed))
  ]);
}

-- ---- the cells of visits lie in the plane

pub inside_more : (visits after : List Visit) (cs : List Cell) (number : ℕ) (v : Cell)
    → after ≡ visits ++ visits_at number v cs → All (λ c. IsCellWithin PLANE (moved_cell v.column v.row c)) cs
    → All IsVisitInPlane visits → All IsVisitInPlane after
inside_more visits after cs number v made cells old =
    All-same IsVisitInPlane _ _ made (All-append IsVisitInPlane visits (visits_at number v cs) old
    (All-map IsVisitInPlane (λ c. visit_of number (moved_cell v.column v.row c)) cs cells))

-- the phases of a cluster, moved from where they were found
pub phases_inside : (r : RuleSets) (X P : Cells) (v : Cell) (p : ℕ) (cs : List Cell)
    → P ≡ moved v X → IsWithin 400000000 P → p ≤ PERIOD_LIMIT → cs ≡ phases_of r X p
    → All (λ c. IsCellWithin PLANE (moved_cell v.column v.row c)) cs
phases_inside r X P v p cs is room few same k d low =
    let c = get_or cs k d in
    let found = in_phases r X p c (subst (λ ds. Contains ds c) same (Contains-get_or cs k d low)) in
    let i = found.0 in
    let less : i < p = found.1 in
    let live : set.contains (generation_of r P i) (moved_cell v.column v.row c) ≡ true =
    ap (λ (Q : Cells). set.contains (generation_of r Q i) (moved_cell v.column v.row c)) is
    ∙ moved_phase r X v i c found.2 in
    within_more (400000000 + i) PLANE (generation_of r P i) (omega arith) (generation_within r 400000000 P i room)
    (moved_cell v.column v.row c) live
