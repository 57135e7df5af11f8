-- The list of clusters that the function gives meets the definition.
use Rattle.std.specs.Prelude.{◌≡◌, Bool, true, false, cond, not, ◌&&◌, ◌||◌, List, [], ◌∷◌, length, ◌⊎◌, refl}
use Rattle.std.proofs.Common.{sym, ap, subst, ◌∙◌, inl, inr}
use Rattle.std.specs.declared.cmp.Ordering.TheVariants.{Less}
use Rattle.std.specs.List.{AllByRecursion, filter}
use Rattle.std.specs.List.Sorted.{IsStrictlySortedBy}
use Rattle.std.specs.FinSet as set
use Rattle.std.proofs.lemmas.Bool.{false≢true, cases_Bool, or_cases, or_left, or_right, and_parts, and_from}
use Rattle.std.proofs.lemmas.Bool.{false_from_ne_true}
use Rattle.life_core.specs.declared.cell.Cell.{Cell}
use Rattle.life_core.specs.Cell.{cell_cmp}
use Rattle.life_core.specs.Pattern.{Cells, in_order}
use Rattle.life_core.proofs.PatternMembers.{same_cell, has_cell, same_cell-true, same_cell-self, cell_cmp_total}
use Rattle.life_core.proofs.PatternMembers.{contains-list, contains-items, passing_cell, passed_by_member}
use Rattle.life_code.proofs.ApartNear.{near_symmetric}
use Rattle.life_code.proofs.ApartUnions.{IsIn, in_from_contains}
use Rattle.life_code.specs.Apart.{near}
use Rattle.life_census.specs.Cluster.{AreJoined, IsCluster, IsBefore, AreInOrder, AreClustersOf}
use Rattle.life_census.specs.Cluster.{touches, joined_with, clusters_among, clusters_of}
use Rattle.life_census.specs.CensusLaws.{OneClusterEach}
use Rattle.life_core.proofs.PatternOrder.{in_order-sorted, from_list-in_order}
use Rattle.life_census.proofs.ClusterLaws.{joined_self, joined_then, joined_trans, joined_back, near_stays, one_cluster}
use Rattle.life_census.proofs.ClusterLaws.{one_whole, one_list_of_clusters, contains_from_in, all_in, all_from_in}
use Rattle.life_census.proofs.ClusterSteps.{chain_in_more}

-- ---- what touches

pub touching : (c : Cell) (P : Cells) → touches c P ≡ true → (d : Cell) × (set.contains P d ≡ true) × (near c d ≡ true)
touching c P h = let p = passing_cell (near c) (set.items P) h in (p.cell, contains-items P p.cell ∙ p.member, p.passes)

pub touches_by : (c d : Cell) (P : Cells) → set.contains P d ≡ true → near c d ≡ true → touches c P ≡ true
touches_by c d P h close = passed_by_member (near c) (set.items P) d (sym (contains-items P d) ∙ h) close

contains-cond : (b : Bool) (P J : Cells) (d : Cell)
    → set.contains (cond b (set.union P J) J) d ≡ ((b && set.contains P d) || set.contains J d)
contains-cond true P J d = set.contains-union cell_cmp_total P J d
contains-cond false P J d = refl

joined_cases : (c d : Cell) (Ps : List Cells) → set.contains (joined_with c Ps) d ≡ true
    → (d ≡ c) ⊎ ((P : Cells) × IsIn Ps P × (touches c P ≡ true) × (set.contains P d ≡ true))
joined_cases c d [] h =
    elim (or_cases (same_cell d c) (set.contains (set.empty {R = cell_cmp}) d)
    (sym (set.contains-insert cell_cmp_total set.empty c d) ∙ h)) [
      | inl same ↦ inl (same_cell-true d c same)
      | inr none ↦ absurd (false≢true (sym (set.contains-empty cell_cmp d) ∙ none))
    ]
joined_cases c d (P ∷ Ps) h =
    elim (or_cases (touches c P && set.contains P d) (set.contains (joined_with c Ps) d)
    (sym (contains-cond (touches c P) P (joined_with c Ps) d) ∙ h)) [
      | inl here ↦ let both = and_parts _ _ here in inr (P, inl refl, both.0, both.1)
      | inr rest ↦ elim (joined_cases c d Ps rest) [
        | inl same ↦ inl same
        | inr found ↦ inr (found.0, inr found.1, found.2, found.3)
      ]
    ]

joined_first : (c : Cell) (Ps : List Cells) → set.contains (joined_with c Ps) c ≡ true
joined_first c [] = set.contains-insert cell_cmp_total set.empty c c ∙ or_left _ _ (same_cell-self c)
joined_first c (P ∷ Ps) = contains-cond (touches c P) P (joined_with c Ps) c ∙ or_right _ _ (joined_first c Ps)

joined_from : (c d : Cell) (Ps : List Cells) (P : Cells) → IsIn Ps P → touches c P ≡ true → set.contains P d ≡ true
    → set.contains (joined_with c Ps) d ≡ true
joined_from c d [] P h t live = absurd h
joined_from c d (Q ∷ Qs) P h t live = contains-cond (touches c Q) Q (joined_with c Qs) d ∙ elim h [
  | inl same ↦ or_left _ _ (and_from _ _ (ap (touches c) same ∙ t) (ap (λ (R : Cells). set.contains R d) same ∙ live))
  | inr rest ↦ or_right _ _ (joined_from c d Qs P rest t live)
]

-- ---- filters of lists of sets

in_filter : (p : Cells → Bool) (Ps : List Cells) (P : Cells) → IsIn (filter p Ps) P → IsIn Ps P × (p P ≡ true)
in_filter p [] P h = absurd h
in_filter p (Q ∷ Qs) P h = go (p Q) refl h (in_filter p Qs P)
  where
    go : (b : Bool) → p Q ≡ b → IsIn (cond b (Q ∷ filter p Qs) (filter p Qs)) P
        → (IsIn (filter p Qs) P → IsIn Qs P × (p P ≡ true)) → IsIn (Q ∷ Qs) P × (p P ≡ true)
    go true e k later = elim k [
      | inl same ↦ (inl same, ap p (sym same) ∙ e)
      | inr rest ↦ let below = later rest in (inr below.0, below.1)
    ]
    go false e k later = let below = later k in (inr below.0, below.1)

filter_in : (p : Cells → Bool) (Ps : List Cells) (P : Cells) → IsIn Ps P → p P ≡ true → IsIn (filter p Ps) P
filter_in p [] P h t = absurd h
filter_in p (Q ∷ Qs) P h t = go (p Q) refl (λ rest. filter_in p Qs P rest t)
  where
    go : (b : Bool) → p Q ≡ b → (IsIn Qs P → IsIn (filter p Qs) P) → IsIn (cond b (Q ∷ filter p Qs) (filter p Qs)) P
    go true e later = elim h [ inl same ↦ inl same | inr rest ↦ inr (later rest) ]
    go false e later = elim h [ inl same ↦ absurd (false≢true (sym e ∙ ap p same ∙ t)) | inr rest ↦ later rest ]

order_filter : (p : Cells → Bool) (Ps : List Cells) → AreInOrder Ps → AreInOrder (filter p Ps)
order_filter p [] order = tt
order_filter p (Q ∷ Qs) order = go (p Q) (order_filter p Qs order.1)
  where
    go : (b : Bool) → AreInOrder (filter p Qs) → AreInOrder (cond b (Q ∷ filter p Qs) (filter p Qs))
    go true rest =
        (all_from_in (IsBefore Q) (filter p Qs) (λ P h. all_in (IsBefore Q) Qs P order.0 (in_filter p Qs P h).0), rest)
    go false rest = rest

-- ---- one cell more, before all others

module _ (Y : Cells) (Ps : List Cells) (old : AreClustersOf Y Ps) (X : Cells)
    (c : Cell) (has : (d : Cell) → set.contains X d ≡ (same_cell d c || set.contains Y d))
    (first : (d : Cell) → set.contains Y d ≡ true → cell_cmp c d ≡ Less) where
  abbrev J : Cells
  J = joined_with c Ps

  is_old : (P : Cells) → IsIn Ps P → IsCluster Y P
  is_old P h = all_in (IsCluster Y) Ps P old.each h

  wider : (d : Cell) → set.contains Y d ≡ true → set.contains X d ≡ true
  wider d h = has d ∙ or_right _ _ h

  has_first : set.contains X c ≡ true
  has_first = has c ∙ or_left _ _ (same_cell-self c)

  part_of : (d : Cell) → set.contains Y d ≡ true → (P : Cells) × IsIn Ps P × (set.contains P d ≡ true)
  part_of d h = let found = old.covers d h in (found.0, in_from_contains Ps found.0 found.1, found.2)

  cases_X : (d : Cell) → set.contains X d ≡ true → (d ≡ c) ⊎ (set.contains Y d ≡ true)
  cases_X d h = elim (or_cases (same_cell d c) (set.contains Y d) (sym (has d) ∙ h)) [
    | inl same ↦ inl (same_cell-true d c same)
    | inr there ↦ inr there
  ]

  wide : (d e : Cell) → AreJoined Y d e → AreJoined X d e
  wide d e j = (j.0, chain_in_more Y X wider d e j.0 j.1)

  from_first : (d : Cell) → set.contains J d ≡ true → AreJoined X c d
  from_first d h = elim (joined_cases c d Ps h) [
    | inl same ↦ subst (AreJoined X c) (sym same) (joined_self X c)
    | inr found ↦
        let t = touching c found.0 found.2 in
        let part = is_old found.0 found.1 in
        joined_trans X c t.0 d (joined_then X c c t.0 (joined_self X c) (wider t.0 (part.inside t.0 t.1)) t.2)
        (wide t.0 d (part.joined t.0 d t.1 found.3))
  ]

  nobody : (d e : Cell) → set.contains J d ≡ true → set.contains X e ≡ true → near d e ≡ true → set.contains J e ≡ true
  nobody d e h there close = elim (cases_X e there) [
    | inl same ↦ ap (set.contains J) same ∙ joined_first c Ps
    | inr in_Y ↦ elim (joined_cases c d Ps h) [
      | inl same ↦
          let found = part_of e in_Y in
          joined_from c e Ps found.0 found.1
          (touches_by c e found.0 found.2 (ap (λ x. near x e) (sym same) ∙ close)) found.2
      | inr found ↦
          joined_from c e Ps found.0 found.1 found.2
          (near_stays Y found.0 (is_old found.0 found.1) d e found.3 in_Y close)
    ]
  ]

  new_part : IsCluster X J
  new_part = record {
    inside = λ d h. elim (joined_cases c d Ps h) [
      | inl same ↦ ap (set.contains X) same ∙ has_first
      | inr found ↦ wider d ((is_old found.0 found.1).inside d found.3)
    ];
    cell = (c, joined_first c Ps);
    joined = λ d e h k. joined_trans X d c e (joined_back X c d has_first (from_first d h)) (from_first e k);
    apart =
        λ d e h there other. false_from_ne_true (near d e) (λ close. false≢true (sym other ∙ nobody d e h there close));
  }

  not_first : (P : Cells) → not (touches c P) ≡ true → touches c P ≡ false
  not_first P h = go (touches c P) h
    where
      go : (b : Bool) → not b ≡ true → b ≡ false
      go true k = absurd (false≢true k)
      go false k = refl

  old_part : (P : Cells) → IsIn Ps P → touches c P ≡ false → IsCluster X P
  old_part P h far = let part = is_old P h in record {
    inside = λ d k. wider d (part.inside d k);
    cell = part.cell;
    joined = λ d e k l. wide d e (part.joined d e k l);
    apart = λ d e k there other. elim (cases_X e there) [
      | inl same ↦
          false_from_ne_true (near d e)
          (λ close. false≢true (sym far ∙ touches_by c d P k (near_symmetric c d ∙ ap (near d) (sym same) ∙ close)))
      | inr in_Y ↦ part.apart d e k in_Y other
    ];
  }

  abbrev now : List Cells
  now = J ∷ filter (λ P. not (touches c P)) Ps

  is_now : (P : Cells) → IsIn now P → IsCluster X P
  is_now P h = elim h [
    | inl same ↦ subst (IsCluster X) same new_part
    | inr rest ↦ let kept = in_filter (λ P. not (touches c P)) Ps P rest in old_part P kept.0 (not_first P kept.1)
  ]

  covered : (d : Cell) → set.contains X d ≡ true → (P : Cells) × IsIn now P × (set.contains P d ≡ true)
  covered d h = elim (cases_X d h) [
    | inl same ↦ (J, inl refl, ap (set.contains J) same ∙ joined_first c Ps)
    | inr in_Y ↦
        let found = part_of d in_Y in
        elim (cases_Bool (touches c found.0)) [
          | inl near_c ↦ (J, inl refl, joined_from c d Ps found.0 found.1 near_c found.2)
          | inr far ↦ (found.0, inr (filter_in (λ P. not (touches c P)) Ps found.0 found.1 (ap not far)), found.2)
        ]
  ]

  one_cell_more : AreClustersOf X now
  one_cell_more = record {
    each = all_from_in (IsCluster X) now is_now;
    all = λ P part.
        let found = covered part.cell.0 (part.inside part.cell.0 part.cell.1) in
        contains_from_in now P (subst (IsIn now)
        (one_cluster X found.0 P part.cell.0 (is_now found.0 found.1) part found.2 part.cell.1) found.1);
    covers = λ d h. let found = covered d h in (found.0, contains_from_in now found.0 found.1, found.2);
    ascend = (
      all_from_in (IsBefore J) _ (λ P h.
          (c, joined_first c Ps, λ d k. first d ((is_old P (in_filter (λ P. not (touches c P)) Ps P h).0).inside d k))),
      order_filter _ Ps old.ascend,
    );
  }

no_parts : AreClustersOf (set.empty {R = cell_cmp}) []
no_parts = record {
  each = tt;
  all =
      λ P part.
      absurd (false≢true (sym (set.contains-empty cell_cmp part.cell.0) ∙ part.inside part.cell.0 part.cell.1));
  covers = λ c h. absurd (false≢true (sym (set.contains-empty cell_cmp c) ∙ h));
  ascend = tt;
}

all_has : (F : Cell → Type 0) (cs : List Cell) (d : Cell) → AllByRecursion F cs → has_cell cs d ≡ true → F d
all_has F [] d all h = absurd (false≢true h)
all_has F (x ∷ xs) d all h = elim (or_cases (same_cell d x) (has_cell xs d) h) [
  | inl same ↦ subst F (sym (same_cell-true d x same)) all.0
  | inr rest ↦ all_has F xs d all.1 rest
]

pub clusters_among_are : (cs : List Cell) → IsStrictlySortedBy cell_cmp cs
    → AreClustersOf (set.from_list cs) (clusters_among cs)
unfolding IsStrictlySortedBy
clusters_among_are [] sorted = no_parts
clusters_among_are (c ∷ cs) sorted =
    one_cell_more (set.from_list cs) (clusters_among cs) (clusters_among_are cs sorted.1) (set.from_list (c ∷ cs)) c
    (λ d. set.contains-insert cell_cmp_total (set.from_list cs) c d)
    (λ d h. all_has (λ y. cell_cmp c y ≡ Less) cs d sorted.0 (sym (contains-list cs d) ∙ h))

-- `parts X` are the parts of X
pub clusters_are : (X : Cells) → AreClustersOf X (clusters_of X)
unfolding clusters_of
clusters_are X =
    subst (λ (Y : Cells). AreClustersOf Y (clusters_among (in_order X))) (from_list-in_order X)
    (clusters_among_are (in_order X) (in_order-sorted X))

-- and no other list is theirs
pub clusters_listed : (X : Cells) (Ps : List Cells) → AreClustersOf X Ps → Ps ≡ clusters_of X
clusters_listed X Ps are = one_list_of_clusters X Ps (clusters_of X) are (clusters_are X)

-- a set with one part is that part
pub whole_part : (X : Cells) (Ps : List Cells) → AreClustersOf X Ps → length Ps ≡ 1 → X ∷ [] ≡ clusters_of X
whole_part X Ps are one = sym (one_whole X Ps are one) ∙ clusters_listed X Ps are

-- each cell of X is in one of its parts, and in no other
pub one_cluster_each : OneClusterEach
one_cluster_each X c here =
    let are = clusters_are X in
    let found = are.covers c here in (
      found.0,
      found.1,
      found.2,
      λ Q listed held.
          one_cluster X Q found.0 c (all_in (IsCluster X) (clusters_of X) Q are.each
          (in_from_contains (clusters_of X) Q listed)) (all_in (IsCluster X) (clusters_of X) found.0 are.each
          (in_from_contains (clusters_of X) found.0 found.1)) held found.2,
    )
