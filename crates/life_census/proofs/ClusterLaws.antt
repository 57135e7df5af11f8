-- Two clusters that share a cell are equal, and a set has only one list of clusters.
use Rattle.std.specs.Prelude.{◌≡◌, ℕ, true, List, [], ◌∷◌, ◌++◌, length, refl}
use Rattle.std.proofs.Common.{sym, ap, subst, ◌∙◌, inl, inr, arith}
use Rattle.std.specs.Ordering.{is_lt}
use Rattle.std.proofs.lemmas.Bool.{false≢true, cases_Bool}
use Rattle.std.proofs.lemmas.Cmp.{tied_itself}
use Rattle.std.proofs.lemmas.List.Elements.{All-from_recursion, Contains-append_left, Contains-append_right}
use Rattle.std.proofs.lemmas.List.Elements.{Contains-push}
use Rattle.std.specs.List.{All, AllByRecursion, Contains}
use Rattle.std.specs.FinSet as set
use Rattle.life_core.specs.declared.cell.Cell.{Cell}
use Rattle.life_core.specs.Pattern.{Cells, IsWithin}
use Rattle.life_core.proofs.PatternMembers.{cell_cmp_total, same_answer, cells_by_members}
use Rattle.life_code.proofs.ApartNear.{near_symmetric}
use Rattle.life_code.proofs.ApartUnions.{IsIn, in_from_contains}
use Rattle.life_code.specs.Apart.{near}
use Rattle.life_census.specs.Cluster.{IsChain, AreJoined, IsCluster, IsBefore, AreInOrder, AreClustersOf}

-- ---- chains

chain_append : (X : Cells) (c d e : Cell) (xs ys : List Cell) → IsChain X c xs d → IsChain X d ys e
    → IsChain X c (xs ++ ys) e
chain_append X c d e [] ys p q = subst (λ x. IsChain X x ys e) (sym p) q
chain_append X c d e (x ∷ xs) ys p q = (p.0, p.1, chain_append X x d e xs ys p.2 q)

pub joined_self : (X : Cells) (c : Cell) → AreJoined X c c
joined_self X c = ([], refl)

pub joined_trans : (X : Cells) (c d e : Cell) → AreJoined X c d → AreJoined X d e → AreJoined X c e
joined_trans X c d e p q = (p.0 ++ q.0, chain_append X c d e p.0 q.0 p.1 q.1)

-- a chain, and one near cell more
pub joined_then : (X : Cells) (c d e : Cell) → AreJoined X c d → set.contains X e ≡ true → near d e ≡ true
    → AreJoined X c e
joined_then X c d e p here close = joined_trans X c d e p (e ∷ [], (here, close, refl))

chain_back : (X : Cells) (c d : Cell) (xs : List Cell) → set.contains X c ≡ true → IsChain X c xs d → AreJoined X d c
chain_back X c d [] here e = ([], sym e)
chain_back X c d (x ∷ xs) here h = joined_then X d x c (chain_back X x d xs h.0 h.2) here (near_symmetric x c ∙ h.1)

pub joined_back : (X : Cells) (c d : Cell) → set.contains X c ≡ true → AreJoined X c d → AreJoined X d c
joined_back X c d here p = chain_back X c d p.0 here p.1

-- ---- parts lie inside

pub parts_within : (k : ℕ) (X : Cells) (Ps : List Cells) → AreClustersOf X Ps → IsWithin k X → All (IsWithin k) Ps
parts_within k X Ps clusters_of room i d low c here =
    room c ((All-from_recursion (IsCluster X) Ps clusters_of.each i d low).inside c here)

-- ---- two parts that share a cell are one

pub near_stays : (X P : Cells) → IsCluster X P → (c d : Cell) → set.contains P c ≡ true → set.contains X d ≡ true
    → near c d ≡ true → set.contains P d ≡ true
near_stays X P part c d here there close = elim (cases_Bool (set.contains P d)) [
  | inl held ↦ held
  | inr free ↦ absurd (false≢true (sym (part.apart c d here there free) ∙ close))
]

chain_stays : (X P : Cells) → IsCluster X P → (c d : Cell) (es : List Cell) → set.contains P c ≡ true
    → IsChain X c es d → set.contains P d ≡ true
chain_stays X P part c d [] here e = ap (set.contains P) (sym e) ∙ here
chain_stays X P part c d (e ∷ es) here h = chain_stays X P part e d es (near_stays X P part c e here h.0 h.1) h.2

pub one_cluster : (X P Q : Cells) (c : Cell) → IsCluster X P → IsCluster X Q → set.contains P c ≡ true
    → set.contains Q c ≡ true → P ≡ Q
one_cluster X P Q c p q in_P in_Q =
    cells_by_members P Q (λ d. same_answer _ _ (within P Q p q in_P in_Q d) (within Q P q p in_Q in_P d))
  where
    within : (P Q : Cells) → IsCluster X P → IsCluster X Q → set.contains P c ≡ true → set.contains Q c ≡ true
        → (d : Cell) → set.contains P d ≡ true → set.contains Q d ≡ true
    within P Q p q in_P in_Q d h = let chain = p.joined c d in_P h in chain_stays X Q q c d chain.0 in_Q chain.1

-- ---- the order

pub before_trans : (P Q R : Cells) → IsBefore P Q → IsBefore Q R → IsBefore P R
before_trans P Q R p q = (p.0, p.1, λ d h. cell_cmp_total.trans p.0 q.0 d (p.2 q.0 q.1) (q.2 d h))

pub before_itself : (P : Cells) → IsBefore P P → ⊥
before_itself P p = false≢true (ap is_lt (sym (tied_itself cell_cmp_total p.0) ∙ p.2 p.0 p.1))

-- ---- membership, by cases on the list

pub contains_from_in : {X : Type 0} (Ps : List X) (P : X) → IsIn Ps P → Contains Ps P
contains_from_in [] P h = absurd h
contains_from_in (Q ∷ Qs) P h = elim h [
  | inl same ↦ Contains-append_left (Q ∷ []) Qs P (subst (Contains (Q ∷ [])) same (Contains-push [] Q))
  | inr rest ↦ Contains-append_right (Q ∷ []) Qs P (contains_from_in Qs P rest)
]

pub all_in : (F : Cells → Type 0) (Ps : List Cells) (P : Cells) → AllByRecursion F Ps → IsIn Ps P → F P
all_in F [] P all h = absurd h
all_in F (Q ∷ Qs) P all h = elim h [ inl same ↦ subst F same all.0 | inr rest ↦ all_in F Qs P all.1 rest ]

pub all_from_in : (F : Cells → Type 0) (Ps : List Cells) → ((P : Cells) → IsIn Ps P → F P) → AllByRecursion F Ps
all_from_in F [] h = tt
all_from_in F (Q ∷ Qs) h = (h Q (inl refl), all_from_in F Qs (λ P k. h P (inr k)))

-- two lists in order with the same members are one
pub one_order : (Ps Qs : List Cells) → AreInOrder Ps → AreInOrder Qs → ((P : Cells) → IsIn Ps P → IsIn Qs P)
    → ((P : Cells) → IsIn Qs P → IsIn Ps P) → Ps ≡ Qs
one_order [] [] s t to from = refl
one_order [] (Q ∷ Qs) s t to from = absurd (from Q (inl refl))
one_order (P ∷ Ps) [] s t to from = absurd (to P (inl refl))
one_order (P ∷ Ps) (Q ∷ Qs) s t to from =
    let first : P ≡ Q = heads (from Q (inl refl)) (to P (inl refl)) in
    λ i. first i ∷ one_order Ps Qs s.1 t.1 (tails P Q Ps Qs first s.0 to) (tails Q P Qs Ps (sym first) t.0 from) i
  where
    heads : IsIn (P ∷ Ps) Q → IsIn (Q ∷ Qs) P → P ≡ Q
    heads h k = elim h [
      | inl same ↦ same
      | inr later ↦ elim k [
        | inl same ↦ sym same
        | inr after ↦
            absurd (before_itself P (before_trans P Q P (all_in (IsBefore P) Ps Q s.0 later)
            (all_in (IsBefore Q) Qs P t.0 after)))
      ]
    ]

    tails : (P Q : Cells) (Ps Qs : List Cells) → P ≡ Q → AllByRecursion (IsBefore P) Ps
        → ((R : Cells) → IsIn (P ∷ Ps) R → IsIn (Q ∷ Qs) R) → (R : Cells) → IsIn Ps R → IsIn Qs R
    tails P Q Ps Qs first before to R h = elim (to R (inr h)) [
      | inl same ↦
          absurd (before_itself P (subst (IsBefore P) (sym (first ∙ same)) (all_in (IsBefore P) Ps R before h)))
      | inr rest ↦ rest
    ]

-- a set has one list of parts
pub one_list_of_clusters : (X : Cells) (Ps Qs : List Cells) → AreClustersOf X Ps → AreClustersOf X Qs → Ps ≡ Qs
one_list_of_clusters X Ps Qs p q = one_order Ps Qs p.ascend q.ascend
    (λ P h. in_from_contains Qs P (q.all P (all_in (IsCluster X) Ps P p.each h)))
    (λ P h. in_from_contains Ps P (p.all P (all_in (IsCluster X) Qs P q.each h)))

-- a set with one part is that part
pub one_whole : (X : Cells) (Ps : List Cells) → AreClustersOf X Ps → length Ps ≡ 1 → Ps ≡ X ∷ []
one_whole X [] clusters_of one = absurd (omega arith)
one_whole X (P ∷ Q ∷ Qs) clusters_of one = absurd (omega arith)
one_whole X (P ∷ []) clusters_of one = λ i. same i ∷ []
  where
    here : (c : Cell) → set.contains X c ≡ true → set.contains P c ≡ true
    here c h = let found = clusters_of.covers c h in elim (in_from_contains (P ∷ []) found.0 found.1) [
      | inl same ↦ ap (λ (Q : Cells). set.contains Q c) same ∙ found.2
      | inr none ↦ absurd none
    ]

    same : P ≡ X
    same = cells_by_members P X (λ c. same_answer _ _ (clusters_of.each.0.inside c) (here c))
