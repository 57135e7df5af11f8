-- Members of a list of texts, and the least of them.
use Rattle.std.proofs.Common.{append-nil, ◌≡◌, ℕ, zero, suc, ◌+◌, ◌<◌, true, false, cond, Option, Some, None, List, []}
use Rattle.std.proofs.Common.{◌∷◌, ◌++◌, length, refl, sym, ap, ◌∙◌, subst, arith, true≢false, ◌⊎◌, inl, inr, ⊎_elim}
use Rattle.std.proofs.Common.{add-zero}
use Rattle.std.specs.Prelude.{MatchOption}
use Rattle.std.specs.List.{flat_map, range_with_len}
use Rattle.std.specs.declared.cmp.Ordering.{Ordering}
use Rattle.std.specs.declared.cmp.Ordering.TheVariants.{Less, Equal, Greater}
use Rattle.std.specs.Ordering.{ordering_then, ordering_reverse, nat_cmp, is_gt}
use Rattle.std.specs.Cmp.{IsTotalOrder}
use Rattle.std.specs.Cmp.Lexicographic.{slice_cmp}
use Rattle.std.specs.FinSet.{IsAntisymmetric, nat_cmp-IsAntisymmetric, slice_cmp-IsAntisymmetric}
use Rattle.std.proofs.lemmas.Cmp.{then_total, on_total, nat_cmp_total, nat_list_cmp_total, tied_itself, upto}
use Rattle.life_code.specs.Codes.{text_cmp, lesser, least_text, orientations}
use Rattle.life_code.specs.CodesState.{kept_least}
use Rattle.life_core.specs.declared.orientation.Orientation.{Orientation}
use Rattle.life_core.specs.declared.orientation.Orientation.TheVariants.{O0, O1, O2, O3, O4, O5, O6, O7}

-- P holds of one of the elements
abbrev pub OneOf : {X : Type 0} → (X → Type 0) → List X → Type 0
OneOf P [] = ⊥
OneOf P (x ∷ xs) = P x ⊎ OneOf P xs

-- t is one of the texts
abbrev pub In : List ℕ → List (List ℕ) → Type 0
In t ts = OneOf (λ u. u ≡ t) ts

module _ {X : Type 0} (P : X → Type 0) where
  -- an element of one of two lists is one of the two together, and back
  one_left : (xs ys : List X) → OneOf P xs → OneOf P (xs ++ ys)
  one_left [] ys h = absurd h
  one_left (x ∷ xs) ys h = ⊎_elim (λ g. inl g) (λ g. inr (one_left xs ys g)) h

  one_right : (xs ys : List X) → OneOf P ys → OneOf P (xs ++ ys)
  one_right [] ys h = h
  one_right (x ∷ xs) ys h = inr (one_right xs ys h)

  one_cases : (xs ys : List X) → OneOf P (xs ++ ys) → OneOf P xs ⊎ OneOf P ys
  one_cases [] ys h = inr h
  one_cases (x ∷ xs) ys h =
      ⊎_elim (λ g. inl (inl g)) (λ g. ⊎_elim (λ k. inl (inr k)) (λ k. inr k) (one_cases xs ys g)) h

  module _ {A : Type 0} (f : A → List X) where
    -- the elements of `flat_map f xs` are those of the lists that f gives
    pub one_flat : (xs : List A) → OneOf (λ a. OneOf P (f a)) xs → OneOf P (flat_map f xs)
    one_flat [] h = absurd h
    one_flat (a ∷ xs) h =
        ⊎_elim (λ g. one_left (f a) (flat_map f xs) g) (λ g. one_right (f a) (flat_map f xs) (one_flat xs g)) h

    pub flat_one : (xs : List A) → OneOf P (flat_map f xs) → OneOf (λ a. OneOf P (f a)) xs
    flat_one [] h = h
    flat_one (a ∷ xs) h = ⊎_elim (λ g. inl g) (λ g. inr (flat_one xs g)) (one_cases (f a) (flat_map f xs) h)

  -- the element of which P holds
  pub one_some : (xs : List X) → OneOf P xs → (x : X) × P x
  one_some [] h = absurd h
  one_some (x ∷ xs) h = ⊎_elim (λ g. (x, g)) (λ g. one_some xs g) h

-- every orientation is in the list of all
pub each_orientation : (P : Orientation → Type 0) (o : Orientation) → P o → OneOf P orientations
each_orientation P O0 h = inl h
each_orientation P O1 h = inr (inl h)
each_orientation P O2 h = inr (inr (inl h))
each_orientation P O3 h = inr (inr (inr (inl h)))
each_orientation P O4 h = inr (inr (inr (inr (inl h))))
each_orientation P O5 h = inr (inr (inr (inr (inr (inl h)))))
each_orientation P O6 h = inr (inr (inr (inr (inr (inr (inl h))))))
each_orientation P O7 h = inr (inr (inr (inr (inr (inr (inr (inl h)))))))

-- the elements of a range are a + i with i below n
pub range_one : (P : ℕ → Type 0) (a n i : ℕ) → i < n → P (a + i) → OneOf P (range_with_len a n)
range_one P a zero i h at = absurd (omega arith)
range_one P a (suc n) zero h at = inl (subst P (add-zero a) at)
range_one P a (suc n) (suc i) h at =
    inr (range_one P (a + 1) n i (omega arith) (subst P (let e : a + suc i ≡ a + 1 + i = omega arith in e) at))

pub one_range : (P : ℕ → Type 0) (a n : ℕ) → OneOf P (range_with_len a n) → (i : ℕ) × (i < n) × P (a + i)
one_range P a zero h = absurd h
one_range P a (suc n) h =
    ⊎_elim
    (λ g. (0, omega arith, subst P (sym (add-zero a)) g))
    (λ g. let rest = one_range P (a + 1) n g in
    (suc rest.0, omega arith, subst P (let e : a + 1 + rest.0 ≡ a + suc rest.0 = omega arith in e) rest.2))
    h

-- ---- the least text

-- the order of texts is total
pub text_total : IsTotalOrder text_cmp
text_total = then_total (on_total (λ (t : List ℕ). length t) nat_cmp_total) nat_list_cmp_total

-- texts that compare as equal are one
pub text_antisymmetric : IsAntisymmetric text_cmp
text_antisymmetric a b e =
    elim (nat_cmp (length a) (length b)) as (λ o. ordering_then o (slice_cmp nat_cmp a b) ≡ Equal → a ≡ b) [
      | Less ↦ λ h. absurd (cc)
      | Equal ↦ λ h. slice_cmp-IsAntisymmetric nat_cmp-IsAntisymmetric a b h
      | Greater ↦ λ h. absurd (cc)
    ] e

-- a text of the list that no other undercuts
abbrev pub IsLeastText : List (List ℕ) → List ℕ → Type 0
IsLeastText ts t = (In t ts) × ((u : List ℕ) → In u ts → is_gt (text_cmp t u) ≡ false)

not_above_itself : (t : List ℕ) → is_gt (text_cmp t t) ≡ false
not_above_itself t = ap is_gt (tied_itself text_total t)

below_back : (a b : List ℕ) → is_gt (text_cmp a b) ≡ true → is_gt (text_cmp b a) ≡ false
below_back a b h = ap is_gt (text_total.antisymm b a) ∙ by (text_cmp a b) h
  where
    by : (o : Ordering) → is_gt o ≡ true → is_gt (ordering_reverse o) ≡ false
    by Less e = absurd (true≢false (sym e))
    by Equal e = absurd (true≢false (sym e))
    by Greater e = refl

-- the least text is one of the texts, and no other undercuts it
pub least_is : (ts : List (List ℕ)) → MatchOption (least_text ts) (ts ≡ []) (λ t. IsLeastText ts t)
unfolding least_text
least_is [] = refl
least_is (a ∷ others) = by (least_text others) (least_is others)
  where
    by : (o : Option (List ℕ)) → MatchOption o (others ≡ []) (λ t. IsLeastText others t)
        → IsLeastText (a ∷ others) (lesser a o)
    by None e = (
      inl refl,
      λ u h. ⊎_elim (λ g. subst (λ z. is_gt (text_cmp a z) ≡ false) g (not_above_itself a))
          (λ g. absurd (subst (λ z. In u z) e g)) h,
    )
    by (Some b) (has, low) =
        elim (is_gt (text_cmp a b)) as (λ t. is_gt (text_cmp a b) ≡ t → IsLeastText (a ∷ others) (cond t b a)) [
          | true ↦ λ e. (
            inr has,
            λ u h. ⊎_elim (λ g. subst (λ z. is_gt (text_cmp b z) ≡ false) g (below_back a b e)) (λ g. low u g) h,
          )
          | false ↦ λ e. (
            inl refl,
            λ u h. ⊎_elim (λ g. subst (λ z. is_gt (text_cmp a z) ≡ false) g (not_above_itself a))
                (λ g. upto text_total a b u e (low u g)) h,
          )
        ] refl

-- there is but one least
least_one : (ts : List (List ℕ)) (a b : List ℕ) → IsLeastText ts a → IsLeastText ts b → a ≡ b
least_one ts a b (has, low) (also, under) =
    text_antisymmetric a b (by (text_cmp a b) (low b also) (sym (ap is_gt (text_total.antisymm b a)) ∙ under a has))
  where
    by : (o : Ordering) → is_gt o ≡ false → is_gt (ordering_reverse o) ≡ false → o ≡ Equal
    by Less e h = absurd (true≢false h)
    by Equal e h = refl
    by Greater e h = absurd (true≢false e)

-- lists with the same members have one least
pub least_same : (ss ts : List (List ℕ)) → ((t : List ℕ) → In t ss → In t ts) → ((t : List ℕ) → In t ts → In t ss)
    → least_text ss ≡ least_text ts
least_same ss ts to back = by (least_text ss) (least_text ts) (least_is ss) (least_is ts)
  where
    by : (o u : Option (List ℕ)) → MatchOption o (ss ≡ []) (λ t. IsLeastText ss t)
        → MatchOption u (ts ≡ []) (λ t. IsLeastText ts t) → o ≡ u
    by None None e h = refl
    by None (Some b) e h = absurd (subst (λ z. In b z) e (back b h.0))
    by (Some a) None e h = absurd (subst (λ z. In a z) h (to a e.0))
    by (Some a) (Some b) e h = ap (λ t. Some t) (least_one ss a b e (back b h.0, λ u g. h.1 u (to u g)))

-- ---- a text kept

in_left : (t : List ℕ) (ss ts : List (List ℕ)) → In t ss → In t (ss ++ ts)
in_left t ss ts h = one_left (λ u. u ≡ t) ss ts h

in_right : (t : List ℕ) (ss ts : List (List ℕ)) → In t ts → In t (ss ++ ts)
in_right t ss ts h = one_right (λ u. u ≡ t) ss ts h

-- where in the list a text stands plays no part
least_moved : (a : List ℕ) (ss ts : List (List ℕ)) → least_text ((a ∷ ss) ++ ts) ≡ least_text (ss ++ a ∷ ts)
least_moved a ss ts = least_same _ _
    (λ t h. ⊎_elim (λ e. in_right t ss (a ∷ ts) (inl e)) (λ g. ⊎_elim (λ k. in_left t ss (a ∷ ts) k)
    (λ k. in_right t ss (a ∷ ts) (inr k)) (one_cases (λ u. u ≡ t) ss ts g)) h)
    (λ t h. ⊎_elim (λ k. inr (in_left t ss ts k)) (λ k. ⊎_elim (λ e. inl e) (λ g. inr (in_right t ss ts g)) k)
    (one_cases (λ u. u ≡ t) ss (a ∷ ts) h))

least_more : (a : List ℕ) (ss : List (List ℕ)) → Some (lesser a (least_text ss)) ≡ least_text (a ∷ ss)
unfolding least_text
least_more a ss = refl

-- to go on from the least of some texts gives the least of all
pub keep_on : (ss ts : List (List ℕ)) → kept_least (least_text ss) ts ≡ least_text (ss ++ ts)
keep_on ss [] = ap least_text (sym (append-nil ss))
keep_on ss (a ∷ ts) = ap (λ b. kept_least b ts) (least_more a ss) ∙ keep_on (a ∷ ss) ts ∙ least_moved a ss ts

-- texts can be taken in two parts
pub keep-append : (best : Option (List ℕ)) (ss ts : List (List ℕ))
    → kept_least best (ss ++ ts) ≡ kept_least (kept_least best ss) ts
keep-append best [] ts = refl
keep-append best (a ∷ ss) ts = keep-append (Some (lesser a best)) ss ts

least_empty : least_text [] ≡ None
unfolding least_text
least_empty = refl

-- to keep the lesser of each gives the least
pub keep_least : (ts : List (List ℕ)) → kept_least None ts ≡ least_text ts
keep_least ts = ap (λ b. kept_least b ts) (sym least_empty) ∙ keep_on [] ts
