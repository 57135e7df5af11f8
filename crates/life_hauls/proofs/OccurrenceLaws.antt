-- Occurrences are a sum, and the least number of a soup with one.
use Rattle.std.specs.Prelude.{◌≡◌, ◌⊎◌, ℕ, zero, suc, ◌≤◌, min, Bool, true, false, cond, List, [], ◌∷◌, filter, sum_by}
use Rattle.std.specs.Prelude.{Option, None, Some, refl}
use Rattle.std.proofs.Common.{sym, ap, subst, ◌∙◌, inl, inr, arith}
use Rattle.std.specs.List.{Contains}
use Rattle.std.proofs.lemmas.Bool.{false≢true, cases_lt}
use Rattle.std.proofs.lemmas.List.Sums.{sum_by-cons}
use Rattle.life_code.proofs.ApartUnions.{IsIn, in_from_contains}
use Rattle.life_census.proofs.ClusterLaws.{contains_from_in}
use Rattle.life_hauls.specs.declared.haul_rows.Occurrences.{Occurrences}
use Rattle.life_hauls.specs.Hauls.{is_positive, lesser_number, least_number, seen, joined}
use Rattle.life_hauls.specs.HaulLaws.{SeenIsLeast, NothingIsSeen}
use Rattle.life_hauls.proofs.SeenLemmas.{has, occurrences, none_are_none, seen-none, seen-append, seen-one, occurs}

-- ---- the least of a list

least_in : (ns : List ℕ) (m : ℕ) → least_number ns ≡ Some m → IsIn ns m
least_in [] m h = absurd (none_some h)
  where
    none_some : None ≡ Some m → ⊥
    none_some h = cc
least_in (n ∷ ns) m h = go (least_number ns) refl h (least_in ns)
  where
    go : (o : Option ℕ) → least_number ns ≡ o → Some (lesser_number n o) ≡ Some m
        → ((k : ℕ) → least_number ns ≡ Some k → IsIn ns k) → (n ≡ m) ⊎ IsIn ns m
    go None is h rest = inl (let e : n ≡ m = cc in e)
    go (Some k) is h rest =
        let e : min n k ≡ m = cc in
        elim (cases_lt n k) [
          | inl low ↦ inl (omega (arith, low, e))
          | inr high ↦ let same : k ≡ m = omega (arith, high, e) in inr (subst (IsIn ns) same (rest k is))
        ]

least_below : (ns : List ℕ) (m i : ℕ) → least_number ns ≡ Some m → IsIn ns i → m ≤ i
least_below [] m i h there = absurd there
least_below (n ∷ ns) m i h there = go (least_number ns) refl h there (least_below ns)
  where
    none_in : (ks : List ℕ) → least_number ks ≡ None → IsIn ks i → ⊥
    none_in [] none there = there
    none_in (k ∷ ks) none there = absurd (some_none none)
      where
        some_none : Some (lesser_number k (least_number ks)) ≡ None → ⊥
        some_none h = cc

    go : (o : Option ℕ) → least_number ns ≡ o → Some (lesser_number n o) ≡ Some m → (n ≡ i) ⊎ IsIn ns i
        → ((k j : ℕ) → least_number ns ≡ Some k → IsIn ns j → k ≤ j) → m ≤ i
    go None is h (inl same) rest = let e : n ≡ m = cc in omega (arith, e, same)
    go None is h (inr there) rest = absurd (none_in ns is there)
    go (Some k) is h (inl same) rest = let e : min n k ≡ m = cc in omega (arith, e, same)
    go (Some k) is h (inr there) rest = let e : min n k ≡ m = cc in let low = rest k i is there in omega (arith, e, low)

-- ---- what passes a test

in_filter : (p : ℕ → Bool) (ns : List ℕ) (i : ℕ) → IsIn (filter p ns) i → IsIn ns i × (p i ≡ true)
in_filter p [] i h = absurd h
in_filter p (n ∷ ns) i h = go (p n) refl h (in_filter p ns i)
  where
    go : (b : Bool) → p n ≡ b → IsIn (cond b (n ∷ filter p ns) (filter p ns)) i
        → (IsIn (filter p ns) i → IsIn ns i × (p i ≡ true)) → ((n ≡ i) ⊎ IsIn ns i) × (p i ≡ true)
    go true is (inl same) rest = (inl same, ap p (sym same) ∙ is)
    go true is (inr there) rest = let found = rest there in (inr found.0, found.1)
    go false is there rest = let found = rest there in (inr found.0, found.1)

filter_in : (p : ℕ → Bool) (ns : List ℕ) (i : ℕ) → IsIn ns i → p i ≡ true → IsIn (filter p ns) i
filter_in p [] i h passes = absurd h
filter_in p (n ∷ ns) i h passes = go (p n) refl h (λ there. filter_in p ns i there passes)
  where
    go : (b : Bool) → p n ≡ b → (n ≡ i) ⊎ IsIn ns i → (IsIn ns i → IsIn (filter p ns) i)
        → IsIn (cond b (n ∷ filter p ns) (filter p ns)) i
    go true is (inl same) rest = inl same
    go true is (inr there) rest = inr (rest there)
    go false is (inl same) rest = absurd (false≢true (sym is ∙ ap p same ∙ passes))
    go false is (inr there) rest = rest there

positive_is : (n : ℕ) → is_positive n ≡ true → 1 ≤ n
positive_is zero h = absurd (false≢true h)
positive_is (suc n) h = omega arith

is_positive_from : (n : ℕ) → 1 ≤ n → is_positive n ≡ true
is_positive_from zero h = absurd (omega (arith, h))
is_positive_from (suc n) h = refl

-- ---- occurrences

pub seen_is_least : SeenIsLeast
unfolding seen
seen_is_least f ns s h = go (least_number (filter (has f) ns)) refl h
  where
    go : (o : Option ℕ) → least_number (filter (has f) ns) ≡ o → occurrences f (sum_by f ns) o ≡ Some s
        → (s.count ≡ sum_by f ns) × Contains ns s.first × (1 ≤ f s.first)
        × ((i : ℕ) → Contains ns i → 1 ≤ f i → s.first ≤ i)
    go None is h = absurd (none_some h)
      where
        none_some : None ≡ Some s → ⊥
        none_some h = cc
    go (Some m) is h =
        let whole : record { count = sum_by f ns; first = m } ≡ s = cc in
        let there = in_filter (has f) ns m (least_in (filter (has f) ns) m is) in
        let first = ap (λ (t : Occurrences). t.first) whole in (
          sym (ap (λ (t : Occurrences). t.count) whole),
          subst (Contains ns) first (contains_from_in ns m there.0),
          subst (λ i. 1 ≤ f i) first (positive_is (f m) there.1),
          λ i member some. subst (λ k. k ≤ i) first (least_below (filter (has f) ns) m i is
              (filter_in (has f) ns i (in_from_contains ns i member) (is_positive_from (f i) some))),
        )

zero_none : (f : ℕ → ℕ) (ns : List ℕ) → sum_by f ns ≡ 0 → seen f ns ≡ None
zero_none f [] none = seen-none f
zero_none f (n ∷ ns) none =
    let whole = sum_by-cons f n ns in
    let here : f n ≡ 0 = omega (arith, whole, none) in
    let rest : sum_by f ns ≡ 0 = omega (arith, whole, none) in
    seen-append f (n ∷ []) ns ∙ (λ k. joined ((seen-one f n ∙ ap (λ j. occurs j n) here) k) (zero_none f ns rest k))

pub nothing_is_seen : NothingIsSeen
unfolding seen
nothing_is_seen f ns = (λ none. go (least_number (filter (has f) ns)) refl none, zero_none f ns)
  where
    go : (o : Option ℕ) → least_number (filter (has f) ns) ≡ o → occurrences f (sum_by f ns) o ≡ None → sum_by f ns ≡ 0
    go None is none = none_are_none f ns is
    go (Some m) is none = absurd (some_none none)
      where
        some_none : {s : Occurrences} → Some s ≡ None → ⊥
        some_none h = cc
