-- The occurrences over two lists of soups, and after one more cluster.
use Rattle.std.specs.Prelude.{◌≡◌, ℕ, zero, suc, ◌+◌, min, Bool, true, false, cond, List, [], ◌∷◌, ◌++◌, filter, sum_by}
use Rattle.std.specs.Prelude.{Option, None, Some, option_map, refl}
use Rattle.std.proofs.Common.{sym, ap, ◌∙◌, arith}
use Rattle.std.proofs.lemmas.Bool.{false≢true}
use Rattle.std.proofs.lemmas.List.Elements.{filter-append}
use Rattle.std.proofs.lemmas.List.Sums.{sum_by-cons, sum_by-append}
use Rattle.life_hauls.specs.declared.haul_rows.Occurrences.{Occurrences}
use Rattle.life_hauls.specs.Hauls.{is_positive, lesser_number, least_number, seen, more, joined}
use Rattle.life_hauls.specs.HaulsState.{once}

-- the lesser of two numbers that may be missing
abbrev lesser : Option ℕ → Option ℕ → Option ℕ
lesser None y = y
lesser (Some n) y = Some (lesser_number n y)

min_assoc : (a b c : ℕ) → min a (min b c) ≡ min (min a b) c
min_assoc a b c = omega arith

min_same : (a : ℕ) → min a a ≡ a
min_same a = omega arith

lesser_more : (a : ℕ) (x y : Option ℕ) → Some (lesser_number a (lesser x y)) ≡ lesser (Some (lesser_number a x)) y
lesser_more a None y = refl
lesser_more a (Some n) None = refl
lesser_more a (Some n) (Some m) = ap Some (min_assoc a n m)

least-append : (ms ns : List ℕ) → least_number (ms ++ ns) ≡ lesser (least_number ms) (least_number ns)
least-append [] ns = refl
least-append (m ∷ ms) ns =
    ap (λ o. Some (lesser_number m o)) (least-append ms ns) ∙ lesser_more m (least_number ms) (least_number ns)

module _ (f : ℕ → ℕ) where
  abbrev pub has : ℕ → Bool
  has i = is_positive (f i)

  -- so many occurrences, from a number on, if there is one
  abbrev pub occurrences : ℕ → Option ℕ → Option Occurrences
  occurrences n = option_map (λ i. record { count = n; first = i })

  nothing : (n : ℕ) → is_positive n ≡ false → n ≡ 0
  nothing zero is = refl
  nothing (suc n) is = absurd (false≢true (sym is))

  not_none : {n : ℕ} → Some n ≡ None → ⊥
  not_none h = cc

  -- if no soup has one, there are none
  pub none_are_none : (ns : List ℕ) → least_number (filter has ns) ≡ None → sum_by f ns ≡ 0
  none_are_none [] none = refl
  none_are_none (n ∷ ns) none = go (has n) refl none (sum_by-cons f n ns) (none_are_none ns)
    where
      go : (b : Bool) → has n ≡ b → least_number (cond b (n ∷ filter has ns) (filter has ns)) ≡ None → sum_by f (n ∷ ns)
          ≡ f n + sum_by f ns → (least_number (filter has ns) ≡ None → sum_by f ns ≡ 0) → sum_by f (n ∷ ns) ≡ 0
      go true is none whole rest = absurd (not_none none)
      go false is none whole rest =
          let here = nothing (f n) is in let there = rest none in omega (arith, whole, here, there)

  joins : (a b : ℕ) (x y : Option ℕ) → (x ≡ None → a ≡ 0) → (y ≡ None → b ≡ 0)
      → occurrences (a + b) (lesser x y) ≡ joined (occurrences a x) (occurrences b y)
  joins a b None None first second = refl
  joins a b None (Some m) first second =
      let e : a + b ≡ b = let z = first refl in omega (arith, z) in ap (λ n. Some (record { count = n; first = m })) e
  joins a b (Some n) None first second =
      let e : a + b ≡ a = let z = second refl in omega (arith, z) in ap (λ k. Some (record { count = k; first = n })) e
  joins a b (Some n) (Some m) first second = refl

  -- what is seen over two lists is what is seen over each
  pub seen-append : (ms ns : List ℕ) → seen f (ms ++ ns) ≡ joined (seen f ms) (seen f ns)
  unfolding seen
  seen-append ms ns =
      ap (λ n. occurrences n (least_number (filter has (ms ++ ns)))) (sum_by-append f ms ns)
      ∙ ap (λ is. occurrences (sum_by f ms + sum_by f ns) (least_number is)) (filter-append has ms ns)
      ∙ ap (occurrences (sum_by f ms + sum_by f ns)) (least-append (filter has ms) (filter has ns))
      ∙ joins (sum_by f ms) (sum_by f ns) (least_number (filter has ms)) (least_number (filter has ns))
      (none_are_none ms) (none_are_none ns)

  pub seen-none : seen f [] ≡ None
  unfolding seen
  seen-none = refl

-- n of something in soup i
abbrev pub occurs : ℕ → ℕ → Option Occurrences
occurs zero i = None
occurs (suc n) i = Some (record { count = suc n; first = i })

pub seen-one : (f : ℕ → ℕ) (i : ℕ) → seen f (i ∷ []) ≡ occurs (f i) i
unfolding seen
seen-one f i =
    ap (λ k. option_map (λ j. record { count = k; first = j }) (least_number (cond (is_positive (f i)) (i ∷ []) [])))
    (sum_by-cons f i [] ∙ alone (f i)) ∙ go (f i)
  where
    alone : (n : ℕ) → n + 0 ≡ n
    alone n = omega arith

    go : (n : ℕ) → option_map (λ j. record { count = n; first = j })
        (least_number (cond (is_positive n) (i ∷ []) [])) ≡ occurs n i
    go zero = refl
    go (suc n) = refl

-- one soup more
pub seen-push : (f : ℕ → ℕ) (ns : List ℕ) (i : ℕ) → seen f (ns ++ i ∷ []) ≡ joined (seen f ns) (occurs (f i) i)
seen-push f ns i = seen-append f ns (i ∷ []) ∙ ap (joined (seen f ns)) (seen-one f i)

-- one more in soup i
pub occurs-more : (x : Option Occurrences) (n i : ℕ)
    → Some (more (joined x (occurs n i)) (once i)) ≡ joined x (occurs (n + 1) i)
occurs-more x n i = go x n ∙ ap (λ k. joined x (occurs k i)) (next n)
  where
    next : (n : ℕ) → suc n ≡ n + 1
    next n = omega arith

    go : (x : Option Occurrences) (n : ℕ) → Some (more (joined x (occurs n i)) (once i)) ≡ joined x (occurs (suc n) i)
    go None zero = refl
    go (Some s) zero = refl
    go None (suc n) =
        let count : suc n + 1 ≡ suc (suc n) = omega arith in
        λ j. Some (record { count = count j; first = min_same i j })
    go (Some s) (suc n) =
        let first : min (min s.first i) i ≡ min s.first i = omega arith in
        let count : (s.count + suc n) + 1 ≡ s.count + suc (suc n) = omega arith in
        λ j. Some (record { count = count j; first = first j })
