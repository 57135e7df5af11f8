-- The route that a walk over sorted rows finds is the first that the path matches.
use Rattle.std.proofs.Common.{◌≡◌, ◌≢◌, ℕ, zero, suc, ◌-◌, ◌<◌, ◌≤◌, ◌==◌, ◌&&◌, ◌||◌, not, Bool, true, false, cond}
use Rattle.std.proofs.Common.{ltb, leb, List, [], ◌∷◌, length, drop, Option, None, Some, refl, sym, ◌∙◌, ap, true≢false}
use Rattle.std.proofs.Common.{nat_eq, arith}
use Rattle.std.proofs.lemmas.Bool.Decides.{nat_tests}
use Rattle.std.specs.List.{ends_with}
use Rattle.std.specs.Cmp.Lexicographic.{pointwise}
use Rattle.life_pages.specs.RequestPath.{from_slash}
use Rattle.matchit.specs.Rows.{RowsOf, comes_before}
use Rattle.matchit.specs.Seek.{segment, has_slash, cuts, own, step, or_else, longest_from, with_suffix, param_step}
use Rattle.matchit.specs.Seek.{seek}

-- the path matches these tokens: each byte itself, and a parameter one byte or more that are no slash
abbrev pub matched : List ℕ → List ℕ → Bool
matched [] [] = true
matched [] (b ∷ p) = false
matched (x ∷ t) [] = false
matched (x ∷ t) (b ∷ p) = cond (x == 256) (not (b == 47) && matched t (from_slash p)) (x == b && matched t p)

abbrev slash_or_end : List ℕ → Bool
slash_or_end [] = true
slash_or_end (x ∷ t) = x == 47

-- no token is a catch-all, and a parameter is followed by a slash or by nothing
abbrev good_tokens : List ℕ → Bool
good_tokens [] = true
good_tokens (x ∷ t) = leb x 256 && (cond (x == 256) (slash_or_end t) true && good_tokens t)

pub and_split : (a b : Bool) → (a && b) ≡ true → (a ≡ true) × (b ≡ true)
and_split true b e = (refl, e)
and_split false b e = absurd (true≢false (sym e))

pub same_nat : (x y : ℕ) → (x == y) ≡ true → x ≡ y
same_nat x y e = grind (arith, nat_tests, e)

other_nat : (x y : ℕ) → (x == y) ≡ false → x ≢ y
other_nat x y e = λ q. grind (arith, nat_tests, e, q)

self_nat : (x : ℕ) → (x == x) ≡ true
self_nat x = grind (arith, nat_tests)

distinct : (x y : ℕ) → x ≢ y → (x == y) ≡ false
distinct x y n = grind (arith, nat_tests, n)

below : (x : ℕ) → leb x 256 ≡ true → (x == 257) ≡ false
below x e = grind (arith, nat_tests, e)

-- ---- the path up to a slash

pub slash_front : (p : List ℕ) → has_slash p ≡ true → (q : List ℕ) × (from_slash p ≡ 47 ∷ q)
slash_front [] e = absurd (true≢false (sym e))
slash_front (b ∷ p) e = by (b == 47) refl (λ h. slash_front p h) e
  where
    by : (v : Bool) → (b == 47) ≡ v → (has_slash p ≡ true → (q : List ℕ) × (from_slash p ≡ 47 ∷ q))
        → cond v true (has_slash p) ≡ true
        → (q : List ℕ) × (cond v (b ∷ p) (from_slash p) ≡ 47 ∷ q)
    by true is ih e = (p, ap (λ (x : ℕ). x ∷ p) (same_nat b 47 is))
    by false is ih e = ih e

pub no_slash_front : (p : List ℕ) → has_slash p ≡ false → from_slash p ≡ []
no_slash_front [] e = refl
no_slash_front (b ∷ p) e = by (b == 47) (λ h. no_slash_front p h) e
  where
    by : (v : Bool) → (has_slash p ≡ false → from_slash p ≡ []) → cond v true (has_slash p) ≡ false
        → cond v (b ∷ p) (from_slash p) ≡ []
    by true ih e = absurd (true≢false e)
    by false ih e = ih e

no_slash_segment : (p : List ℕ) → has_slash p ≡ false → segment p ≡ p
no_slash_segment [] e = refl
no_slash_segment (b ∷ p) e = by (b == 47) (λ h. no_slash_segment p h) e
  where
    by : (v : Bool) → (has_slash p ≡ false → segment p ≡ p) → cond v true (has_slash p) ≡ false
        → cond v (b ∷ []) (b ∷ segment p) ≡ b ∷ p
    by true ih e = absurd (true≢false e)
    by false ih e = ap (λ (l : List ℕ). b ∷ l) (ih e)

shorter_front : (p : List ℕ) → length (from_slash p) ≤ length p
shorter_front [] = omega arith
shorter_front (b ∷ p) = by (b == 47) (shorter_front p)
  where
    by : (v : Bool) → length (from_slash p) ≤ length p → length (cond v (b ∷ p) (from_slash p)) ≤ length (b ∷ p)
    by true h = omega arith
    by false h = omega (arith, h)

some_segment : (p : List ℕ) → has_slash p ≡ true → 0 < length (segment p)
some_segment [] e = absurd (true≢false (sym e))
some_segment (b ∷ p) e = by (b == 47)
  where
    by : (v : Bool) → 0 < length (cond v (b ∷ []) (b ∷ segment p))
    by true = omega arith
    by false = omega arith

less_one : (n : ℕ) → suc n - 1 ≡ n
less_one n = omega arith

drop_one : (n b : ℕ) (p : List ℕ) → 0 < n → drop n (b ∷ p) ≡ drop (n - 1) p
drop_one zero b p some = absurd (omega arith)
drop_one (suc n) b p some = ap (λ k. drop k p) (sym (less_one n))

behind_one : (b : ℕ) (p l : List ℕ) → 0 < length l → drop (length (b ∷ l) - 1) (b ∷ p) ≡ drop (length l - 1) p
behind_one b p l some = ap (λ k. drop k (b ∷ p)) (less_one (length l)) ∙ drop_one (length l) b p some

drop_name : (p : List ℕ) → has_slash p ≡ true → drop (length (segment p) - 1) p ≡ from_slash p
drop_name [] e = absurd (true≢false (sym e))
drop_name (b ∷ p) e = by (b == 47) (λ h. drop_name p h) e
  where
    by : (v : Bool) → (has_slash p ≡ true → drop (length (segment p) - 1) p ≡ from_slash p)
        → cond v true (has_slash p) ≡ true
        → drop (length (cond v (b ∷ []) (b ∷ segment p)) - 1) (b ∷ p) ≡ cond v (b ∷ p) (from_slash p)
    by true ih e = refl
    by false ih e = behind_one b p (segment p) (some_segment p e) ∙ ih e

drop_all : (p : List ℕ) → drop (length p) p ≡ []
drop_all [] = refl
drop_all (b ∷ p) = drop_all p

-- the last of two or more is the last of all but the first
ends_later : (c d : ℕ) (p : List ℕ) → ends_with nat_eq (c ∷ d ∷ p) (47 ∷ []) ≡ ends_with nat_eq (d ∷ p) (47 ∷ [])
ends_later c d p = ap (λ (l : List ℕ). pointwise nat_eq (47 ∷ []) l) (behind_one c (d ∷ p) (d ∷ p) (omega arith))

ends_slash : (c : ℕ) (p : List ℕ) → has_slash p ≡ true → ends_with nat_eq (c ∷ segment p) (47 ∷ []) ≡ true
ends_slash c [] e = absurd (true≢false (sym e))
ends_slash c (d ∷ p) e = by (d == 47) refl (λ h. ends_slash d p h) e
  where
    by : (v : Bool) → (d == 47) ≡ v → (has_slash p ≡ true → ends_with nat_eq (d ∷ segment p) (47 ∷ []) ≡ true)
        → cond v true (has_slash p) ≡ true
        → ends_with nat_eq (c ∷ cond v (d ∷ []) (d ∷ segment p)) (47 ∷ []) ≡ true
    by true is ih e = rw (same_nat d 47 is) refl
    by false is ih e = ends_later c d (segment p) ∙ ih e

ends_other : (c : ℕ) (p : List ℕ) → (c == 47) ≡ false → has_slash p ≡ false → ends_with nat_eq (c ∷ p) (47 ∷ []) ≡ false
ends_other c [] n e = rw (distinct 47 c (λ q. other_nat c 47 n (sym q))) refl
ends_other c (d ∷ p) n e = by (d == 47) refl (λ is h. ends_other d p is h) e
  where
    by : (v : Bool) → (d == 47) ≡ v
        → ((d == 47) ≡ false → has_slash p ≡ false → ends_with nat_eq (d ∷ p) (47 ∷ []) ≡ false)
        → cond v true (has_slash p) ≡ false
        → ends_with nat_eq (c ∷ d ∷ p) (47 ∷ []) ≡ false
    by true is ih e = absurd (true≢false e)
    by false is ih e = ends_later c d p ∙ ih is e

cuts_slash : (b : ℕ) (p : List ℕ) → has_slash p ≡ true → cuts (b ∷ segment p) (47 ∷ []) ≡ true
cuts_slash b p e =
    let long : ltb 1 (length (b ∷ segment p)) ≡ true = let s = some_segment p e in grind (arith, nat_tests, s) in
    rw (long, ends_slash b p e) refl

cuts_other : (b : ℕ) (p : List ℕ) → (b == 47) ≡ false → has_slash p ≡ false → cuts (b ∷ p) (47 ∷ []) ≡ false
cuts_other b p n e = rw (ends_other b p n e) (and_none (ltb 1 (length (b ∷ p))))
  where
    and_none : (v : Bool) → (v && false) ≡ false
    and_none true = refl
    and_none false = refl

only_param : (x : ℕ) (t u : List ℕ) → leb x 256 ≡ true → comes_before (256 ∷ t) (x ∷ u) ≡ true → x ≡ 256
only_param x t u l c = by (ltb 256 x) refl (256 == x) refl c
  where
    by : (v : Bool) → ltb 256 x ≡ v → (w : Bool) → (256 == x) ≡ w → (v || (w && comes_before t u)) ≡ true → x ≡ 256
    by true e w f c = absurd (grind (arith, nat_tests, e, l))
    by false e true f c = sym (same_nat 256 x f)
    by false e false f c = absurd (true≢false (sym c))

module _ {K : Type 0} where
  abbrev pub first_of : RowsOf K → List ℕ → Option K
  first_of [] path = None
  first_of ((t, k) ∷ rs) path = cond (matched t path) (Some k) (first_of rs path)

  abbrev pub good_rows : RowsOf K → Bool
  good_rows [] = true
  good_rows ((t, k) ∷ rs) = good_tokens t && good_rows rs

  abbrev all_after : List ℕ → RowsOf K → Bool
  all_after t [] = true
  all_after t ((u, k) ∷ rs) = comes_before t u && all_after t rs

  abbrev pub sorted_rows : RowsOf K → Bool
  sorted_rows [] = true
  sorted_rows ((t, k) ∷ rs) = all_after t rs && sorted_rows rs

  -- each row continues with a slash or ends
  abbrev slashed_or_end : RowsOf K → Bool
  slashed_or_end [] = true
  slashed_or_end ((t, k) ∷ rs) = slash_or_end t && slashed_or_end rs

  -- ---- no rows

  param_none : (p : List ℕ) → (param_step {K = K} [] p).1 ≡ []
  unfolding param_step
  param_none p = elim (has_slash p) as (λ v. (cond {A = ℕ × RowsOf K} v (0, []) (length p, [])).1 ≡ []) [
    | true ↦ refl
    | false ↦ refl
  ]

  seek_none : (k : ℕ) (p : List ℕ) → seek {K = K} k [] p ≡ None
  unfolding seek
  seek_none k [] = refl
  seek_none (suc k) (b ∷ p) = seek_none k p
  seek_none zero (b ∷ p) =
      simp (seek_none 0 p, param_none (b ∷ p), seek_none (((param_step {K = K} [] (b ∷ p)).0) - 1) p)

  seek_later : (k : ℕ) (r : RowsOf K) (p : List ℕ) → seek k r p ≡ seek 0 r (drop k p)
  unfolding seek
  seek_later zero r p = refl
  seek_later (suc k) r [] = refl
  seek_later (suc k) r (b ∷ p) = seek_later k r p

  -- ---- a step keeps what is good and sorted

  step_good : (b : ℕ) (rs : RowsOf K) → good_rows rs ≡ true → good_rows (step b rs) ≡ true
  step_good b [] g = refl
  step_good b (([], k) ∷ rs) g = step_good b rs g
  step_good b ((x ∷ t, k) ∷ rs) g =
      let h = and_split (good_tokens (x ∷ t)) (good_rows rs) g in
      let i = and_split (leb x 256) _ h.0 in
      let j = and_split (cond (x == 256) (slash_or_end t) true) (good_tokens t) i.1 in
      elim (x == b) as (λ v. good_rows (cond v ((t, k) ∷ step b rs) (step b rs)) ≡ true) [
        | true ↦ rw j.1 (step_good b rs h.1)
        | false ↦ step_good b rs h.1
      ]

  step_after : (b : ℕ) (t : List ℕ) (rs : RowsOf K) → all_after (b ∷ t) rs ≡ true → all_after t (step b rs) ≡ true
  step_after b t [] a = refl
  step_after b t (([], k) ∷ rs) a = step_after b t rs a
  step_after b t ((x ∷ u, k) ∷ rs) a =
      let h = and_split (comes_before (b ∷ t) (x ∷ u)) (all_after (b ∷ t) rs) a in
      by (x == b) refl h.0 (step_after b t rs h.1)
    where
      by : (v : Bool) → (x == b) ≡ v → comes_before (b ∷ t) (x ∷ u) ≡ true → all_after t (step b rs) ≡ true
          → all_after t (cond v ((u, k) ∷ step b rs) (step b rs)) ≡ true
      by true e c more =
          let same : x ≡ b = same_nat x b e in
          let less : ltb b b ≡ false = grind (arith, nat_tests) in
          let c2 : (ltb b b || (b == b && comes_before t u)) ≡ true = rw same at c in
          let d : comes_before t u ≡ true = rw (less, self_nat b) at c2 in
          rw d more
      by false e c more = more

  step_sorted : (b : ℕ) (rs : RowsOf K) → sorted_rows rs ≡ true → sorted_rows (step b rs) ≡ true
  step_sorted b [] s = refl
  step_sorted b (([], k) ∷ rs) s = step_sorted b rs (and_split (all_after [] rs) (sorted_rows rs) s).1
  step_sorted b ((x ∷ t, k) ∷ rs) s =
      let h = and_split (all_after (x ∷ t) rs) (sorted_rows rs) s in
      by (x == b) refl h.0 (step_sorted b rs h.1)
    where
      by : (v : Bool) → (x == b) ≡ v → all_after (x ∷ t) rs ≡ true → sorted_rows (step b rs) ≡ true
          → sorted_rows (cond v ((t, k) ∷ step b rs) (step b rs)) ≡ true
      by true e a more = let same : x ≡ b = same_nat x b e in rw (step_after b t rs (rw same at a)) more
      by false e a more = more

  step_ends : (rs : RowsOf K) → good_rows rs ≡ true → slashed_or_end (step 256 rs) ≡ true
  step_ends [] g = refl
  step_ends (([], k) ∷ rs) g = step_ends rs g
  step_ends ((x ∷ t, k) ∷ rs) g =
      let h = and_split (good_tokens (x ∷ t)) (good_rows rs) g in
      let i = and_split (leb x 256) _ h.0 in
      let j = and_split (cond (x == 256) (slash_or_end t) true) (good_tokens t) i.1 in
      by (x == 256) j.0 (step_ends rs h.1)
    where
      by : (v : Bool) → cond v (slash_or_end t) true ≡ true → slashed_or_end (step 256 rs) ≡ true
          → slashed_or_end (cond v ((t, k) ∷ step 256 rs) (step 256 rs)) ≡ true
      by true e more = rw e more
      by false e more = more

  step_no_rest : (rs : RowsOf K) → good_rows rs ≡ true → step 257 rs ≡ []
  step_no_rest [] g = refl
  step_no_rest (([], k) ∷ rs) g = step_no_rest rs g
  step_no_rest ((x ∷ t, k) ∷ rs) g =
      let h = and_split (good_tokens (x ∷ t)) (good_rows rs) g in
      let i = and_split (leb x 256) _ h.0 in
      rw (below x i.0) (step_no_rest rs h.1)

  own_first : (rs : RowsOf K) → own rs ≡ first_of rs []
  own_first [] = refl
  own_first (([], k) ∷ rs) = refl
  own_first ((x ∷ t, k) ∷ rs) = own_first rs

  -- ---- the longest suffix

  abbrev has_slashed : RowsOf K → Bool
  has_slashed [] = false
  has_slashed (([], k) ∷ rs) = has_slashed rs
  has_slashed ((x ∷ t, k) ∷ rs) = true

  abbrev slashed : RowsOf K → RowsOf K
  slashed [] = []
  slashed (([], k) ∷ rs) = slashed rs
  slashed ((x ∷ t, k) ∷ rs) = (x ∷ t, k) ∷ slashed rs

  longest_kept : (seg : List ℕ) (rs : RowsOf K) → slashed_or_end rs ≡ true → longest_from seg (47 ∷ []) rs ≡ 47 ∷ []
  longest_kept seg [] e = refl
  longest_kept seg (([], k) ∷ rs) e = longest_kept seg rs e
  longest_kept seg ((x ∷ t, k) ∷ rs) e =
      let h = and_split (x == 47) (slashed_or_end rs) e in
      rw (same_nat x 47 h.0) (longest_kept seg rs h.1)

  longest_slash : (seg : List ℕ) (rs : RowsOf K) → cuts seg (47 ∷ []) ≡ true → slashed_or_end rs ≡ true
      → longest_from seg [] rs ≡ cond (has_slashed rs) (47 ∷ []) []
  longest_slash seg [] c e = refl
  longest_slash seg (([], k) ∷ rs) c e = longest_slash seg rs c e
  longest_slash seg ((x ∷ t, k) ∷ rs) c e =
      let h = and_split (x == 47) (slashed_or_end rs) e in
      rw (same_nat x 47 h.0) (rw c (longest_kept seg rs h.1))

  longest_end : (seg : List ℕ) (rs : RowsOf K) → cuts seg (47 ∷ []) ≡ false → slashed_or_end rs ≡ true
      → longest_from seg [] rs ≡ []
  longest_end seg [] c e = refl
  longest_end seg (([], k) ∷ rs) c e = longest_end seg rs c e
  longest_end seg ((x ∷ t, k) ∷ rs) c e =
      let h = and_split (x == 47) (slashed_or_end rs) e in
      rw (same_nat x 47 h.0) (rw c (longest_end seg rs c h.1))

  with_slash : (rs : RowsOf K) → slashed_or_end rs ≡ true → with_suffix (47 ∷ []) rs ≡ slashed rs
  with_slash [] e = refl
  with_slash (([], k) ∷ rs) e = with_slash rs e
  with_slash ((x ∷ t, k) ∷ rs) e =
      let h = and_split (x == 47) (slashed_or_end rs) e in
      rw (same_nat x 47 h.0) (ap (λ (l : RowsOf K). (47 ∷ t, k) ∷ l) (with_slash rs h.1))

  slashed_good : (rs : RowsOf K) → good_rows rs ≡ true → good_rows (slashed rs) ≡ true
  slashed_good [] g = refl
  slashed_good (([], k) ∷ rs) g = slashed_good rs g
  slashed_good ((x ∷ t, k) ∷ rs) g =
      let h = and_split (good_tokens (x ∷ t)) (good_rows rs) g in rw h.0 (slashed_good rs h.1)

  slashed_after : (u : List ℕ) (rs : RowsOf K) → all_after u rs ≡ true → all_after u (slashed rs) ≡ true
  slashed_after u [] a = refl
  slashed_after u (([], k) ∷ rs) a = slashed_after u rs (and_split (comes_before u []) (all_after u rs) a).1
  slashed_after u ((x ∷ t, k) ∷ rs) a =
      let h = and_split (comes_before u (x ∷ t)) (all_after u rs) a in rw h.0 (slashed_after u rs h.1)

  slashed_sorted : (rs : RowsOf K) → sorted_rows rs ≡ true → sorted_rows (slashed rs) ≡ true
  slashed_sorted [] s = refl
  slashed_sorted (([], k) ∷ rs) s = slashed_sorted rs (and_split (all_after [] rs) (sorted_rows rs) s).1
  slashed_sorted ((x ∷ t, k) ∷ rs) s =
      let h = and_split (all_after (x ∷ t) rs) (sorted_rows rs) s in
      rw (slashed_after (x ∷ t) rs h.0) (slashed_sorted rs h.1)

  first_slashed : (rs : RowsOf K) (q : List ℕ) → first_of (slashed rs) (47 ∷ q) ≡ first_of rs (47 ∷ q)
  first_slashed [] q = refl
  first_slashed (([], k) ∷ rs) q = first_slashed rs q
  first_slashed ((x ∷ t, k) ∷ rs) q =
      ap (λ (o : Option K). cond (matched (x ∷ t) (47 ∷ q)) (Some k) o) (first_slashed rs q)

  none_slashed : (rs : RowsOf K) (q : List ℕ) → has_slashed rs ≡ false → first_of rs (47 ∷ q) ≡ None
  none_slashed [] q e = refl
  none_slashed (([], k) ∷ rs) q e = none_slashed rs q e
  none_slashed ((x ∷ t, k) ∷ rs) q e = absurd (true≢false e)

  -- ---- a parameter

  param_goes : (P F : RowsOf K) (path p : List ℕ) (n : ℕ) → param_step P path ≡ (n, F)
      → seek ((param_step P path).0 - 1) (param_step P path).1 p ≡ seek 0 F (drop (n - 1) p)
  param_goes P F path p n e = ap (λ (a : ℕ × RowsOf K). seek (a.0 - 1) a.1 p) e ∙ seek_later (n - 1) F p

  param_at_slash : (P : RowsOf K) (p : List ℕ) → slashed_or_end P ≡ true → param_step P (47 ∷ p) ≡ (0, [])
  unfolding param_step
  param_at_slash P p e = let l : longest_from (47 ∷ []) [] P ≡ [] = longest_end (47 ∷ []) P refl e in rw l refl

  param_to_end : (P : RowsOf K) (b : ℕ) (p : List ℕ) → (b == 47) ≡ false → has_slash p ≡ false
      → slashed_or_end P ≡ true → param_step P (b ∷ p) ≡ (length (b ∷ p), P)
  unfolding param_step
  param_to_end P b p n lacks e =
      let l : longest_from (b ∷ p) [] P ≡ [] = longest_end (b ∷ p) P (cuts_other b p n lacks) e in
      rw (n, no_slash_segment p lacks, l, lacks) refl

  param_to_slash : (P : RowsOf K) (b : ℕ) (p : List ℕ) → (b == 47) ≡ false → has_slash p ≡ true
      → slashed_or_end P ≡ true → has_slashed P ≡ true
      → param_step P (b ∷ p) ≡ (length (b ∷ segment p) - 1, slashed P)
  unfolding param_step
  param_to_slash P b p n has e some =
      let l : longest_from (b ∷ segment p) [] P ≡ 47 ∷ [] =
      rw some at (longest_slash (b ∷ segment p) P (cuts_slash b p has) e) in
      rw (n, l, with_slash P e) refl

  param_no_slash : (P : RowsOf K) (b : ℕ) (p : List ℕ) → (b == 47) ≡ false → has_slash p ≡ true
      → slashed_or_end P ≡ true → has_slashed P ≡ false
      → param_step P (b ∷ p) ≡ (0, [])
  unfolding param_step
  param_no_slash P b p n has e none =
      let l : longest_from (b ∷ segment p) [] P ≡ [] =
      rw none at (longest_slash (b ∷ segment p) P (cuts_slash b p has) e) in
      rw (n, l, has) refl

  -- ---- what a parameter finds

  seek_end : (P : RowsOf K) → seek 0 P [] ≡ own P
  unfolding seek
  seek_end P = refl

  part_slash : (P : RowsOf K) (p : List ℕ) → slashed_or_end P ≡ true
      → seek ((param_step P (47 ∷ p)).0 - 1) (param_step P (47 ∷ p)).1 p ≡ None
  part_slash P p e = param_goes P [] (47 ∷ p) p 0 (param_at_slash P p e) ∙ seek_none 0 (drop (0 - 1) p)

  part_end : (P : RowsOf K) (b : ℕ) (p : List ℕ) → (b == 47) ≡ false → has_slash p ≡ false → slashed_or_end P ≡ true
      → seek ((param_step P (b ∷ p)).0 - 1) (param_step P (b ∷ p)).1 p ≡ first_of P (from_slash p)
  part_end P b p n lacks e =
      param_goes P P (b ∷ p) p (length (b ∷ p)) (param_to_end P b p n lacks e)
      ∙ ap (λ (q : List ℕ). seek 0 P q) (ap (λ k. drop k p) (less_one (length p)) ∙ drop_all p)
      ∙ seek_end P ∙ own_first P ∙ ap (λ (q : List ℕ). first_of P q) (sym (no_slash_front p lacks))

  part_none : (P : RowsOf K) (b : ℕ) (p : List ℕ) → (b == 47) ≡ false → has_slash p ≡ true
      → slashed_or_end P ≡ true → has_slashed P ≡ false
      → seek ((param_step P (b ∷ p)).0 - 1) (param_step P (b ∷ p)).1 p ≡ first_of P (from_slash p)
  part_none P b p n has e none =
      let f = slash_front p has in
      param_goes P [] (b ∷ p) p 0 (param_no_slash P b p n has e none) ∙ seek_none 0 (drop (0 - 1) p)
      ∙ sym (ap (λ (q : List ℕ). first_of P q) f.1 ∙ none_slashed P f.0 none)

  part_behind : (P : RowsOf K) (b : ℕ) (p : List ℕ) → (b == 47) ≡ false → has_slash p ≡ true
      → slashed_or_end P ≡ true → has_slashed P ≡ true
      → seek 0 (slashed P) (from_slash p) ≡ first_of (slashed P) (from_slash p)
      → seek ((param_step P (b ∷ p)).0 - 1) (param_step P (b ∷ p)).1 p ≡ first_of P (from_slash p)
  part_behind P b p n has e some ih =
      let f = slash_front p has in
      param_goes P (slashed P) (b ∷ p) p (length (b ∷ segment p) - 1) (param_to_slash P b p n has e some)
      ∙ ap (λ (q : List ℕ). seek 0 (slashed P) q)
      (ap (λ k. drop (k - 1) p) (less_one (length (segment p))) ∙ drop_name p has)
      ∙ ih ∙ ap (λ (q : List ℕ). first_of (slashed P) q) f.1 ∙ first_slashed P f.0
      ∙ ap (λ (q : List ℕ). first_of P q) (sym f.1)

  param_part : (P : RowsOf K) (b : ℕ) (p : List ℕ) → slashed_or_end P ≡ true
      → seek 0 (slashed P) (from_slash p) ≡ first_of (slashed P) (from_slash p)
      → seek ((param_step P (b ∷ p)).0 - 1) (param_step P (b ∷ p)).1 p ≡ cond (b == 47) None (first_of P (from_slash p))
  param_part P b p e ih = at (b == 47) refl
    where
      behind : (b == 47) ≡ false → (w : Bool) → has_slash p ≡ w → (u : Bool) → has_slashed P ≡ u
          → seek ((param_step P (b ∷ p)).0 - 1) (param_step P (b ∷ p)).1 p ≡ first_of P (from_slash p)
      behind n false lacks u is = part_end P b p n lacks e
      behind n true has true some = part_behind P b p n has e some ih
      behind n true has false none = part_none P b p n has e none

      at : (v : Bool) → (b == 47) ≡ v
          → seek ((param_step P (b ∷ p)).0 - 1) (param_step P (b ∷ p)).1 p ≡ cond v None (first_of P (from_slash p))
      at true is = rw (same_nat b 47 is) (part_slash P p e)
      at false n = behind n (has_slash p) refl (has_slashed P) refl

  -- ---- a byte and a parameter together

  step_past : (b : ℕ) (t : List ℕ) (rs : RowsOf K) → (b == 256) ≡ false → good_rows rs ≡ true
      → all_after (256 ∷ t) rs ≡ true → step b rs ≡ []
  step_past b t [] n g a = refl
  step_past b t (([], k) ∷ rs) n g a = step_past b t rs n g a
  step_past b t ((x ∷ u, k) ∷ rs) n g a =
      let h = and_split (good_tokens (x ∷ u)) (good_rows rs) g in
      let i = and_split (leb x 256) _ h.0 in
      let j = and_split (comes_before (256 ∷ t) (x ∷ u)) (all_after (256 ∷ t) rs) a in
      let same : x ≡ 256 = only_param x t u i.0 j.0 in
      let miss : (256 == b) ≡ false = distinct 256 b (λ q. other_nat b 256 n (sym q)) in
      rw (same, miss) (step_past b t rs n h.1 j.1)

  or_none : (w : Bool) → None ≡ or_else {K = K} None (cond w None None)
  or_none true = refl
  or_none false = refl

  by_param : (w m : Bool) (A B R : Option K) (k : K) → A ≡ None → R ≡ or_else A (cond w None B)
      → cond (not w && m) (Some k) R ≡ or_else A (cond w None (cond m (Some k) B))
  by_param true m A B R k none is = is
  by_param false true A B R k none is = rw none refl
  by_param false false A B R k none is = is

  by_byte : (m : Bool) (A C R : Option K) (k : K) → R ≡ or_else A C
      → cond (true && m) (Some k) R ≡ or_else (cond m (Some k) A) C
  by_byte true A C R k is = refl
  by_byte false A C R k is = is

  first_byte : (b : ℕ) (p : List ℕ) (rs : RowsOf K) → (b == 256) ≡ false → good_rows rs ≡ true → sorted_rows rs ≡ true
      → first_of rs (b ∷ p) ≡ or_else (first_of (step b rs) p)
      (cond (b == 47) None (first_of (step 256 rs) (from_slash p)))
  first_byte b p [] n g s = or_none (b == 47)
  first_byte b p (([], k) ∷ rs) n g s = first_byte b p rs n g (and_split (all_after [] rs) (sorted_rows rs) s).1
  first_byte b p ((x ∷ t, k) ∷ rs) n g s =
      let h = and_split (good_tokens (x ∷ t)) (good_rows rs) g in
      let i = and_split (all_after (x ∷ t) rs) (sorted_rows rs) s in
      at (x == 256) refl (x == b) refl h.1 i.0 (first_byte b p rs n h.1 i.1)
    where
      at : (v : Bool) → (x == 256) ≡ v → (w : Bool) → (x == b) ≡ w → good_rows rs ≡ true → all_after (x ∷ t) rs ≡ true
          → first_of rs (b ∷ p) ≡ or_else (first_of (step b rs) p)
          (cond (b == 47) None (first_of (step 256 rs) (from_slash p)))
          → cond (cond v (not (b == 47) && matched t (from_slash p)) (w && matched t p)) (Some k) (first_of rs (b ∷ p))
          ≡ or_else (first_of (cond w ((t, k) ∷ step b rs) (step b rs)) p)
          (cond (b == 47) None (first_of (cond v ((t, k) ∷ step 256 rs) (step 256 rs)) (from_slash p)))
      at true e true f g a ih =
          absurd (let one = same_nat x 256 e in let two = same_nat x b f in other_nat b 256 n (sym two ∙ one))
      at true e false f g a ih =
          let one = same_nat x 256 e in
          let past : step b rs ≡ [] = step_past b t rs n g (rw one at a) in
          by_param (b == 47) (matched t (from_slash p)) (first_of (step b rs) p) (first_of (step 256 rs) (from_slash p))
          (first_of rs (b ∷ p)) k (ap (λ (r : RowsOf K). first_of r p) past) ih
      at false e true f g a ih =
          by_byte (matched t p) (first_of (step b rs) p) (cond (b == 47) None (first_of (step 256 rs) (from_slash p)))
          (first_of rs (b ∷ p)) k ih
      at false e false f g a ih = ih

  first_param : (p : List ℕ) (rs : RowsOf K) → first_of rs (256 ∷ p) ≡ first_of (step 256 rs) (from_slash p)
  first_param p [] = refl
  first_param p (([], k) ∷ rs) = first_param p rs
  first_param p ((x ∷ t, k) ∷ rs) = at (x == 256) (first_param p rs)
    where
      at : (v : Bool) → first_of rs (256 ∷ p) ≡ first_of (step 256 rs) (from_slash p)
          → cond (cond v (not (256 == 47) && matched t (from_slash p)) (v && matched t p))
          (Some k) (first_of rs (256 ∷ p)) ≡ first_of (cond v ((t, k) ∷ step 256 rs) (step 256 rs)) (from_slash p)
      at true ih = ap (λ (o : Option K). cond (matched t (from_slash p)) (Some k) o) ih
      at false ih = ih

  other_none : (P : RowsOf K) (c : ℕ) (r : List ℕ) → (c == 47) ≡ false → slashed_or_end P ≡ true
      → first_of P (c ∷ r) ≡ None
  other_none [] c r n e = refl
  other_none (([], k) ∷ rs) c r n e = other_none rs c r n e
  other_none ((x ∷ t, k) ∷ rs) c r n e =
      let h = and_split (x == 47) (slashed_or_end rs) e in
      let miss : (47 == c) ≡ false = distinct 47 c (λ q. other_nat c 47 n (sym q)) in
      rw (same_nat x 47 h.0, miss) (other_none rs c r n h.1)

  or_same : (a : Option K) → or_else a a ≡ a
  or_same None = refl
  or_same (Some k) = refl

  first_both : (P : RowsOf K) (p : List ℕ) → slashed_or_end P ≡ true
      → or_else (first_of P p) (first_of P (from_slash p)) ≡ first_of P (from_slash p)
  first_both P [] e = or_same (first_of P [])
  first_both P (c ∷ r) e = at (c == 47) refl
    where
      at : (v : Bool) → (c == 47) ≡ v → or_else (first_of P (c ∷ r)) (first_of P (cond v (c ∷ r) (from_slash r)))
          ≡ first_of P (cond v (c ∷ r) (from_slash r))
      at true is = or_same (first_of P (c ∷ r))
      at false n = ap (λ (o : Option K). or_else o (first_of P (from_slash r))) (other_none P c r n e)

  -- ---- all

  seek_on : (rs : RowsOf K) (b : ℕ) (p : List ℕ) → seek 0 rs (b ∷ p)
      ≡ or_else (seek 0 (step b rs) p) (or_else
      (seek ((param_step (step 256 rs) (b ∷ p)).0 - 1) (param_step (step 256 rs) (b ∷ p)).1 p) (own (step 257 rs)))
  unfolding seek
  seek_on rs b p = refl

  or_nothing : (a : Option K) → or_else a None ≡ a
  or_nothing None = refl
  or_nothing (Some k) = refl

  all_three : (a x c y d : Option K) → a ≡ x → c ≡ y → d ≡ None → or_else a (or_else c d) ≡ or_else x y
  all_three a x c y d e f g =
      ap (λ (u : Option K). or_else u (or_else c d)) e ∙ ap (λ (u : Option K). or_else x (or_else u d)) f
      ∙ ap (λ (u : Option K). or_else x (or_else y u)) g
      ∙ ap (λ (u : Option K). or_else x u) (or_nothing y)

  found_by : (rs : RowsOf K) (b : ℕ) (p : List ℕ) → good_rows rs ≡ true → sorted_rows rs ≡ true
      → or_else (first_of (step b rs) p) (cond (b == 47) None (first_of (step 256 rs) (from_slash p)))
      ≡ first_of rs (b ∷ p)
  found_by rs b p g s = at (b == 256) refl
    where
      at : (v : Bool) → (b == 256) ≡ v → or_else (first_of (step b rs) p)
          (cond (b == 47) None (first_of (step 256 rs) (from_slash p))) ≡ first_of rs (b ∷ p)
      at false n = sym (first_byte b p rs n g s)
      at true is = rw (same_nat b 256 is) (first_both (step 256 rs) p (step_ends rs g) ∙ sym (first_param p rs))

  pub seek_is : (n : ℕ) (rs : RowsOf K) (path : List ℕ) → length path < n → good_rows rs ≡ true
      → sorted_rows rs ≡ true → seek 0 rs path ≡ first_of rs path
  seek_is zero rs path less g s = absurd (omega (arith, less))
  seek_is (suc n) rs [] less g s = seek_end rs ∙ own_first rs
  seek_is (suc n) rs (b ∷ p) less g s =
      let good = step_good 256 rs g in
      let sorted = step_sorted 256 rs s in
      let ends = step_ends rs g in
      let short = shorter_front p in
      seek_on rs b p
      ∙ all_three (seek 0 (step b rs) p) (first_of (step b rs) p)
      (seek ((param_step (step 256 rs) (b ∷ p)).0 - 1) (param_step (step 256 rs) (b ∷ p)).1 p)
      (cond (b == 47) None (first_of (step 256 rs) (from_slash p))) (own (step 257 rs))
      (seek_is n (step b rs) p (omega (arith, less)) (step_good b rs g) (step_sorted b rs s))
      (param_part (step 256 rs) b p ends (seek_is n (slashed (step 256 rs)) (from_slash p)
      (omega (arith, less, short)) (slashed_good (step 256 rs) good) (slashed_sorted (step 256 rs) sorted)))
      (ap (λ (r : RowsOf K). own r) (step_no_rest rs g))
      ∙ found_by rs b p g s
