-- The count of an item so far.
use Rattle.std.proofs.Common.{◌≡◌, ℕ, ◌+◌, ◌-◌, ◌*◌, ◌<◌, ◌≤◌, Bool, true, false, not, ◌||◌, ◌&&◌, List, [], ◌∷◌, ◌++◌}
use Rattle.std.proofs.Common.{refl, ap, ◌∙◌, sym, arith, Option, Some, None, ltb, leb, eqb, min, unwrap_or, inl, inr}
use Rattle.std.specs.Char.{is_ascii_digit, digit_value}
use Rattle.std.specs.Str.Parse.{digits_value}
use Rattle.std.proofs.lemmas.Int.Digits.{digits_value_push}
use Rattle.std.proofs.lemmas.Bool.{false≢true, and_parts, leb-true, lt-ltb, le-ltb, cond-true, cond-false, cases_lt}
use Rattle.std.proofs.lemmas.Bool.{eqb-false, ne_eqb, ltb-false}
use Rattle.life_rle.specs.Body.{is_empty, count_of, is_bad_number}
use Rattle.life_rle.specs.BodyState.{next_count, is_bad_count}

pub or_second : (x y : Bool) → (x || y) ≡ false → y ≡ false
or_second true y h = absurd (false≢true (sym h))
or_second false y h = h

pub digit_value_is : (b : ℕ) → is_ascii_digit b ≡ true → digit_value b ≡ b - 48
digit_value_is b h =
    let both = and_parts (leb 48 b) (leb b 57) h in
    let low : 48 ≤ b = leb-true 48 b both.0 in
    let high : b ≤ 57 = leb-true b 57 both.1 in
    cond-false (ltb b 48) _ _ (le-ltb b 48 low) ∙ cond-true (ltb b 58) _ _ (lt-ltb b 58 (omega arith))

abbrev pub so_far : List ℕ → Option ℕ
so_far [] = None
so_far (d ∷ ds) = Some (min (digits_value 10 (d ∷ ds)) 1000001)

pub capped : (v d : ℕ) → min (min v 1000001 * 10 + d) 1000001 ≡ min (v * 10 + d) 1000001
capped v d = omega arith

pub so_far_push : (digits : List ℕ) (b : ℕ) → is_ascii_digit b ≡ true
    → Some (next_count (so_far digits) b) ≡ so_far (digits ++ b ∷ [])
so_far_push [] b h = ap (λ d. Some (min (0 * 10 + d) 1000001)) (sym (digit_value_is b h))
so_far_push (d ∷ ds) b h =
    ap Some (capped (digits_value 10 (d ∷ ds)) (b - 48)
    ∙ ap (λ n. min n 1000001) (ap (λ x. digits_value 10 (d ∷ ds) * 10 + x) (sym (digit_value_is b h))
    ∙ sym (digits_value_push 10 (d ∷ ds) b)))

pub bad_capped : (v : ℕ) → is_bad_number (min v 1000001) ≡ is_bad_number v
bad_capped v = elim (cases_lt v 1000002) [
  | inl below ↦ ap is_bad_number (let e : min v 1000001 ≡ v = omega arith in e)
  | inr above ↦
      ap is_bad_number (let e : min v 1000001 ≡ 1000001 = omega arith in e)
      ∙ sym (ap (λ t. t || ltb 1000000 v) (ne_eqb v 0 (λ e. omega arith)) ∙ lt-ltb 1000000 v (omega arith))
]

-- whether the count so far is wrong
pub bad_so_far : (digits : List ℕ)
    → is_bad_count (so_far digits) ≡ (not (is_empty digits) && is_bad_number (count_of digits))
bad_so_far [] = refl
bad_so_far (d ∷ ds) = bad_capped (digits_value 10 (d ∷ ds))

-- a count that is not wrong is the item's
pub count_so_far : (digits : List ℕ) → is_bad_count (so_far digits) ≡ false
    → unwrap_or (so_far digits) 1 ≡ count_of digits
count_so_far [] h = refl
count_so_far (d ∷ ds) h =
    let v : ℕ = digits_value 10 (d ∷ ds) in
    let most : min v 1000001 ≤ 1000000 = ltb-false 1000000 (min v 1000001) (or_second (eqb (min v 1000001) 0) _ h) in
    let same : min v 1000001 ≡ v = omega arith in
    same

or_first : (x y : Bool) → (x || y) ≡ false → x ≡ false
or_first true y h = h
or_first false y h = refl

-- and is above 0
pub count_above : (digits : List ℕ) → is_bad_count (so_far digits) ≡ false → 0 < count_of digits
count_above [] h = omega arith
count_above (d ∷ ds) h =
    let v : ℕ = digits_value 10 (d ∷ ds) in
    let some : min v 1000001 ≡ 0 → ⊥ = eqb-false (min v 1000001) 0 (or_first _ (ltb 1000000 (min v 1000001)) h) in
    elim (cases_lt 0 v) [ inl above ↦ above | inr none ↦ absurd (some (omega arith)) ]
