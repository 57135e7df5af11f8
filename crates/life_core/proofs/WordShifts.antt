-- The bits of a word shifted by one place, with a carry from the next or the previous word.
use Rattle.std.proofs.Common.{◌≡◌, ℕ, zero, suc, ◌+◌, ◌-◌, ◌*◌, ◌/◌, ◌%◌, ◌^◌, ◌<◌, ◌≤◌, max, List, get_or, ltb, lit<}
use Rattle.std.proofs.Common.{lit≤, cond, refl, sym, ap, ◌∙◌, add-zero, add-one, inl, inr, arith}
use Rattle.std.specs.Int.{bit_at}
use Rattle.std.proofs.lemmas.Nat.{field_of, shr_below, pow_pos}
use Rattle.std.proofs.lemmas.Bool.{cases_lt, lt-ltb, le-ltb}
use Rattle.std.proofs.lemmas.Bool.Decides.{nat_tests}
use Rattle.std.proofs.Math.Pow.{mod-mod-pow}
use Rattle.std.proofs.lemmas.Nat.Bits.{bit_at_lowest, bit_at-suc, bit_at-zero, bit_at_above, bit_at_cat_low}
use Rattle.std.proofs.lemmas.Nat.Bits.{bit_at_cat_high}
use Rattle.life_core.specs.PackedRow.{place, place_before}

-- the low bits are left by a mask
pub bit_at-mod : (n m i : ℕ) → i < m → bit_at (n % 2 ^ m) i ≡ bit_at n i
bit_at-mod n m i lt =
    let split : ((m - i - 1) + 1) + i ≡ m = omega arith in
    ap (λ k. bit_at (n % 2 ^ k) i) (sym split) ∙ ap (λ x. x % 2) (field_of n ((m - i - 1) + 1) i)
    ∙ mod-mod-pow (n / 2 ^ i) (m - i - 1) 1

-- a word shifted up by k places
pub bit_at_up_low : (n k i : ℕ) → i < k → k ≤ 64 → bit_at (n * 2 ^ k % 2 ^ 64) i ≡ 0
bit_at_up_low n k i lt le =
    bit_at-mod (n * 2 ^ k) 64 i (omega arith) ∙ ap (λ x. bit_at x i) (sym (add-zero (n * 2 ^ k)))
    ∙ bit_at_cat_low n k 0 i lt ∙ bit_at-zero i

pub bit_at_up_high : (n k i : ℕ) → k ≤ i → i < 64 → bit_at (n * 2 ^ k % 2 ^ 64) i ≡ bit_at n (i - k)
bit_at_up_high n k i le lt =
    bit_at-mod (n * 2 ^ k) 64 i lt ∙ ap (λ x. bit_at x i) (sym (add-zero (n * 2 ^ k)))
    ∙ bit_at_cat_high n k 0 i (pow_pos k) le

pub place_at : (ws : List ℕ) (j i : ℕ) → i < 64 → place ws (64 * j + i) ≡ bit_at (get_or ws j 0) i
place_at ws j i lt =
    let word : (64 * j + i) / 64 ≡ j = omega arith in
    let bit : (64 * j + i) % 64 ≡ i = omega arith in
    λ t. bit_at (get_or ws (word t) 0) (bit t)

-- `(w << 1) | (p >> 63)`
pub shifted_up : (w p i : ℕ) → p < 2 ^ 64 → i < 64
    → max (bit_at (w * 2 % 2 ^ 64) i) (bit_at (p / 2 ^ 63) i) ≡ cond (ltb 0 i) (bit_at w (i - 1)) (bit_at p 63)
shifted_up w p zero fits lt =
    let low : bit_at (w * 2 % 2 ^ 64) 0 ≡ 0 = bit_at_up_low w 1 0 (lit< tt) (lit≤ tt) in
    let carried : bit_at (p / 2 ^ 63) 0 ≡ bit_at p 63 = bit_at_lowest (p / 2 ^ 63) in
    omega (arith, low, carried)
shifted_up w p (suc i) fits lt =
    let high : p / 2 ^ 63 < 2 ^ 1 = shr_below p 1 63 fits in
    let none : bit_at (p / 2 ^ 63) (suc i) ≡ 0 = bit_at_above (p / 2 ^ 63) 1 (suc i) high (omega arith) in
    let whole : bit_at (w * 2 % 2 ^ 64) (suc i) ≡ bit_at w (suc i - 1) = bit_at_up_high w 1 (suc i) (omega arith) lt in
    grind (arith, nat_tests, none, whole)

next_bit : (w i : ℕ) → bit_at (w / 2) i ≡ bit_at w (i + 1)
next_bit w i = sym (bit_at-suc w i) ∙ ap (bit_at w) (sym (add-one i))

-- `(w >> 1) | (n << 63)`
pub shifted_down : (w n i : ℕ) → w < 2 ^ 64 → i < 64
    → max (bit_at (w / 2) i) (bit_at (n * 2 ^ 63 % 2 ^ 64) i) ≡ cond (ltb i 63) (bit_at w (i + 1)) (bit_at n 0)
shifted_down w n i fits lt = elim (cases_lt i 63) [
  | inl below ↦
      let low : bit_at (n * 2 ^ 63 % 2 ^ 64) i ≡ 0 = bit_at_up_low n 63 i below (lit≤ tt) in
      let own = next_bit w i in
      (λ t. max (own t) (low t)) ∙ (let zero : max (bit_at w (i + 1)) 0 ≡ bit_at w (i + 1) = omega arith in zero)
      ∙ ap (λ b. cond b (bit_at w (i + 1)) (bit_at n 0)) (sym (lt-ltb i 63 below))
  | inr last ↦
      let at : i ≡ 63 = omega arith in
      let half : w / 2 ^ 1 < 2 ^ 63 = shr_below w 63 1 fits in
      let low : bit_at (w / 2) i ≡ 0 = bit_at_above (w / 2) 63 i half last in
      let high : bit_at (n * 2 ^ 63 % 2 ^ 64) i ≡ bit_at n (i - 63) = bit_at_up_high n 63 i last lt in
      let first : i - 63 ≡ 0 = omega arith in
      (λ t. max (low t) (high t)) ∙ (let zero : max 0 (bit_at n (i - 63)) ≡ bit_at n (i - 63) = omega arith in zero)
      ∙ ap (bit_at n) first ∙ ap (λ b. cond b (bit_at w (i + 1)) (bit_at n 0)) (sym (le-ltb i 63 last))
]

-- the places left of those of a word
pub places_left : (ws : List ℕ) (j i : ℕ) → i < 64 → cond (ltb 0 i) (bit_at (get_or ws j 0) (i - 1))
    (bit_at (cond (ltb 0 j) (get_or ws (j - 1) 0) 0) 63) ≡ place_before ws (64 * j + i)
places_left ws j (suc i) lt =
    let before : 64 * j + suc i - 1 ≡ 64 * j + i = omega arith in
    let own : suc i - 1 ≡ i = omega arith in
    let positive : 0 < 64 * j + suc i = omega arith in
    ap (λ b. cond b (bit_at (get_or ws j 0) (suc i - 1)) (bit_at (cond (ltb 0 j) (get_or ws (j - 1) 0) 0) 63))
    (lt-ltb 0 (suc i) (omega arith))
    ∙ ap (bit_at (get_or ws j 0)) own ∙ sym (place_at ws j i (omega arith)) ∙ ap (place ws) (sym before)
    ∙ ap (λ b. cond b (place ws (64 * j + suc i - 1)) 0) (sym (lt-ltb 0 (64 * j + suc i) positive))
places_left ws zero zero lt = refl
places_left ws (suc j) zero lt =
    let word : suc j - 1 ≡ j = omega arith in
    let before : 64 * suc j + 0 - 1 ≡ 64 * j + 63 = omega arith in
    let positive : 0 < 64 * suc j + 0 = omega arith in
    ap (λ b. bit_at (cond b (get_or ws (suc j - 1) 0) 0) 63) (lt-ltb 0 (suc j) (omega arith))
    ∙ ap (λ k. bit_at (get_or ws k 0) 63) word ∙ sym (place_at ws j 63 (lit< tt)) ∙ ap (place ws) (sym before)
    ∙ ap (λ b. cond b (place ws (64 * suc j + 0 - 1)) 0) (sym (lt-ltb 0 (64 * suc j + 0) positive))

-- the places right of those of a word
pub places_right : (ws : List ℕ) (j i : ℕ) → i < 64
    → cond (ltb i 63) (bit_at (get_or ws j 0) (i + 1)) (bit_at (get_or ws (j + 1) 0) 0) ≡ place ws (64 * j + i + 1)
places_right ws j i lt = elim (cases_lt i 63) [
  | inl below ↦
      let inside : 64 * j + (i + 1) ≡ 64 * j + i + 1 = omega arith in
      ap (λ b. cond b (bit_at (get_or ws j 0) (i + 1)) (bit_at (get_or ws (j + 1) 0) 0)) (lt-ltb i 63 below)
      ∙ sym (place_at ws j (i + 1) (omega arith)) ∙ ap (place ws) inside
  | inr last ↦
      let outside : 64 * (j + 1) + 0 ≡ 64 * j + i + 1 = omega arith in
      ap (λ b. cond b (bit_at (get_or ws j 0) (i + 1)) (bit_at (get_or ws (j + 1) 0) 0)) (le-ltb i 63 last)
      ∙ sym (place_at ws (j + 1) 0 (lit< tt)) ∙ ap (place ws) outside
]
