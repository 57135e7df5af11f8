-- Four words of a row at a time, with dead places outside the row.
use Rattle.std.proofs.Common.{◌≡◌, ℕ, zero, suc, ◌+◌, ◌-◌, ◌*◌, ◌/◌, ◌%◌, ◌^◌, ◌<◌, nat_eq, max, List, length, get_or}
use Rattle.std.proofs.Common.{Bool, true, false, cond, ltb, bit_or, sym, ap, ◌∙◌, inl, inr, arith}
use Rattle.std.specs.Int.{bit_at}
use Rattle.std.specs.Simd.Lanes.{zip2}
use Rattle.std.specs.Prelude.{replicate}
use Rattle.std.proofs.lemmas.Bool.{cases_lt, lt-ltb}
use Rattle.std.proofs.lemmas.Simd.{get_or-zip2, length-zip2, get_or-replicate, length-replicate}
use Rattle.life_core.specs.PackedRow.{place, place_before, next_place, one_if, round_count}
use Rattle.life_core.specs.PackedLanesState.{sum_at}
use Rattle.life_core.specs.PackedRowState.{AreStepped, AreGroupSums}
use Rattle.life_core.specs.Rule.{RuleSets, lives_at}
use Rattle.life_core.specs.declared.packed.row_kernel.WideSums.{WideSums}
use Rattle.life_core.proofs.WordShifts.{shifted_up, places_left}
use Rattle.life_core.proofs.LanePlaces.{place_or, place-lt}

-- a vector of one word
pub one_lane : (xs : List ℕ) (w i : ℕ) → get_or xs 0 0 ≡ w → i < 64 → place xs i ≡ bit_at w i
one_lane xs w i is lt =
    let word : i / 64 ≡ 0 = omega arith in
    let bit : i % 64 ≡ i = omega arith in
    (λ t. bit_at (get_or xs (word t) 0) (bit t)) ∙ ap (λ x. bit_at x i) is

-- the words from k on moved up by one place, with the last place of the words before them
pub places_before : (xs ys ws : List ℕ) (k n : ℕ) → length xs ≡ n → length ys ≡ n → ((i : ℕ) → get_or ws i 0 < 2 ^ 64)
    → ((j : ℕ) → j < n → get_or xs j 0 ≡ get_or ws (k + j) 0)
    → ((j : ℕ) → j < n → get_or ys j 0 ≡ cond (ltb 0 (k + j)) (get_or ws (k + j - 1) 0) 0)
    → (p : ℕ) → p < 64 * n → place (zip2 bit_or (zip2 (λ x s. x * 2 ^ s % 2 ^ 64) xs (replicate n 1))
    (zip2 (λ x s. x / 2 ^ s) ys (replicate n 63))) p ≡ place_before ws (64 * k + p)
places_before xs ys ws k n xn yn fits here before p lt =
    let j = p / 64 in
    let i = p % 64 in
    let low : j < n = omega arith in
    let bit : i < 64 = omega arith in
    let ones : List ℕ = replicate n 1 in
    let rn : length ones ≡ n = length-replicate n 1 in
    let most : List ℕ = replicate n 63 in
    let qn : length most ≡ n = length-replicate n 63 in
    let ups : List ℕ = zip2 (λ x s. x * 2 ^ s % 2 ^ 64) xs ones in
    let downs : List ℕ = zip2 (λ x s. x / 2 ^ s) ys most in
    let un : length ups ≡ n = length-zip2 (λ x s. x * 2 ^ s % 2 ^ 64) xs ones (xn ∙ sym rn) ∙ xn in
    let dn : length downs ≡ n = length-zip2 (λ x s. x / 2 ^ s) ys most (yn ∙ sym qn) ∙ yn in
    let up : get_or ups j 0 ≡ get_or ws (k + j) 0 * 2 % 2 ^ 64 =
    get_or-zip2 (λ x s. x * 2 ^ s % 2 ^ 64) xs ones j 0 0 0 (omega (arith, xn, low)) (omega (arith, rn, low))
    ∙ (λ t. here j low t * 2 ^ get_or-replicate n j 1 0 low t % 2 ^ 64) in
    let down : get_or downs j 0 ≡ get_or ys j 0 / 2 ^ 63 =
    get_or-zip2 (λ x s. x / 2 ^ s) ys most j 0 0 0 (omega (arith, yn, low)) (omega (arith, qn, low))
    ∙ (λ t. get_or ys j 0 / 2 ^ get_or-replicate n j 63 0 low t) in
    let small : get_or ys j 0 < 2 ^ 64 = below (k + j) (get_or ys j 0) (before j low) in
    place_or ups downs (un ∙ sym dn) p
    ∙ (λ t. max (bit_at (up t) i) (bit_at (down t) i))
    ∙ shifted_up (get_or ws (k + j) 0) (get_or ys j 0) i small bit
    ∙ (λ t. cond (ltb 0 i) (bit_at (get_or ws (k + j) 0) (i - 1)) (bit_at (before j low t) 63))
    ∙ places_left ws (k + j) i bit
    ∙ (let at : 64 * (k + j) + i ≡ 64 * k + p = omega arith in ap (place_before ws) at)
  where
    below : (m y : ℕ) → y ≡ cond (ltb 0 m) (get_or ws (m - 1) 0) 0 → y < 2 ^ 64
    below zero y is = omega (arith, is)
    below (suc m) y is =
        let own : y ≡ get_or ws (suc m - 1) 0 = is
        ∙ ap (λ b. cond b (get_or ws (suc m - 1) 0) 0) (lt-ltb 0 (suc m) (omega arith)) in
        omega (arith, own, fits (suc m - 1))

pub before-lt : (ws : List ℕ) (q : ℕ) → place_before ws q < 2
before-lt ws q = bit-or-none (ltb 0 q) (place ws (q - 1)) (place-lt ws (q - 1))
  where
    bit-or-none : (b : Bool) (x : ℕ) → x < 2 → cond b x 0 < 2
    bit-or-none true x lt = lt
    bit-or-none false x lt = omega arith

-- at most eight of the places round one are live
pub round_few : (above here below : List ℕ) (q : ℕ) → round_count above here below q < 9
round_few above here below q =
    omega (
      arith,
      before-lt above q,
      place-lt above q,
      place-lt above (q + 1),
      before-lt here q,
      place-lt here (q + 1),
      before-lt below q,
      place-lt below q,
      place-lt below (q + 1),
    )

-- a place of four words that were written by the sums of their rows is live next
pub group_place : (r : RuleSets) (above here below new : List ℕ) (k p : ℕ) (a h b : WideSums)
    → AreGroupSums above k a → AreGroupSums here k h → AreGroupSums below k b → p < 256
    → (sum_at a.all a.all2 h.sides h.sides2 b.all b.all2 p < 9 → place new (64 * k + p)
    ≡ one_if (lives_at r (nat_eq (place h.here p) 1) (sum_at a.all a.all2 h.sides h.sides2 b.all b.all2 p)))
    → place new (64 * k + p) ≡ next_place r above here below (64 * k + p)
group_place r above here below new k p a h b up mid down lt next =
    let q = 64 * k + p in
    let count : sum_at a.all a.all2 h.sides h.sides2 b.all b.all2 p ≡ round_count above here below q =
    omega (arith, up.all p lt, mid.sides p lt, down.all p lt) in
    let few : sum_at a.all a.all2 h.sides h.sides2 b.all b.all2 p < 9 =
    omega (arith, count, round_few above here below q) in
    next few ∙ (λ t. one_if (lives_at r (nat_eq (mid.here p lt t) 1) (count t)))

-- the whole groups of four words, and then the words that are left, are the whole row
pub stepped_whole : (N : ℕ → ℕ) (old mid new : List ℕ) → AreStepped N 0 (4 * (length old / 4)) old mid
    → AreStepped N (4 * (length mid / 4)) (length mid) mid new → (p : ℕ) → p < 64 * length new → place new p ≡ N p
stepped_whole N old mid new groups rest p lt = elim (cases_lt p (64 * (4 * (length mid / 4)))) [
  | inl earlier ↦
      ap (λ x. bit_at x (p % 64)) (rest.before (p / 64) (omega arith))
      ∙ groups.inside p (omega arith) (omega (arith, earlier, ap (λ (n : ℕ). n / 4) groups.long))
  | inr later ↦ rest.inside p later (omega (arith, lt, rest.long))
]
