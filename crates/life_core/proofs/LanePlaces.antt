-- The places of vectors of words after an operation on each lane.
use Rattle.std.proofs.Common.{◌≡◌, ◌⊎◌, ℕ, zero, suc, ◌+◌, ◌-◌, ◌*◌, ◌/◌, ◌%◌, ◌^◌, ◌<◌, ◌≤◌, max, min, List, length}
use Rattle.std.proofs.Common.{get_or, cond, ltb, bit_and, bit_or, bit_xor, lit<, refl, sym, ap, ◌∙◌, inl, inr, arith}
use Rattle.std.specs.Int.{bit_at}
use Rattle.std.specs.Simd.Lanes.{zip2, put_chunk}
use Rattle.std.specs.Prelude.{replicate}
use Rattle.std.proofs.lemmas.Bool.{cases_lt, lt-ltb}
use Rattle.std.proofs.lemmas.List.{get_or_past}
use Rattle.std.proofs.lemmas.Simd.{get_or-zip2, length-zip2, get_or-replicate, length-replicate, get_or-put_chunk_at}
use Rattle.std.proofs.lemmas.Simd.{get_or-put_chunk_below, get_or-put_chunk_above}
use Rattle.std.proofs.lemmas.Nat.Bits.{bit_at_and, bit_at_or, bit_at_xor, bit_at-lt}
use Rattle.life_core.specs.PackedRow.{place}
use Rattle.life_core.specs.PackedLanesState.{digits_at, sum_at}
use Rattle.life_core.proofs.WordShifts.{place_at, shifted_up, shifted_down, places_right}

pub zip_at : (f : ℕ → ℕ → ℕ) (xs ys : List ℕ) → f 0 0 ≡ 0 → length xs ≡ length ys → (j : ℕ)
    → get_or (zip2 f xs ys) j 0 ≡ f (get_or xs j 0) (get_or ys j 0)
zip_at f xs ys blank same j = elim (cases_lt j (length xs)) [
  | inl low ↦ get_or-zip2 f xs ys j 0 0 0 low (omega arith)
  | inr past ↦
      get_or_past (zip2 f xs ys) j 0 (omega (arith, length-zip2 f xs ys same)) ∙ sym blank
      ∙ (λ t. f (sym (get_or_past xs j 0 past) t) (sym (get_or_past ys j 0 (omega arith)) t))
]

pub place_xor : (xs ys : List ℕ) → length xs ≡ length ys → (p : ℕ)
    → place (zip2 bit_xor xs ys) p ≡ (place xs p + place ys p) % 2
place_xor xs ys same p =
    ap (λ w. bit_at w (p % 64)) (zip_at bit_xor xs ys refl same (p / 64))
    ∙ bit_at_xor (get_or xs (p / 64) 0) (get_or ys (p / 64) 0) (p % 64)

pub place_and : (xs ys : List ℕ) → length xs ≡ length ys → (p : ℕ)
    → place (zip2 bit_and xs ys) p ≡ min (place xs p) (place ys p)
place_and xs ys same p =
    ap (λ w. bit_at w (p % 64)) (zip_at bit_and xs ys refl same (p / 64))
    ∙ bit_at_and (get_or xs (p / 64) 0) (get_or ys (p / 64) 0) (p % 64)

pub place_or : (xs ys : List ℕ) → length xs ≡ length ys → (p : ℕ)
    → place (zip2 bit_or xs ys) p ≡ max (place xs p) (place ys p)
place_or xs ys same p =
    ap (λ w. bit_at w (p % 64)) (zip_at bit_or xs ys refl same (p / 64))
    ∙ bit_at_or (get_or xs (p / 64) 0) (get_or ys (p / 64) 0) (p % 64)

pub place-lt : (xs : List ℕ) (p : ℕ) → place xs p < 2
place-lt xs p = bit_at-lt (get_or xs (p / 64) 0) (p % 64)

-- a vector's lanes that are words of a row
pub lane_places : (xs ws : List ℕ) (k n : ℕ) → ((j : ℕ) → j < n → get_or xs j 0 ≡ get_or ws (k + j) 0)
    → (p : ℕ) → p < 64 * n → place xs p ≡ place ws (64 * k + p)
lane_places xs ws k n lanes p lt =
    let word : (64 * k + p) / 64 ≡ k + p / 64 = omega arith in
    let bit : (64 * k + p) % 64 ≡ p % 64 = omega arith in
    ap (λ w. bit_at w (p % 64)) (lanes (p / 64) (omega arith)) ∙ (λ t. bit_at (get_or ws (sym word t) 0) (sym bit t))

-- a lane that is word m, moved up by one place, with the last place of the word before it
pub place_up : (xs ys ws : List ℕ) (n m p : ℕ) → 1 ≤ m → length xs ≡ n → length ys ≡ n
    → ((i : ℕ) → get_or ws i 0 < 2 ^ 64) → p < 64 * n
    → get_or xs (p / 64) 0 ≡ get_or ws m 0 → get_or ys (p / 64) 0 ≡ get_or ws (m - 1) 0
    → place (zip2 bit_or (zip2 (λ x s. x * 2 ^ s % 2 ^ 64) xs (replicate n 1))
    (zip2 (λ x s. x / 2 ^ s) ys (replicate n 63))) p ≡ place ws (64 * m + p % 64 - 1)
place_up xs ys ws n m p first xn yn fits lt here before =
    let j = p / 64 in
    let i = p % 64 in
    let low : j < n = omega arith in
    let bit : i < 64 = omega arith in
    let ones : List ℕ = replicate n 1 in
    let rn : length ones ≡ n = length-replicate n 1 in
    let most : List ℕ = replicate n 63 in
    let qn : length most ≡ n = length-replicate n 63 in
    let ups : List ℕ = zip2 (λ x s. x * 2 ^ s % 2 ^ 64) xs ones in
    let downs : List ℕ = zip2 (λ x s. x / 2 ^ s) ys most in
    let un : length ups ≡ n = length-zip2 (λ x s. x * 2 ^ s % 2 ^ 64) xs ones (xn ∙ sym rn) ∙ xn in
    let dn : length downs ≡ n = length-zip2 (λ x s. x / 2 ^ s) ys most (yn ∙ sym qn) ∙ yn in
    let up : get_or ups j 0 ≡ get_or ws m 0 * 2 % 2 ^ 64 =
    get_or-zip2 (λ x s. x * 2 ^ s % 2 ^ 64) xs ones j 0 0 0 (omega (arith, xn, low)) (omega (arith, rn, low))
    ∙ (λ t. here t * 2 ^ get_or-replicate n j 1 0 low t % 2 ^ 64) in
    let down : get_or downs j 0 ≡ get_or ws (m - 1) 0 / 2 ^ 63 =
    get_or-zip2 (λ x s. x / 2 ^ s) ys most j 0 0 0 (omega (arith, yn, low)) (omega (arith, qn, low))
    ∙ (λ t. before t / 2 ^ get_or-replicate n j 63 0 low t) in
    place_or ups downs (un ∙ sym dn) p
    ∙ (λ t. max (bit_at (up t) i) (bit_at (down t) i))
    ∙ shifted_up (get_or ws m 0) (get_or ws (m - 1) 0) i (fits (m - 1)) bit
    ∙ moved m (m - 1) i (omega arith) bit
  where
    moved : (a b i : ℕ) → b + 1 ≡ a → i < 64
        → cond (ltb 0 i) (bit_at (get_or ws a 0) (i - 1)) (bit_at (get_or ws b 0) 63) ≡ place ws (64 * a + i - 1)
    moved a b zero next lt =
        sym (place_at ws b 63 (lit< tt)) ∙ (let at : 64 * b + 63 ≡ 64 * a + 0 - 1 = omega arith in ap (place ws) at)
    moved a b (suc i) next lt =
        let own : suc i - 1 ≡ i = omega arith in
        ap (λ c. cond c (bit_at (get_or ws a 0) (suc i - 1)) (bit_at (get_or ws b 0) 63))
        (lt-ltb 0 (suc i) (omega arith)) ∙ ap (bit_at (get_or ws a 0)) own ∙ sym (place_at ws a i (omega arith))
        ∙ (let at : 64 * a + i ≡ 64 * a + suc i - 1 = omega arith in ap (place ws) at)

-- the words from k on moved up by one place, with the last place of the words before them
pub places_up : (xs ys ws : List ℕ) (k n : ℕ) → 1 ≤ k → length xs ≡ n → length ys ≡ n
    → ((i : ℕ) → get_or ws i 0 < 2 ^ 64)
    → ((j : ℕ) → j < n → get_or xs j 0 ≡ get_or ws (k + j) 0)
    → ((j : ℕ) → j < n → get_or ys j 0 ≡ get_or ws (k - 1 + j) 0)
    → (p : ℕ) → p < 64 * n → place (zip2 bit_or (zip2 (λ x s. x * 2 ^ s % 2 ^ 64) xs (replicate n 1))
    (zip2 (λ x s. x / 2 ^ s) ys (replicate n 63))) p ≡ place ws (64 * k + p - 1)
places_up xs ys ws k n first xn yn fits here before p lt =
    let low : p / 64 < n = omega arith in
    let word : k - 1 + p / 64 ≡ k + p / 64 - 1 = omega arith in
    let at : 64 * (k + p / 64) + p % 64 - 1 ≡ 64 * k + p - 1 = omega arith in
    place_up xs ys ws n (k + p / 64) p (omega arith) xn yn fits lt (here (p / 64) low)
    (before (p / 64) low ∙ ap (λ m. get_or ws m 0) word) ∙ ap (place ws) at

-- a lane that is word m, moved down by one place, with the first place of the word after it
pub place_down : (xs ys ws : List ℕ) (n m p : ℕ) → length xs ≡ n → length ys ≡ n
    → ((i : ℕ) → get_or ws i 0 < 2 ^ 64) → p < 64 * n
    → get_or xs (p / 64) 0 ≡ get_or ws m 0 → get_or ys (p / 64) 0 ≡ get_or ws (m + 1) 0
    → place (zip2 bit_or (zip2 (λ x s. x / 2 ^ s) xs (replicate n 1))
    (zip2 (λ x s. x * 2 ^ s % 2 ^ 64) ys (replicate n 63))) p ≡ place ws (64 * m + p % 64 + 1)
place_down xs ys ws n m p xn yn fits lt here after =
    let j = p / 64 in
    let i = p % 64 in
    let low : j < n = omega arith in
    let bit : i < 64 = omega arith in
    let ones : List ℕ = replicate n 1 in
    let rn : length ones ≡ n = length-replicate n 1 in
    let most : List ℕ = replicate n 63 in
    let qn : length most ≡ n = length-replicate n 63 in
    let downs : List ℕ = zip2 (λ x s. x / 2 ^ s) xs ones in
    let ups : List ℕ = zip2 (λ x s. x * 2 ^ s % 2 ^ 64) ys most in
    let dn : length downs ≡ n = length-zip2 (λ x s. x / 2 ^ s) xs ones (xn ∙ sym rn) ∙ xn in
    let un : length ups ≡ n = length-zip2 (λ x s. x * 2 ^ s % 2 ^ 64) ys most (yn ∙ sym qn) ∙ yn in
    let down : get_or downs j 0 ≡ get_or ws m 0 / 2 =
    get_or-zip2 (λ x s. x / 2 ^ s) xs ones j 0 0 0 (omega (arith, xn, low)) (omega (arith, rn, low))
    ∙ (λ t. here t / 2 ^ get_or-replicate n j 1 0 low t) in
    let up : get_or ups j 0 ≡ get_or ws (m + 1) 0 * 2 ^ 63 % 2 ^ 64 =
    get_or-zip2 (λ x s. x * 2 ^ s % 2 ^ 64) ys most j 0 0 0 (omega (arith, yn, low)) (omega (arith, qn, low))
    ∙ (λ t. after t * 2 ^ get_or-replicate n j 63 0 low t % 2 ^ 64) in
    place_or downs ups (dn ∙ sym un) p
    ∙ (λ t. max (bit_at (down t) i) (bit_at (up t) i))
    ∙ shifted_down (get_or ws m 0) (get_or ws (m + 1) 0) i (fits m) bit
    ∙ places_right ws m i bit

-- the words from k on moved down by one place, with the first place of the words after them
pub places_down : (xs ys ws : List ℕ) (k n : ℕ) → length xs ≡ n → length ys ≡ n → ((i : ℕ) → get_or ws i 0 < 2 ^ 64)
    → ((j : ℕ) → j < n → get_or xs j 0 ≡ get_or ws (k + j) 0)
    → ((j : ℕ) → j < n → get_or ys j 0 ≡ get_or ws (k + 1 + j) 0)
    → (p : ℕ) → p < 64 * n → place (zip2 bit_or (zip2 (λ x s. x / 2 ^ s) xs (replicate n 1))
    (zip2 (λ x s. x * 2 ^ s % 2 ^ 64) ys (replicate n 63))) p ≡ place ws (64 * k + p + 1)
places_down xs ys ws k n xn yn fits here after p lt =
    let low : p / 64 < n = omega arith in
    let word : k + 1 + p / 64 ≡ k + p / 64 + 1 = omega arith in
    let at : 64 * (k + p / 64) + p % 64 + 1 ≡ 64 * k + p + 1 = omega arith in
    place_down xs ys ws n (k + p / 64) p xn yn fits lt (here (p / 64) low)
    (after (p / 64) low ∙ ap (λ m. get_or ws m 0) word) ∙ ap (place ws) at

-- the places of words that were stored at k
pub place_put : (xs ys : List ℕ) (k p : ℕ) → p < 64 * length ys → k + length ys ≤ length xs
    → place (put_chunk k xs ys) (64 * k + p) ≡ place ys p
place_put xs ys k p lt room =
    let word : (64 * k + p) / 64 ≡ k + p / 64 = omega arith in
    let bit : (64 * k + p) % 64 ≡ p % 64 = omega arith in
    (λ t. bit_at (get_or (put_chunk k xs ys) (word t) 0) (bit t))
    ∙ ap (λ w. bit_at w (p % 64)) (get_or-put_chunk_at k xs ys (p / 64) 0 (omega arith) room)

pub word_put : (xs ys : List ℕ) (k j : ℕ) → (j < k) ⊎ (k + length ys ≤ j)
    → get_or (put_chunk k xs ys) j 0 ≡ get_or xs j 0
word_put xs ys k j (inl low) = get_or-put_chunk_below k xs ys j 0 low
word_put xs ys k j (inr high) = get_or-put_chunk_above k xs ys j 0 high

pub place_word : (ws vs : List ℕ) (q : ℕ) → get_or ws (q / 64) 0 ≡ get_or vs (q / 64) 0 → place ws q ≡ place vs q
place_word ws vs q same = ap (λ w. bit_at w (q % 64)) same

-- at most eight of the cells round one are live
pub few_live : (above above2 sides sides2 below below2 : List ℕ) (p : ℕ) (rows : List ℕ) (a h b : ℕ)
    → digits_at above above2 p ≡ place rows (a - 1) + (place rows a + place rows (a + 1))
    → digits_at sides sides2 p ≡ place rows (h - 1) + place rows (h + 1)
    → digits_at below below2 p ≡ place rows (b - 1) + (place rows b + place rows (b + 1))
    → sum_at above above2 sides sides2 below below2 p < 9
few_live above above2 sides sides2 below below2 p rows a h b up beside down =
    omega (
      arith,
      up,
      beside,
      down,
      place-lt rows (a - 1),
      place-lt rows a,
      place-lt rows (a + 1),
      place-lt rows (h - 1),
      place-lt rows (h + 1),
      place-lt rows (b - 1),
      place-lt rows b,
      place-lt rows (b + 1),
    )
