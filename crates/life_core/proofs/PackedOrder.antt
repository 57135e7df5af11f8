-- The cells of rows of packed words are in order.
use Rattle.std.proofs.Common.{◌≡◌, ℕ, ℤ, pos, zero, suc, ◌+◌, ◌*◌, ◌/◌, ◌%◌, ◌<◌, ◌≤◌, ◌+ℤ◌, Bool, true, false, cond}
use Rattle.std.proofs.Common.{◌∷◌, map, sym, ap, ◌∙◌, inl, inr, arith}
use Rattle.std.specs.declared.cmp.Ordering.TheVariants.{Less, Equal}
use Rattle.std.specs.Ordering.{int_cmp, ordering_then}
use Rattle.std.specs.Cmp.{int_cmp_is}
use Rattle.std.specs.List.{filter, range_with_len, AllByRecursion}
use Rattle.std.specs.List.Sorted.{IsStrictlySortedBy}
use Rattle.std.proofs.lemmas.Int.{ints}
use Rattle.std.proofs.lemmas.Bool.{cases_lt}
use Rattle.std.proofs.lemmas.Nat.{mul-le}
use Rattle.life_core.specs.Cell.{cell_cmp}
use Rattle.life_core.specs.PackedFrameState.{cell_of}

quotients : (W p q : ℕ) → 0 < W → p ≤ q → p / W ≤ q / W
quotients W p q some le = elim (cases_lt (q / W) (p / W)) [
  | inl less ↦
      let next : q / W + 1 ≤ p / W = omega arith in
      let q_is : q / W * W + q % W ≡ q = omega arith in
      let p_is : p / W * W + p % W ≡ p = omega arith in
      let narrow : q % W < W = omega arith in
      absurd (omega (arith, mul-le (q / W + 1) W (p / W) W next (omega arith), q_is, p_is, narrow, le))
  | inr more ↦ more
]

-- a later place is a later cell
cell_ascends : (left top : ℤ) (W p q : ℕ) → 0 < W → p < q
    → cell_cmp (cell_of left top W p) (cell_of left top W q) ≡ Less
cell_ascends left top W p q some lt = elim (cases_lt (p / W) (q / W)) [
  | inl above ↦
      ap (λ o. ordering_then o (int_cmp (left +ℤ pos (p % W)) (left +ℤ pos (q % W))))
      (sym (int_cmp_is (top +ℤ pos (p / W)) (top +ℤ pos (q / W)) Less (omega (arith, ints, above))))
  | inr past ↦
      let up = quotients W p q some (omega arith) in
      let same : p / W ≡ q / W = omega (arith, up, past) in
      let lines : p / W * W ≡ q / W * W = ap (λ n. n * W) same in
      let p_is : p / W * W + p % W ≡ p = omega arith in
      let q_is : q / W * W + q % W ≡ q = omega arith in
      let left_of : p % W < q % W = omega (arith, lines, p_is, q_is, lt) in
      ap (λ o. ordering_then o (int_cmp (left +ℤ pos (p % W)) (left +ℤ pos (q % W))))
      (sym (int_cmp_is (top +ℤ pos (p / W)) (top +ℤ pos (q / W)) Equal (omega (arith, ints, same))))
      ∙ sym (int_cmp_is (left +ℤ pos (p % W)) (left +ℤ pos (q % W)) Less (omega (arith, ints, left_of)))
]

module _ (left top : ℤ) (W : ℕ) (Q : ℕ → Bool) (some : 0 < W) where
  later : (p a n : ℕ) → p < a → AllByRecursion (λ c. cell_cmp (cell_of left top W p) c ≡ Less)
      (map (cell_of left top W) (filter Q (range_with_len a n)))
  later p a zero lt = tt
  later p a (suc n) lt =
      elim (Q a) as (λ b. AllByRecursion (λ c. cell_cmp (cell_of left top W p) c ≡ Less) (map (cell_of left top W)
      (cond b (a ∷ filter Q (range_with_len (a + 1) n)) (filter Q (range_with_len (a + 1) n))))) [
        | true ↦ (cell_ascends left top W p a some lt, later p (a + 1) n (omega arith))
        | false ↦ later p (a + 1) n (omega arith)
      ]

  -- the cells of places in order are in order
  pub cells_ascend : (a n : ℕ) → IsStrictlySortedBy cell_cmp (map (cell_of left top W) (filter Q (range_with_len a n)))
  unfolding IsStrictlySortedBy
  cells_ascend a zero = tt
  cells_ascend a (suc n) =
      elim (Q a) as (λ b. IsStrictlySortedBy cell_cmp (map (cell_of left top W)
      (cond b (a ∷ filter Q (range_with_len (a + 1) n)) (filter Q (range_with_len (a + 1) n))))) [
        | true ↦ (later a (a + 1) n (omega arith), cells_ascend (a + 1) n)
        | false ↦ cells_ascend (a + 1) n
      ]
