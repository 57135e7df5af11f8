-- Blocks that are written row by row.
use Rattle.std.proofs.Common.{◌≡◌, ◌⊎◌, ℕ, ◌+◌, ◌-◌, ◌*◌, ◌/◌, ◌<◌, ◌≤◌, max, nat_eq, List, length, get_or, bit_or}
use Rattle.std.proofs.Common.{sym, ap, ◌∙◌, inl, inr, arith}
use Rattle.std.specs.Simd.Lanes.{zip2}
use Rattle.std.proofs.lemmas.Bool.{cases_lt}
use Rattle.std.proofs.lemmas.Nat.{mul-le}
use Rattle.life_core.specs.PackedRow.{place, one_if}
use Rattle.life_core.specs.Rule.{RuleSets, lives_at}
use Rattle.life_core.specs.PackedLanesState.{digits_at, sum_at}
use Rattle.life_core.specs.PackedBlocksState.{flat_next, AreSumsAt, IsOutside, IsRowStep, IsBlockStep}
use Rattle.life_core.specs.declared.packed.row_kernel.WideSums.{WideSums}
use Rattle.life_core.proofs.LanePlaces.{place_or, place_word, few_live}

-- rows of a block stand apart
apart : (i n words : ℕ) → i < n → i * words + words ≤ n * words
apart i n words lt = omega (arith, mul-le (i + 1) words n words (omega arith) (omega arith))

-- what stands beside one row more stays
pub rest_more : (width : ℕ) (at words n k : ℕ) (old mid new : List ℕ) → k ≡ at + n * words
    → ((j : ℕ) → IsOutside width at words n j → get_or mid j 0 ≡ get_or old j 0)
    → ((j : ℕ) → (j < k) ⊎ (k + width ≤ j) → get_or new j 0 ≡ get_or mid j 0)
    → (j : ℕ) → IsOutside width at words (n + 1) j → get_or new j 0 ≡ get_or old j 0
rest_more width at words n k old mid new is done row j outside =
    row j (aside (outside n (omega arith))) ∙ done j (λ i lt. outside i (omega arith))
  where
    aside : (j < at + n * words) ⊎ (at + n * words + width ≤ j) → (j < k) ⊎ (k + width ≤ j)
    aside (inl low) = inl (omega (arith, is, low))
    aside (inr high) = inr (omega (arith, is, high))

-- what stands beside the first row stays
pub rest_first : (width : ℕ) (at words : ℕ) (old new : List ℕ)
    → ((j : ℕ) → (j < at) ⊎ (at + width ≤ j) → get_or new j 0 ≡ get_or old j 0) → (j : ℕ) → IsOutside width at words 1 j
    → get_or new j 0 ≡ get_or old j 0
rest_first width at words old new row j outside = row j (aside (outside 0 (omega arith)))
  where
    aside : (j < at + 0 * words) ⊎ (at + 0 * words + width ≤ j) → (j < at) ⊎ (at + width ≤ j)
    aside (inl low) = inl (omega (arith, low))
    aside (inr high) = inr (omega (arith, high))

-- one more row is written
pub block_more : (width : ℕ) (N : ℕ → ℕ) (at words n k : ℕ) (old mid new all changed : List ℕ)
    → width ≤ words → k ≡ at + n * words → length all ≡ length changed
    → IsBlockStep width N at words n old mid all → IsRowStep width N k mid new changed
    → IsBlockStep width N at words (n + 1) old new (zip2 bit_or all changed)
block_more width N at words n k old mid new all changed wide is size done row = record {
  long = row.long ∙ done.long;
  next = λ i p lt narrow. elim (cases_lt i n) [
    | inl before ↦ kept i p before narrow ∙ done.next i p before narrow
    | inr last ↦ let e = here i p lt last in ap (place new) (sym e) ∙ row.next p narrow ∙ ap N e
  ];
  rest = rest_more width at words n k old mid new is done.rest row.rest;
  same = λ i p lt narrow blank.
      let both : max (place all p) (place changed p) ≡ 0 = sym (place_or all changed size p) ∙ blank in
      elim (cases_lt i n) [
        | inl before ↦ kept i p before narrow ∙ done.same i p before narrow (omega (arith, both))
        | inr last ↦
            let e = here i p lt last in
            ap (place new) (sym e) ∙ row.same p narrow (omega (arith, both)) ∙ ap (place mid) e
            ∙ place_word mid old (64 * (at + i * words) + p) (done.rest ((64 * (at + i * words) + p) / 64)
            (λ m below. let far = apart m i words (omega arith) in inr (omega (arith, far, wide))))
      ];
}
  where
    here : (i p : ℕ) → i < n + 1 → n ≤ i → 64 * k + p ≡ 64 * (at + i * words) + p
    here i p lt le = let same : i ≡ n = omega arith in omega (arith, is, ap (λ m. m * words) same)

    kept : (i p : ℕ) → i < n → p < 64 * width
        → place new (64 * (at + i * words) + p) ≡ place mid (64 * (at + i * words) + p)
    kept i p lt narrow =
        let far = apart i n words lt in
        place_word new mid (64 * (at + i * words) + p)
        (row.rest ((64 * (at + i * words) + p) / 64) (inl (omega (arith, far, wide, is))))

-- the first row
pub block_first : (width : ℕ) (N : ℕ → ℕ) (at words : ℕ) (old new changed : List ℕ)
    → IsRowStep width N at old new changed → IsBlockStep width N at words 1 old new changed
block_first width N at words old new changed row = record {
  long = row.long;
  next = λ i p lt narrow. let e = first i p lt in ap (place new) (sym e) ∙ row.next p narrow ∙ ap N e;
  rest = rest_first width at words old new row.rest;
  same =
      λ i p lt narrow blank. let e = first i p lt in
      ap (place new) (sym e) ∙ row.same p narrow blank ∙ ap (place old) e;
}
  where
    first : (i p : ℕ) → i < 1 → 64 * at + p ≡ 64 * (at + i * words) + p
    first i p lt = let zero : i ≡ 0 = omega arith in omega (arith, ap (λ m. m * words) zero)

-- where a further row did not change, it is what it was at first
pub block_last : (width : ℕ) (N : ℕ → ℕ) (at words n k : ℕ) (old mid new all changed : List ℕ)
    → width ≤ words → k ≡ at + n * words
    → IsBlockStep width N at words n old mid all → IsRowStep width N k mid new changed → (p : ℕ)
    → p < 64 * width → place changed p ≡ 0 → place new (64 * k + p) ≡ place old (64 * k + p)
block_last width N at words n k old mid new all changed wide is done row p narrow blank =
    row.same p narrow blank ∙ place_word mid old (64 * k + p)
    (done.rest ((64 * k + p) / 64) (λ m below. let far = apart m n words below in inr (omega (arith, far, wide, is))))

-- a further row leaves the first
pub block_top : (width : ℕ) (N : ℕ → ℕ) (at words n k : ℕ) (mid new changed : List ℕ) → width ≤ words
    → 1 ≤ n → k ≡ at + n * words → IsRowStep width N k mid new changed → (p : ℕ) → p < 64 * width
    → place new (64 * at + p) ≡ place mid (64 * at + p)
block_top width N at words n k mid new changed wide some is row p narrow =
    let far = mul-le 1 words n words some (omega arith) in
    place_word new mid (64 * at + p) (row.rest ((64 * at + p) / 64) (inl (omega (arith, far, wide, is))))

-- place q p of words that evolve: place p of the two words from k on, one generation later
pub row_next : (r : RuleSets) (rows : List ℕ) (words k : ℕ) (q m : ℕ → ℕ) (p : ℕ) (above middle below : WideSums)
    (here sides sides2 new : List ℕ) → words + 1 ≤ k
    → AreSumsAt rows (k - words) q above → AreSumsAt rows k m middle → AreSumsAt rows (k + words) q below
    → p < 128
    → place here (q p) ≡ place middle.here (m p)
    → place sides (q p) ≡ place middle.sides (m p)
    → place sides2 (q p) ≡ place middle.sides2 (m p)
    → (sum_at above.all above.all2 sides sides2 below.all below.all2 (q p) < 9 → place new (q p)
    ≡ one_if (lives_at r (nat_eq (place here (q p)) 1)
    (sum_at above.all above.all2 sides sides2 below.all below.all2 (q p))))
    → place new (q p) ≡ flat_next r rows (64 * words) (64 * k + p)
row_next r rows words k q m p above middle below here sides sides2 new first a h b lt live side side2 next =
    let W : ℕ = 64 * words in
    let at : ℕ = 64 * k + p in
    let a0 : 64 * (k - words) + p - 1 ≡ at - W - 1 = omega arith in
    let a1 : 64 * (k - words) + p ≡ at - W = omega arith in
    let a2 : 64 * (k - words) + p + 1 ≡ at - W + 1 = omega arith in
    let b0 : 64 * (k + words) + p - 1 ≡ at + W - 1 = omega arith in
    let b1 : 64 * (k + words) + p ≡ at + W = omega arith in
    let b2 : 64 * (k + words) + p + 1 ≡ at + W + 1 = omega arith in
    let up : digits_at above.all above.all2 (q p) ≡ place rows (at - W - 1) + (place rows (at - W)
    + place rows (at - W + 1)) = a.all p lt ∙ (λ t. place rows (a0 t) + (place rows (a1 t) + place rows (a2 t))) in
    let beside : digits_at sides sides2 (q p) ≡ place rows (at - 1) + place rows (at + 1) =
    (λ t. side t + 2 * side2 t) ∙ h.sides p lt in
    let down : digits_at below.all below.all2 (q p) ≡ place rows (at + W - 1) + (place rows (at + W)
    + place rows (at + W + 1)) = b.all p lt ∙ (λ t. place rows (b0 t) + (place rows (b1 t) + place rows (b2 t))) in
    let own : place here (q p) ≡ place rows at = live ∙ h.here p lt in
    next (few_live above.all above.all2 sides sides2 below.all below.all2 (q p) rows (at - W) at (at + W)
    up beside down)
    ∙ (λ t. one_if (lives_at r (nat_eq (own t) 1) (up t + (beside t + down t))))

-- two words that were stored, whose places are those of N
pub row_put : (N : ℕ → ℕ) (k : ℕ) (old new words changed : List ℕ) → length new ≡ length old
    → ((j : ℕ) → (j < k) ⊎ (k + 2 ≤ j) → get_or new j 0 ≡ get_or old j 0)
    → ((p : ℕ) → p < 128 → place new (64 * k + p) ≡ place words p)
    → ((p : ℕ) → p < 128 → place changed p ≡ 0 → place new (64 * k + p) ≡ place old (64 * k + p))
    → ((p : ℕ) → p < 128 → place words p ≡ N (64 * k + p)) → IsRowStep 2 N k old new changed
row_put N k old new words changed long rest put same next = record {
  long = long;
  next = λ p lt. put p lt ∙ next p lt;
  rest = rest;
  same = same;
}
