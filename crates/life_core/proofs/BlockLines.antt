-- Blocks that are stepped one after the other.
use Rattle.std.proofs.Common.{◌≡◌, ◌≢◌, ◌⊎◌, ℕ, ◌+◌, ◌-◌, ◌*◌, ◌/◌, ◌<◌, ◌≤◌, List, sym, ap, subst}
use Rattle.std.proofs.Common.{◌∙◌, inl, inr, arith}
use Rattle.std.proofs.lemmas.Bool.{cases_lt}
use Rattle.std.proofs.lemmas.Nat.{mul-le}
use Rattle.life_core.specs.PackedRow.{place}
use Rattle.life_core.specs.PackedBlocksState.{IsOutside}
use Rattle.life_core.proofs.LanePlaces.{place-lt}
use Rattle.life_core.proofs.BlockChanges.{changed_or_same}
use Rattle.life_core.specs.PackedMarksState.{KeepsMarks, AreNeighboursMarked, IsStepped, IsAdvanced, block_at, mark_at}
use Rattle.life_core.specs.PackedMarksState.{place_at}

-- the places of a block are none of another of its line
pub between : (columns line c n i p : ℕ) → c < columns → n < columns → c ≢ n → p < 128
    → IsOutside 2 (block_at columns line n) (2 * columns) 16 (place_at columns line c i p / 64)
between columns line c n i p cl nl other narrow m below =
    let word : (64 * (block_at columns line c + i * (2 * columns)) + p) / 64
    ≡ block_at columns line c + i * (2 * columns) + p / 64 = omega arith in
    elim (cases_lt m i) [
      | inl later ↦
          let far = mul-le (m + 1) (2 * columns) i (2 * columns) (omega arith) (omega arith) in
          inr (omega (arith, far, word, nl))
      | inr sooner ↦
          let near = mul-le i (2 * columns) m (2 * columns) sooner (omega arith) in
          elim (cases_lt c n) [
            | inl before ↦ inl (omega (arith, near, word, before))
            | inr after ↦ elim (cases_lt i m) [
              | inl above ↦
                  let more = mul-le (i + 1) (2 * columns) m (2 * columns) (omega arith) (omega arith) in
                  inl (omega (arith, more, word, cl))
              | inr here ↦
                  let same : m ≡ i = omega arith in
                  let off : n + 1 ≤ c = omega (arith, after, other) in
                  inr (omega (arith, ap (λ (k : ℕ). k * (2 * columns)) same, word, off))
            ]
          ]
    ]

-- a word outside a line is in none of its blocks
pub outside_line : (columns line c j : ℕ) → c < columns → (j < block_at columns line 0)
    ⊎ (block_at columns (line + 1) 0 ≤ j) → IsOutside 2 (block_at columns line c) (2 * columns) 16 j
outside_line columns line c j lt (inl low) m below = inl (omega (arith, low))
outside_line columns line c j lt (inr high) m below =
    let far = mul-le (m + 1) (2 * columns) 16 (2 * columns) (omega arith) (omega arith) in
    inr (omega (arith, high, far, lt))

-- the words of a line's blocks
pub in_line : (columns line c i p : ℕ) → c < columns
    → i < 16 → p < 128 → (block_at columns line 0 ≤ place_at columns line c i p / 64)
    × (place_at columns line c i p / 64 < block_at columns (line + 1) 0)
in_line columns line c i p cl il narrow =
    let word : (64 * (block_at columns line c + i * (2 * columns)) + p) / 64
    ≡ block_at columns line c + i * (2 * columns) + p / 64 = omega arith in
    let far = mul-le (i + 1) (2 * columns) 16 (2 * columns) (omega arith) (omega arith) in
    (omega (arith, word), omega (arith, word, far, cl))

pub line_order : (columns z line : ℕ) → z < line → block_at columns (z + 1) 0 ≤ block_at columns line 0
line_order columns z line lt =
    let far = mul-le (16 * (z + 1)) (2 * columns) (16 * line) (2 * columns) (omega arith) (omega arith) in
    omega (arith, far)

-- the places of a block are none of another
pub apart_from : (columns z c y x i p : ℕ) → c < columns → x < columns → mark_at columns z c ≢ mark_at columns y x
    → i < 16 → p < 128 → IsOutside 2 (block_at columns y x) (2 * columns) 16 (place_at columns z c i p / 64)
apart_from columns z c y x i p cl xl other il narrow =
    let here = in_line columns z c i p cl il narrow in
    elim (cases_lt z y) [
      | inl before ↦
          let order = line_order columns z y before in
          outside_line columns y x (place_at columns z c i p / 64) xl (inl (omega (arith, order, here.1)))
      | inr from ↦ elim (cases_lt y z) [
        | inl after ↦
            let order = line_order columns y z after in
            outside_line columns y x (place_at columns z c i p / 64) xl (inr (omega (arith, order, here.0)))
        | inr to ↦
            let same : z ≡ y = omega (arith, from, to) in
            subst (λ (k : ℕ). IsOutside 2 (block_at columns k x) (2 * columns) 16 (place_at columns z c i p / 64)) same
            (between columns z c x i p cl xl
            (λ e. other (λ t. mark_at columns (same t) (e t))) narrow)
      ]
    ]

-- which line a mark is in
pub line_before : (columns z c y : ℕ) → c < columns → mark_at columns z c < mark_at columns y 0 → z < y
line_before columns z c y cl lt = elim (cases_lt z y) [
  | inl before ↦ before
  | inr from ↦
      let far = mul-le y columns z columns from (omega arith) in
      absurd (omega (arith, far, lt))
]

-- a mark between two of a line is of that line
pub line_is : (columns z c y : ℕ) → c < columns → mark_at columns y 0 ≤ mark_at columns z c
    → mark_at columns z c < mark_at columns (y + 1) 0 → y ≡ z
line_is columns z c y cl from to = elim (cases_lt z y) [
  | inl before ↦
      let far = mul-le (z + 1) columns y columns (omega (arith, before)) (omega arith) in
      absurd (omega (arith, far, from, cl))
  | inr after ↦ elim (cases_lt y z) [
    | inl later ↦
        let far = mul-le (y + 1) columns z columns (omega (arith, later)) (omega arith) in
        absurd (omega (arith, far, to))
    | inr same ↦ omega (arith, after, same)
  ]
]

pub woken_more : (columns b i p : ℕ) (marks more : List ℕ) → KeepsMarks marks more
    → AreNeighboursMarked columns b i p marks → AreNeighboursMarked columns b i p more
woken_more columns b i p marks more km w = record {
  own = km.set b w.own;
  left = λ e. km.set (b - 1) (w.left e);
  right = λ e. km.set (b + 1) (w.right e);
  above = λ f. km.set (b - columns) (w.above f);
  above_left = λ f e. km.set (b - columns - 1) (w.above_left f e);
  above_right = λ f e. km.set (b - columns + 1) (w.above_right f e);
  below = λ f. km.set (b + columns) (w.below f);
  below_left = λ f e. km.set (b + columns - 1) (w.below_left f e);
  below_right = λ f e. km.set (b + columns + 1) (w.below_right f e);
}

-- a block that was written is stepped, where its changes woke what they reach
pub stepped_block : (N : ℕ → ℕ) (columns line c : ℕ) (old new all top bottom nm : List ℕ)
    → ((i p : ℕ) → i < 16 → p < 128 → place new (place_at columns line c i p) ≡ N (place_at columns line c i p))
    → ((i p : ℕ) → i < 16 → p < 128 → place all p ≡ 0
    → place new (place_at columns line c i p) ≡ place old (place_at columns line c i p))
    → ((p : ℕ) → p < 128 → place top p ≡ 0
    → place new (64 * block_at columns line c + p) ≡ place old (64 * block_at columns line c + p))
    → ((p : ℕ) → p < 128 → place bottom p ≡ 0 → place new (64 * (block_at columns line c + 15 * (2 * columns)) + p)
    ≡ place old (64 * (block_at columns line c + 15 * (2 * columns)) + p))
    → ((i p : ℕ) → p < 128 → place all p ≡ 1 → (i ≡ 0 → place top p ≡ 1) → (i ≡ 15 → place bottom p ≡ 1)
    → AreNeighboursMarked columns (mark_at columns line c) i p nm)
    → IsStepped N columns line c old new nm
stepped_block N columns line c old new all top bottom nm next same first last marked = record {
  next = next;
  marked = λ i p lt narrow.
      let at : ℕ = block_at columns line c in
      let words : ℕ = 2 * columns in
      changed_or_same {Same = place new (place_at columns line c i p) ≡ place old (place_at columns line c i p)}
      {Woken = AreNeighboursMarked columns (mark_at columns line c) i p nm}
      (place all p) (place top p) (place bottom p) i (place-lt all p) (place-lt top p) (place-lt bottom p)
      (λ blank. same i p lt narrow blank)
      (λ zero blank. let e : 64 * at + p ≡ 64 * (at + i * words) + p = omega (arith, ap (λ (m : ℕ). m * words) zero) in
      ap (place new) (sym e) ∙ first p narrow blank ∙ ap (place old) e)
      (λ end blank. subst (λ (m : ℕ). place new (64 * (at + m * words) + p) ≡ place old (64 * (at + m * words) + p))
      (sym end) (last p narrow blank))
      (λ some f l. marked i p narrow some f l);
}

-- a block that was stepped or is idle stays so, where its places stay and more is marked
pub advanced_kept : (N : ℕ → ℕ) (columns line c : ℕ) (marks old mid new nm more : List ℕ)
    → ((i p : ℕ) → i < 16 → p < 128 → place new (place_at columns line c i p) ≡ place mid (place_at columns line c i p))
    → KeepsMarks nm more
    → IsAdvanced N columns line c marks old mid nm → IsAdvanced N columns line c marks old new more
advanced_kept N columns line c marks old mid new nm more stays km (inl s) = inl (record {
  next = λ i p lt narrow. stays i p lt narrow ∙ s.next i p lt narrow;
  marked = λ i p lt narrow. elim (s.marked i p lt narrow) [
    | inl same ↦ inl (stays i p lt narrow ∙ same)
    | inr w ↦ inr (woken_more columns (mark_at columns line c) i p nm more km w)
  ];
})
advanced_kept N columns line c marks old mid new nm more stays km (inr s) = inr (record {
  unmarked = s.unmarked;
  kept = λ i p lt narrow. stays i p lt narrow ∙ s.kept i p lt narrow;
})

-- a block that is stepped now, where its places were what they were at first
pub stepped_from : (N : ℕ → ℕ) (columns line c : ℕ) (old mid new nm : List ℕ)
    → ((i p : ℕ) → i < 16 → p < 128 → place mid (place_at columns line c i p) ≡ place old (place_at columns line c i p))
    → IsStepped N columns line c mid new nm → IsStepped N columns line c old new nm
stepped_from N columns line c old mid new nm was s = record {
  next = s.next;
  marked = λ i p lt narrow. elim (s.marked i p lt narrow) [
    | inl same ↦ inl (same ∙ was i p lt narrow)
    | inr w ↦ inr w
  ];
}

-- a word that is in neither of two blocks side by side
pub outside_both : (columns line c j : ℕ) → IsOutside 2 (block_at columns line c) (2 * columns) 16 j
    → IsOutside 2 (block_at columns line (c + 1)) (2 * columns) 16 j
    → IsOutside 4 (block_at columns line c) (2 * columns) 16 j
outside_both columns line c j left right i below = elim (left i below) [
  | inl low ↦ inl low
  | inr past ↦ elim (right i below) [
    | inl within ↦ absurd (omega (arith, past, within))
    | inr high ↦ inr (omega (arith, high))
  ]
]
