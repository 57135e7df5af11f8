-- Marks as bits.
use Rattle.std.proofs.Common.{◌≡◌, ◌≢◌, ℕ, ◌+◌, ◌-◌, ◌*◌, ◌/◌, ◌%◌, ◌^◌, ◌<◌, ◌≤◌, List, length, get_or, set, sym}
use Rattle.std.proofs.Common.{get_or-set_other, get_or-set_same, length-set, ap, ◌∙◌, inl, inr, arith, bit_or, w64}
use Rattle.std.specs.Int.{bit_at, trailing_zeros}
use Rattle.std.proofs.lemmas.Bool.{cases_lt, cases_eq}
use Rattle.std.proofs.lemmas.List.{get_or_past}
use Rattle.std.proofs.lemmas.Nat.{shr-shr}
use Rattle.std.proofs.lemmas.Nat.Bits.{bit_at_set_same, bit_at_set_other, bit_at_ones, bit_at-zero}
use Rattle.life_core.specs.PackedRow.{place}
use Rattle.life_core.specs.PackedMarksState.{IsMarked, KeepsMarks}
use Rattle.life_core.proofs.PackedCells.{lowest_run}

-- a word with bit j % 64 set
abbrev pub with_mark : List ℕ → ℕ → ℕ
with_mark marks j = bit_or (get_or marks (j / 64) 0) (1 * 2 ^ (j % 64) % 2 ^ 64)

pub set_is : (marks : List ℕ) (j : ℕ) → j / 64 < length marks → IsMarked (set marks (j / 64) (with_mark marks j)) j
set_is marks j inside =
    ap (λ w. bit_at w (j % 64)) (get_or-set_same marks (j / 64) (with_mark marks j) 0 inside)
    ∙ bit_at_set_same w64 (get_or marks (j / 64) 0) (j % 64) (omega arith)

pub set_keeps : (marks : List ℕ) (j : ℕ) → j / 64 < length marks
    → KeepsMarks marks (set marks (j / 64) (with_mark marks j))
set_keeps marks j inside = record {
  long = length-set marks _ _;
  set = λ m h. elim (cases_eq m j) [
    | inl same ↦ ap (place (set marks (j / 64) (with_mark marks j))) same ∙ set_is marks j inside
    | inr other ↦ elim (cases_eq (m / 64) (j / 64)) [
      | inr away ↦
          ap (λ w. bit_at w (m % 64)) (get_or-set_other marks (j / 64) (m / 64) (with_mark marks j) 0 away) ∙ h
      | inl here ↦
          let bit : m % 64 ≢ j % 64 = λ e. other (omega (arith, e, here)) in
          ap (λ k. bit_at (get_or (set marks (j / 64) (with_mark marks j)) k 0) (m % 64)) here
          ∙ ap (λ w. bit_at w (m % 64)) (get_or-set_same marks (j / 64) (with_mark marks j) 0 inside)
          ∙ bit_at_set_other w64 (get_or marks (j / 64) 0) (j % 64) (omega arith) (m % 64) bit
          ∙ ap (λ k. bit_at (get_or marks k 0) (m % 64)) (sym here) ∙ h
    ]
  ];
}

-- no mark up to the lowest bit of what is left of a word
pub none_below : (marks : List ℕ) (j left m : ℕ) → get_or marks (j / 64) 0 < 2 ^ 64
    → left ≡ get_or marks (j / 64) 0 / 2 ^ (j % 64) → 0 < left → j ≤ m → m < j + trailing_zeros w64 left
    → place marks m ≡ 0
none_below marks j left m fits is some from to =
    let w = get_or marks (j / 64) 0 in
    let lowest = lowest_run w (j % 64) left fits is some in
    let word : m / 64 ≡ j / 64 = omega (arith, lowest.fits, lowest.some, from, to) in
    let bit : j % 64 + (m - j) ≡ m % 64 = omega (arith, from, word) in
    ap (λ k. bit_at (get_or marks k 0) (m % 64)) word
    ∙ ap (λ k. bit_at w k) (sym bit)
    ∙ ap (λ k. k % 2) (sym (shr-shr w (j % 64) (m - j)))
    ∙ lowest.none (m - j) (omega (arith, from, to))

-- no mark in the rest of a word that is blank
pub none_in_word : (marks : List ℕ) (j m : ℕ) → get_or marks (j / 64) 0 / 2 ^ (j % 64) ≡ 0
    → j ≤ m → m < 64 * (j / 64 + 1) → place marks m ≡ 0
none_in_word marks j m blank from to =
    let w = get_or marks (j / 64) 0 in
    let word : m / 64 ≡ j / 64 = omega (arith, from, to) in
    let bit : j % 64 + (m - j) ≡ m % 64 = omega (arith, from, word) in
    ap (λ k. bit_at (get_or marks k 0) (m % 64)) word
    ∙ ap (λ k. bit_at w k) (sym bit)
    ∙ ap (λ k. k % 2) (sym (shr-shr w (j % 64) (m - j)))
    ∙ ap (λ k. bit_at k (m - j)) blank ∙ bit_at-zero (m - j)

-- words of ones have all marks
pub all_ones : (marks : List ℕ) (j : ℕ) → get_or marks (j / 64) 0 ≡ 18446744073709551615 → IsMarked marks j
all_ones marks j is = ap (λ w. bit_at w (j % 64)) is ∙ bit_at_ones 64 (j % 64) (omega arith)

-- words of ones keep all marks
pub ones_keep : (old new : List ℕ) → length new ≡ length old
    → ((k : ℕ) → k < length new → get_or new k 0 ≡ 18446744073709551615) → KeepsMarks old new
ones_keep old new long ones = record {
  long = long;
  set = λ j h. elim (cases_lt (j / 64) (length new)) [
    | inl inside ↦ all_ones new j (ones (j / 64) inside)
    | inr past ↦
        let none : place old j ≡ 0 =
        ap (λ w. bit_at w (j % 64)) (get_or_past old (j / 64) 0 (omega (arith, past, long)))
        ∙ bit_at-zero (j % 64) in
        absurd (omega (arith, none, h))
  ];
}
