-- Bits that are set a run at a time.
use Rattle.std.proofs.Common.{◌≡◌, ◌⊎◌, ℕ, ℤ, pos, negsuc, ◌+◌, ◌-◌, ◌*◌, ◌/◌, ◌%◌, ◌^◌, ◌<◌, ◌≤◌, ◌+ℤ◌, ◌-ℤ◌, true}
use Rattle.std.proofs.Common.{◌||◌, max, List, length, get_or, set, get_or-set_other, get_or-set_same, sym, ap, ◌∙◌}
use Rattle.std.proofs.Common.{inl, inr, arith, bit_or}
use Rattle.std.specs.Int.{bit_at}
use Rattle.std.specs.List.{All}
use Rattle.std.proofs.lemmas.Int.{ints}
use Rattle.std.proofs.lemmas.Nat.{div-mul-add, shr-shr}
use Rattle.std.proofs.lemmas.Nat.Bits.{bit_at_or, bit_at-lt, bit_at_ones, bit_at_ones_above}
use Rattle.std.proofs.lemmas.Bool.{cases_lt, cases_eq, or_cases, or_left, or_right}
use Rattle.std.specs.FinSet as fset
use Rattle.life_core.specs.declared.cell.Cell.{Cell}
use Rattle.life_core.specs.declared.packed.frame.Frame.{Frame}
use Rattle.life_core.specs.declared.runs.Run.{Run}
use Rattle.life_core.specs.PackedRow.{place}
use Rattle.life_core.specs.PackedFrameState.{framed, cell_in, IsIn}
use Rattle.life_core.specs.Runs.{run_cells, first_cell, has_cell, IsInRun}
use Rattle.life_core.proofs.PatternMembers.{same_answer}
use Rattle.life_core.proofs.RunsLaws.{in_run, run_has}
use Rattle.life_core.proofs.RunsLemmas.{all_at}
use Rattle.life_core.proofs.WordShifts.{bit_at_up_low, bit_at_up_high}
use Rattle.life_core.proofs.PackedCells.{live_place, place_lives}

-- so many ones, from a bit of a word on
abbrev pub mask : ℕ → ℕ → ℕ
mask count bit = 18446744073709551615 / 2 ^ (64 - count) * 2 ^ bit % 2 ^ 64

pub mask_inside : (count bit i : ℕ) → bit + count ≤ 64 → bit ≤ i → i < bit + count → bit_at (mask count bit) i ≡ 1
mask_inside count bit i fits low high =
    bit_at_up_high (18446744073709551615 / 2 ^ (64 - count)) bit i low (omega arith) ∙ ap (λ n. n % 2)
    (shr-shr 18446744073709551615 (64 - count) (i - bit)) ∙ bit_at_ones 64 (64 - count + (i - bit)) (omega arith)

pub mask_outside : (count bit i : ℕ) → bit + count ≤ 64 → i < 64 → (i < bit) ⊎ (bit + count ≤ i)
    → bit_at (mask count bit) i ≡ 0
mask_outside count bit i fits low (inl before) =
    bit_at_up_low (18446744073709551615 / 2 ^ (64 - count)) bit i before (omega arith)
mask_outside count bit i fits low (inr after) =
    bit_at_up_high (18446744073709551615 / 2 ^ (64 - count)) bit i (omega arith) low ∙ ap (λ n. n % 2)
    (shr-shr 18446744073709551615 (64 - count) (i - bit)) ∙ bit_at_ones_above 64 (64 - count + (i - bit)) (omega arith)

-- bits of one word are set
module _ (rows : List ℕ) (at count : ℕ) (inside : at / 64 < length rows) (fits : at % 64 + count ≤ 64) where
  abbrev pub word : ℕ
  word = bit_or (get_or rows (at / 64) 0) (mask count (at % 64))

  pub word_inside : (p : ℕ) → at ≤ p → p < at + count → place (set rows (at / 64) word) p ≡ 1
  word_inside p low high =
      let same : p / 64 ≡ at / 64 = omega arith in
      let bit = mask_inside count (at % 64) (p % 64) fits (omega arith) (omega arith) in
      ap (λ k. bit_at (get_or (set rows (at / 64) word) k 0) (p % 64)) same
      ∙ ap (λ w. bit_at w (p % 64)) (get_or-set_same rows (at / 64) word 0 inside)
      ∙ bit_at_or (get_or rows (at / 64) 0) (mask count (at % 64)) (p % 64)
      ∙ ap (max (bit_at (get_or rows (at / 64) 0) (p % 64))) bit
      ∙ omega (arith, bit_at-lt (get_or rows (at / 64) 0) (p % 64))

  pub word_outside : (p : ℕ) → (p < at) ⊎ (at + count ≤ p) → place (set rows (at / 64) word) p ≡ place rows p
  word_outside p apart = elim (cases_eq (p / 64) (at / 64)) [
    | inr other ↦ ap (λ w. bit_at w (p % 64)) (get_or-set_other rows (at / 64) (p / 64) word 0 other)
    | inl same ↦
        let bit = mask_outside count (at % 64) (p % 64) fits (omega arith) (elim apart [
          | inl before ↦ inl (omega arith)
          | inr after ↦ inr (omega arith)
        ]) in
        ap (λ k. bit_at (get_or (set rows (at / 64) word) k 0) (p % 64)) same
        ∙ ap (λ w. bit_at w (p % 64)) (get_or-set_same rows (at / 64) word 0 inside)
        ∙ bit_at_or (get_or rows (at / 64) 0) (mask count (at % 64)) (p % 64)
        ∙ ap (max (bit_at (get_or rows (at / 64) 0) (p % 64))) bit
        ∙ (let whole : max (bit_at (get_or rows (at / 64) 0) (p % 64)) 0 ≡ bit_at (get_or rows (at / 64) 0) (p % 64) =
        omega arith in whole) ∙ ap (λ k. bit_at (get_or rows k 0) (p % 64)) (sym same)
  ]

-- the bits of a run are set, and its cells join
module _ (f : Frame) (rows new : List ℕ) (run : Run) (x y : ℕ) (wide : 0 < f.words)
    (size : f.height * f.words ≡ length rows) (long : length new ≡ length rows)
    (narrow : x + run.len ≤ 64 * f.words) (low : y < f.height) (at : first_cell run ≡ cell_in f.left f.top x y)
    (inside : (p : ℕ) → y * (64 * f.words) + x ≤ p → p < y * (64 * f.words) + x + run.len → place new p ≡ 1)
    (outside : (p : ℕ) → (p < y * (64 * f.words) + x) ⊎ (y * (64 * f.words) + x + run.len ≤ p)
    → place new p ≡ place rows p) where
  column : run.first ≡ f.left +ℤ pos x
  column = ap (λ (d : Cell). d.column) at

  row : run.row ≡ f.top +ℤ pos y
  row = ap (λ (d : Cell). d.row) at

  was_or_is : (c : Cell) → fset.contains (framed f new) c ≡ true
      → (has_cell (run_cells run) c || fset.contains (framed f rows) c) ≡ true
  was_or_is c h =
      let p = live_place f new wide (size ∙ sym long) c h in
      let P = p.y * (64 * f.words) + p.x in
      elim (cases_lt P (y * (64 * f.words) + x)) [
        | inl before ↦
            or_right (has_cell (run_cells run) c) _ (place_lives f rows wide size c p.x p.y
            p.column p.row p.narrow p.low (sym (outside P (inl before)) ∙ p.live))
        | inr from ↦ elim (cases_lt P (y * (64 * f.words) + x + run.len)) [
          | inr after ↦
              or_right (has_cell (run_cells run) c) _ (place_lives f rows wide size c p.x p.y
              p.column p.row p.narrow p.low (sym (outside P (inr after)) ∙ p.live))
          | inl here ↦
              let r = P - y * (64 * f.words) in
              let is : P ≡ y * (64 * f.words) + r = omega (arith, from) in
              let within : r < 64 * f.words = omega (arith, from, here, narrow) in
              let same : p.y ≡ y = sym (div-mul-add p.y (64 * f.words) p.x p.narrow) ∙ ap (λ n. n / (64 * f.words)) is
              ∙ div-mul-add y (64 * f.words) r within in
              let beside : p.x ≡ r = omega (arith, ap (λ n. n * (64 * f.words)) same, is) in
              or_left _ _ (run_has run c (record {
                row = omega (arith, ints, p.row, row, same);
                low = omega (arith, ints, p.column, column, beside, from);
                high = omega (arith, ints, p.column, column, beside, here);
              }))
        ]
      ]

  in_run_lives : (c : Cell) → IsInRun run c → fset.contains (framed f new) c ≡ true
  in_run_lives c in_it = go (c.column -ℤ f.left) (omega (arith, ints))
    where
      go : (dx : ℤ) → c.column ≡ f.left +ℤ dx → fset.contains (framed f new) c ≡ true
      go (negsuc n) is = absurd (omega (arith, ints, is, in_it.low, column))
      go (pos n) is =
          let from : x ≤ n = omega (arith, ints, is, in_it.low, column) in
          let to : n < x + run.len = omega (arith, ints, is, in_it.high, column) in
          place_lives f new wide (size ∙ sym long) c n y is (in_it.row ∙ row) (omega (arith, to, narrow)) low
          (inside (y * (64 * f.words) + n) (omega (arith, from)) (omega (arith, to)))

  still_lives : (c : Cell) → fset.contains (framed f rows) c ≡ true → fset.contains (framed f new) c ≡ true
  still_lives c old =
      let p = live_place f rows wide size c old in
      let P = p.y * (64 * f.words) + p.x in
      place_lives f new wide (size ∙ sym long) c p.x p.y p.column p.row p.narrow p.low
      (elim (cases_lt P (y * (64 * f.words) + x)) [
        | inl before ↦ outside P (inl before) ∙ p.live
        | inr from ↦ elim (cases_lt P (y * (64 * f.words) + x + run.len)) [
          | inl here ↦ inside P from here
          | inr after ↦ outside P (inr after) ∙ p.live
        ]
      ])

  pub run_cells_join : (c : Cell)
      → fset.contains (framed f new) c ≡ (has_cell (run_cells run) c || fset.contains (framed f rows) c)
  run_cells_join c =
      same_answer _ _ (was_or_is c)
      (λ h. elim (or_cases (has_cell (run_cells run) c) (fset.contains (framed f rows) c) h) [
        | inl there ↦ in_run_lives c (in_run run c there)
        | inr old ↦ still_lives c old
      ])

-- a run in a frame ends in its row
pub run_narrow : (f : Frame) (run : Run) (x y : ℕ) → 1 ≤ run.len → first_cell run ≡ cell_in f.left f.top x y
    → All (IsIn f.left f.top (64 * f.words) f.height) (run_cells run) → x + run.len ≤ 64 * f.words
run_narrow f run x y some at all =
    let last = all_at (IsIn f.left f.top (64 * f.words) f.height) run.row run.first run.len
    (run.len - 1) all (omega (arith, some)) in
    omega (arith, ints, last.to_right, ap (λ (d : Cell). d.column) at, some)
