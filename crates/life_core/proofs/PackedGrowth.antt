-- Rows copied into a wider frame.
use Rattle.std.proofs.Common.{◌≡◌, ℕ, ◌+◌, ◌-◌, ◌*◌, ◌/◌, ◌%◌, ◌<◌, ◌≤◌, true, false, nat_eq, List, ◌++◌, take, drop}
use Rattle.std.proofs.Common.{length, get_or, sym, ap, ◌∙◌, inl, inr, rules, arith}
use Rattle.std.specs.Prelude.{◌⊎◌}
use Rattle.std.specs.Int.{bit_at}
use Rattle.std.specs.FinSet as set
use Rattle.std.proofs.lemmas.Int.{ints}
use Rattle.std.proofs.lemmas.Bool.{false≢true, cases_lt, cases_eq}
use Rattle.std.proofs.lemmas.Bool.Decides.{nat_tests}
use Rattle.std.proofs.lemmas.List.{places}
use Rattle.std.proofs.lemmas.Nat.Bits.{bit_at-zero, bit_at-lt}
use Rattle.life_core.specs.declared.cell.Cell.{Cell}
use Rattle.life_core.specs.declared.packed.frame.Frame.{Frame}
use Rattle.life_core.specs.declared.packed.margins.Wider.{Wider}
use Rattle.life_core.specs.PackedRow.{one_if, place}
use Rattle.life_core.specs.PackedFrameState.{framed, cell_in, IsFrame, IsIn}
use Rattle.life_core.specs.PackedMarginsState.{IsWider}
use Rattle.life_core.proofs.CellLemmas.{same_coordinates}
use Rattle.life_core.proofs.FrameBounds.{row_fits}
use Rattle.life_core.proofs.PatternMembers.{same_answer}
use Rattle.life_core.proofs.PackedJoins.{place_in_row}
use Rattle.life_core.proofs.PackedSteps.{rows_are}
use Rattle.life_core.proofs.PackedCells.{live_in, place_is_live}

-- where a word of the wider rows comes from
abbrev pub IsBeside : Frame → Wider → ℕ → ℕ → ℕ → Type 0
IsBeside f w y z j = ((z < w.top) ⊎ (w.top + y ≤ z)) ⊎ ((j < w.left) ⊎ (w.left + f.words ≤ j))

-- a list with words put in from the place a on
abbrev pub put_at : ℕ → List ℕ → List ℕ → List ℕ
put_at a out ys = take a out ++ (ys ++ drop (a + length ys) out)

-- a row is copied
module _ (f : Frame) (w : Wider) (out ys : List ℕ) (y : ℕ) (wider : IsWider f w)
    (size : w.frame.height * w.frame.words ≡ length out) (low : y < f.height) (long : length ys ≡ f.words) where
  fits : (w.top + y) * w.frame.words + w.left + f.words ≤ length out
  fits =
      let at = row_fits w.frame.words w.frame.height (w.top + y) (omega (arith, wider.tall)) in
      omega (arith, at, size, wider.wide)

  pub as_long : length (put_at ((w.top + y) * w.frame.words + w.left) out ys) ≡ length out
  as_long = let room = fits in search (rules, places)

  pub row_has_room : (w.top + y) * w.frame.words + w.left + f.words ≤ length out
  row_has_room = fits

  pub copied_before : (z j : ℕ) → z < y → j < f.words → get_or (put_at ((w.top + y) * w.frame.words + w.left) out ys)
      ((w.top + z) * w.frame.words + (w.left + j)) 0 ≡ get_or out ((w.top + z) * w.frame.words + (w.left + j)) 0
  copied_before z j before inside =
      let room = fits in
      let end = row_fits w.frame.words (w.top + y) (w.top + z) (omega arith) in
      let apart : (w.top + z) * w.frame.words + (w.left + j) < (w.top + y) * w.frame.words + w.left =
      omega (arith, end, wider.wide) in
      search (rules, places)

  pub copied_here : (j : ℕ) → j < f.words → get_or (put_at ((w.top + y) * w.frame.words + w.left) out ys)
      ((w.top + y) * w.frame.words + (w.left + j)) 0 ≡ get_or ys j 0
  copied_here j inside =
      let room = fits in
      search (rules, places)

  pub blank_beside : (z j : ℕ) → j < w.frame.words → IsBeside f w (y + 1) z j
      → get_or (put_at ((w.top + y) * w.frame.words + w.left) out ys) (z * w.frame.words + j) 0
      ≡ get_or out (z * w.frame.words + j) 0
  blank_beside z j inside (inl (inl above)) =
      let room = fits in
      let end = row_fits w.frame.words (w.top + y) z (omega arith) in
      let apart : z * w.frame.words + j < (w.top + y) * w.frame.words + w.left = omega (arith, end) in
      search (rules, places)
  blank_beside z j inside (inl (inr below)) =
      let room = fits in
      let end = row_fits w.frame.words z (w.top + y) (omega arith) in
      let apart : (w.top + y) * w.frame.words + w.left + f.words ≤ z * w.frame.words + j =
      omega (arith, end, wider.wide) in
      search (rules, places)
  blank_beside z j inside (inr side) = elim (cases_lt z (w.top + y)) [
    | inl above ↦
        let room = fits in
        let end = row_fits w.frame.words (w.top + y) z above in
        let apart : z * w.frame.words + j < (w.top + y) * w.frame.words + w.left = omega (arith, end) in
        search (rules, places)
    | inr past ↦ elim (cases_eq z (w.top + y)) [
      | inl same ↦
          (λ i. get_or (put_at ((w.top + y) * w.frame.words + w.left) out ys) (same i * w.frame.words + j) 0)
          ∙ beside side ∙ (λ i. get_or out (sym same i * w.frame.words + j) 0)
      | inr other ↦
          let room = fits in
          let below : w.top + y < z = omega (arith, past, other) in
          let end = row_fits w.frame.words z (w.top + y) below in
          let apart : (w.top + y) * w.frame.words + w.left + f.words ≤ z * w.frame.words + j =
          omega (arith, end, wider.wide) in
          search (rules, places)
    ]
  ]
    where
      beside : (j < w.left) ⊎ (w.left + f.words ≤ j) → get_or (put_at ((w.top + y) * w.frame.words + w.left) out ys)
          ((w.top + y) * w.frame.words + j) 0 ≡ get_or out ((w.top + y) * w.frame.words + j) 0
      beside (inl before) = let room = fits in search (rules, places)
      beside (inr after) = let room = fits in search (rules, places)

one_if-bit : (n : ℕ) → n < 2 → n ≡ one_if (nat_eq n 1)
one_if-bit n lt = grind (arith, nat_tests)

-- rows that were copied hold the same set
pub copied_rows : (f : Frame) (w : Wider) (rows out : List ℕ) → IsFrame f → IsFrame w.frame
    → IsWider f w → f.height * f.words ≡ length rows → w.frame.height * w.frame.words ≡ length out
    → ((z j : ℕ) → z < f.height → j < f.words
    → get_or out ((w.top + z) * w.frame.words + (w.left + j)) 0 ≡ get_or rows (z * f.words + j) 0)
    → ((z j : ℕ) → z < w.frame.height → j < w.frame.words → IsBeside f w f.height z j
    → get_or out (z * w.frame.words + j) 0 ≡ 0)
    → framed w.frame out ≡ framed f rows
copied_rows f w rows out from to wider size long copied dead =
    rows_are w.frame.left w.frame.top (64 * w.frame.words) w.frame.height out (framed f rows)
    (omega (arith, to.wide)) (omega (arith, long)) inside at
  where
    inside : (c : Cell) → set.contains (framed f rows) c ≡ true
        → IsIn w.frame.left w.frame.top (64 * w.frame.words) w.frame.height c
    inside c h =
        let b = live_in f rows from.wide size c h in
        record {
          from_left = omega (arith, ints, b.from_left, wider.left);
          to_right = omega (arith, ints, b.to_right, wider.left, wider.wide);
          from_top = omega (arith, ints, b.from_top, wider.top);
          to_bottom = omega (arith, ints, b.to_bottom, wider.top, wider.tall);
        }

    outside : (x z : ℕ) → x < 64 * w.frame.words → z < w.frame.height → IsBeside f w f.height z (x / 64) → place out
        (z * (64 * w.frame.words) + x) ≡ one_if (set.contains (framed f rows) (cell_in w.frame.left w.frame.top x z))
    outside x z narrow low beside =
        place_in_row out w.frame.words x z ∙ ap (λ v. bit_at v (x % 64)) (dead z (x / 64) low (omega arith) beside)
        ∙ bit_at-zero (x % 64)
        ∙ ap one_if (sym (same_answer (set.contains (framed f rows) (cell_in w.frame.left w.frame.top x z)) false
        (λ h. absurd (away beside (live_in f rows from.wide size _ h))) (λ h. absurd (false≢true h))))
      where
        away : IsBeside f w f.height z (x / 64)
            → IsIn f.left f.top (64 * f.words) f.height (cell_in w.frame.left w.frame.top x z) → ⊥
        away (inl (inl above)) b = omega (arith, ints, b.from_top, wider.top, above)
        away (inl (inr below)) b = omega (arith, ints, b.to_bottom, wider.top, below)
        away (inr (inl before)) b = omega (arith, ints, b.from_left, wider.left, before)
        away (inr (inr after)) b = omega (arith, ints, b.to_right, wider.left, after)

    within : (x z : ℕ) → x / 64 < f.words → z < f.height
        → place out ((w.top + z) * (64 * w.frame.words) + (64 * w.left + x))
        ≡ one_if (set.contains (framed f rows) (cell_in w.frame.left w.frame.top (64 * w.left + x) (w.top + z)))
    within x z narrow low =
        let word : (64 * w.left + x) / 64 ≡ w.left + x / 64 = omega arith in
        let bit : (64 * w.left + x) % 64 ≡ x % 64 = omega arith in
        let cell : cell_in w.frame.left w.frame.top (64 * w.left + x) (w.top + z) ≡ cell_in f.left f.top x z =
        same_coordinates _ _ (omega (arith, ints, wider.top)) (omega (arith, ints, wider.left)) in
        place_in_row out w.frame.words (64 * w.left + x) (w.top + z)
        ∙ (λ i. bit_at (get_or out ((w.top + z) * w.frame.words + word i) 0) (bit i))
        ∙ ap (λ v. bit_at v (x % 64)) (copied z (x / 64) low narrow)
        ∙ sym (place_in_row rows f.words x z) ∙ one_if-bit (place rows (z * (64 * f.words) + x)) (bit_at-lt _ _)
        ∙ ap one_if
        (sym (ap (set.contains (framed f rows)) cell ∙ place_is_live f rows from.wide size x z (omega arith) low))

    at : (x z : ℕ) → x < 64 * w.frame.words → z < w.frame.height → place out (z * (64 * w.frame.words) + x)
        ≡ one_if (set.contains (framed f rows) (cell_in w.frame.left w.frame.top x z))
    at x z narrow low = elim (cases_lt z w.top) [
      | inl above ↦ outside x z narrow low (inl (inl above))
      | inr a ↦ elim (cases_lt z (w.top + f.height)) [
        | inr below ↦ outside x z narrow low (inl (inr below))
        | inl b ↦ elim (cases_lt (x / 64) w.left) [
          | inl before ↦ outside x z narrow low (inr (inl before))
          | inr d ↦ elim (cases_lt (x / 64) (w.left + f.words)) [
            | inr after ↦ outside x z narrow low (inr (inr after))
            | inl e ↦
                let column : 64 * w.left + (x - 64 * w.left) ≡ x = omega arith in
                let row : w.top + (z - w.top) ≡ z = omega arith in
                (λ i. place out (sym row i * (64 * w.frame.words) + sym column i))
                ∙ within (x - 64 * w.left) (z - w.top) (omega arith) (omega arith)
                ∙ (λ i. one_if (set.contains (framed f rows) (cell_in w.frame.left w.frame.top (column i) (row i))))
          ]
        ]
      ]
    ]
