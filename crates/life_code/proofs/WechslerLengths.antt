-- A bound on the length of a set's text.
use Rattle.std.proofs.Common.{◌≡◌, ℕ, zero, suc, ◌+◌, ◌*◌, ◌/◌, ◌<◌, ◌≤◌, true, false, cond, List, [], ◌∷◌, ◌++◌}
use Rattle.std.proofs.Common.{length, length-append, map, ap, arith}
use Rattle.std.specs.Prelude.{nat_eq}
use Rattle.std.specs.List.{AllByRecursion, range_with_len, join_with_byte}
use Rattle.std.proofs.lemmas.List.FromFn.{length-map-range_with_len}
use Rattle.life_core.specs.Pattern.{Cells}
use Rattle.life_code.specs.Wechsler.{character, zero_run, spelled, column_value, width, height, strip, wechsler}
use Rattle.life_code.specs.Codes.{fits}
use Rattle.life_code.specs.Open.{IsWechsler}
use Rattle.life_code.proofs.WechslerReading.{zero_run_long}
use Rattle.life_code.proofs.WechslerTexts.{narrow, low}

-- a run of zero columns has no more characters than columns
run_short : (n : ℕ) → length (zero_run n) ≤ n
run_short zero = omega arith
run_short (suc zero) = omega arith
run_short (suc (suc zero)) = omega arith
run_short (suc (suc (suc zero))) = omega arith
run_short (suc (suc (suc (suc n)))) =
    let two = ap length (zero_run_long (suc (suc (suc (suc n)))) (omega arith)) in omega (arith, two)

-- nor has a strip
spelled_short : (n : ℕ) (values : List ℕ) → length (spelled n values) ≤ n + length values
unfolding spelled
spelled_short n [] = omega arith
spelled_short n (value ∷ values) =
    elim (nat_eq value 0) as (λ b. length (cond b (spelled (n + 1) values)
    (zero_run n ++ character value ∷ spelled 0 values)) ≤ n + length (value ∷ values)) [
      | true ↦ omega (arith, spelled_short (n + 1) values)
      | false ↦
          let both = length-append (zero_run n) (character value ∷ spelled 0 values) in
          omega (arith, both, run_short n, spelled_short 0 values)
    ]

strips_short : (X : Cells) → width X ≤ 40 → (a n : ℕ)
    → AllByRecursion (λ t. length t ≤ 40) (map (strip X) (range_with_len a n))
unfolding strip
strips_short X few a zero = tt
strips_short X few a (suc n) =
    let columns = length-map-range_with_len (column_value X a) 0 (width X) in (
      omega (arith, few, columns, spelled_short 0 (map (column_value X a) (range_with_len 0 (width X)))),
      strips_short X few (a + 1) n,
    )

joined_short : (strips : List (List ℕ)) → AllByRecursion (λ t. length t ≤ 40) strips
    → length (join_with_byte 122 strips) ≤ 41 * length strips
joined_short [] h = omega arith
joined_short (text ∷ []) h = omega (arith, h.0)
joined_short (text ∷ next ∷ strips) h =
    let both = length-append text (122 ∷ join_with_byte 122 (next ∷ strips)) in
    omega (arith, both, h.0, joined_short (next ∷ strips) h.1)

-- the text has at most eight strips, each with at most 40 characters and a `z`
text_short : (X : Cells) → fits X ≡ true → length (wechsler X) ≤ 328
unfolding wechsler
text_short X small =
    let strips = length-map-range_with_len (strip X) 0 ((height X + 4) / 5) in
    omega (arith, strips, low X small, joined_short _ (strips_short X (narrow X small) 0 ((height X + 4) / 5)))

-- a longer text spells nothing
pub long_spells : (text : List ℕ) → 328 < length text → (X : Cells) → IsWechsler text X → ⊥
long_spells text long X w = let same = ap length w.text_is in absurd (omega (arith, same, long, text_short X w.small))
