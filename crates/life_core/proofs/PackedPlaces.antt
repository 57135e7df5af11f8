-- The members of the set that rows of packed words represent.
use Rattle.std.specs.Prelude.{◌≡◌, ℕ, ◌+◌, ◌*◌, ◌/◌, ◌%◌, ◌<◌, ◌≤◌, ℤ, pos, negsuc, ◌+ℤ◌, ◌-ℤ◌, Bool, true, false, ◌&&◌}
use Rattle.std.specs.Prelude.{◌||◌, cond, nat_eq, nat_lt, List, [], ◌∷◌, map, length, zero, suc, refl}
use Rattle.std.proofs.Common.{sym, ap, ◌∙◌, inl, inr, arith}
use Rattle.std.proofs.lemmas.Int.{ints}
use Rattle.std.specs.List.{filter, list_any, range_with_len}
use Rattle.std.proofs.lemmas.Bool.{false≢true, or_cases, or_left, or_right, and_parts, and_from, lt-ltb, ltb-true}
use Rattle.std.proofs.lemmas.Bool.{cases_eq}
use Rattle.std.proofs.lemmas.Nat.{div-mul-add, mod-mul-add}
use Rattle.std.specs.FinSet as set
use Rattle.life_core.specs.declared.cell.Cell.{Cell}
use Rattle.life_core.specs.PackedRow.{place}
use Rattle.life_core.specs.PackedFrameState.{cell_of, set_places, cells_of, bit_in}
use Rattle.life_core.proofs.CellLemmas.{same_coordinates}
use Rattle.life_core.proofs.PatternMembers.{same_cell, same_answer, same_cell-true, same_cell-self, contains-list}

pub passing_from : (t : ℕ → Bool) (a n p : ℕ) → a ≤ p → p < a + n → t p ≡ true → list_any t (range_with_len a n) ≡ true
passing_from t a zero p le lt h = absurd (omega arith)
passing_from t a (suc n) p le lt h = elim (cases_eq a p) [
  | inl same ↦ or_left (t a) (list_any t (range_with_len (a + 1) n)) (ap t same ∙ h)
  | inr other ↦
      or_right (t a) (list_any t (range_with_len (a + 1) n)) (passing_from t (a + 1) n p (omega arith) (omega arith) h)
]

-- a number of a range that passes a test
pub record PassingPlace (t : ℕ → Bool) (a n : ℕ) : Type 0 where
  pub place : ℕ
  pub inside : place < a + n
  pub passes : t place ≡ true

pub passing_place : (t : ℕ → Bool) (a n : ℕ) → list_any t (range_with_len a n) ≡ true → PassingPlace t a n
passing_place t a zero h = absurd (false≢true h)
passing_place t a (suc n) h = elim (or_cases (t a) (list_any t (range_with_len (a + 1) n)) h) [
  | inl here ↦ record { place = a; inside = omega arith; passes = here }
  | inr there ↦
      let rest = passing_place t (a + 1) n there in
      let lt : rest.place < (a + 1) + n = rest.inside in
      record { place = rest.place; inside = omega arith; passes = rest.passes }
]

pub list_any-filtered : (t q : ℕ → Bool) (ps : List ℕ) → list_any t (filter q ps) ≡ list_any (λ p. q p && t p) ps
list_any-filtered t q [] = refl
list_any-filtered t q (p ∷ ps) =
    elim (q p)
    as (λ b. list_any t (cond b (p ∷ filter q ps) (filter q ps)) ≡ ((b && t p) || list_any (λ r. q r && t r) ps)) [
      | true ↦ ap (λ b. t p || b) (list_any-filtered t q ps)
      | false ↦ list_any-filtered t q ps
    ]

pub list_any-mapped : (t : Cell → Bool) (f : ℕ → Cell) (ps : List ℕ)
    → list_any t (map f ps) ≡ list_any (λ p. t (f p)) ps
list_any-mapped t f [] = refl
list_any-mapped t f (p ∷ ps) = ap (λ b. t (f p) || b) (list_any-mapped t f ps)

pub contains-rows : (left top : ℤ) (width : ℕ) (words : List ℕ) (c : Cell) → 0 < width
    → set.contains (cells_of left top width words) c ≡ bit_in width words (c.column -ℤ left) (c.row -ℤ top)
contains-rows left top width words c wide =
    contains-list (map (cell_of left top width) (set_places words)) c
    ∙ list_any-mapped (same_cell c) (cell_of left top width) (set_places words)
    ∙ list_any-filtered (λ p. same_cell c (cell_of left top width p)) (λ p. nat_eq (place words p) 1)
    (range_with_len 0 (64 * length words))
    ∙ same_answer _ _ out (back (c.column -ℤ left) (c.row -ℤ top) (omega (arith, ints)) (omega (arith, ints)))
  where
    out : list_any (λ p. nat_eq (place words p) 1 && same_cell c (cell_of left top width p))
        (range_with_len 0 (64 * length words)) ≡ true → bit_in width words (c.column -ℤ left) (c.row -ℤ top) ≡ true
    out h =
        let found = passing_place (λ p. nat_eq (place words p) 1 && same_cell c (cell_of left top width p)) 0
        (64 * length words) h in
        let p = found.place in
        let parts = and_parts (nat_eq (place words p) 1) (same_cell c (cell_of left top width p)) found.passes in
        let same = same_cell-true c (cell_of left top width p) parts.1 in
        let column : c.column ≡ left +ℤ pos (p % width) = ap (λ (d : Cell). d.column) same in
        let row : c.row ≡ top +ℤ pos (p / width) = ap (λ (d : Cell). d.row) same in
        let x : c.column -ℤ left ≡ pos (p % width) = omega (arith, ints) in
        let y : c.row -ℤ top ≡ pos (p / width) = omega (arith, ints) in
        let narrow : p % width < width = omega arith in
        let whole : p / width * width + p % width ≡ p = omega arith in
        let lt : p < 0 + 64 * length words = found.inside in
        let below : p / width * width + p % width < 64 * length words = omega arith in
        (λ i. bit_in width words (x i) (y i)) ∙ and_from _ _ (lt-ltb (p % width) width narrow)
        (and_from _ _ (lt-ltb (p / width * width + p % width) (64 * length words) below)
        (ap (λ n. nat_eq (place words n) 1) whole ∙ parts.0))

    back : (dx dy : ℤ) → c.column ≡ left +ℤ dx → c.row ≡ top +ℤ dy → bit_in width words dx dy ≡ true
        → list_any (λ p. nat_eq (place words p) 1 && same_cell c (cell_of left top width p))
        (range_with_len 0 (64 * length words)) ≡ true
    back (negsuc x) dy column row h = absurd (false≢true h)
    back (pos x) (negsuc y) column row h = absurd (false≢true h)
    back (pos x) (pos y) column row h =
        let parts = and_parts (nat_lt x width) _ h in
        let inner = and_parts (nat_lt (y * width + x) (64 * length words)) _ parts.1 in
        let narrow : x < width = ltb-true x width parts.0 in
        let below : y * width + x < 64 * length words = ltb-true _ _ inner.0 in
        let at_column : (y * width + x) % width ≡ x = mod-mul-add y width x narrow in
        let at_row : (y * width + x) / width ≡ y = div-mul-add y width x narrow in
        let at : c ≡ cell_of left top width (y * width + x) = same_coordinates c _
        (row ∙ ap (λ n. top +ℤ pos n) (sym at_row)) (column ∙ ap (λ n. left +ℤ pos n) (sym at_column)) in
        passing_from _ 0 (64 * length words) (y * width + x) (omega arith) (omega arith)
        (and_from _ _ inner.1 (ap (same_cell c) (sym at) ∙ same_cell-self c))
