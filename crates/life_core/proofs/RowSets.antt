-- Three rows of packed words as a set of cells.
use Rattle.std.specs.Prelude.{◌≡◌, ◌≢◌, ℕ, ℤ, pos, negsuc, ◌+◌, ◌-◌, ◌*◌, ◌/◌, ◌%◌, ◌<◌, ◌+ℤ◌, zero, suc, true, false}
use Rattle.std.specs.Prelude.{◌&&◌, ◌||◌, cond, nat_eq, List, ◌++◌, length, refl}
use Rattle.std.proofs.Common.{sym, ap, ◌∙◌, inl, inr, arith}
use Rattle.std.specs.Int.{bit_at}
use Rattle.std.proofs.lemmas.Int.{ints}
use Rattle.std.specs.List.{list_any, range_with_len}
use Rattle.std.proofs.lemmas.List.{get_or_past}
use Rattle.std.proofs.lemmas.List.Folds.{list_any-append}
use Rattle.std.proofs.lemmas.Nat.Bits.{bit_at-zero}
use Rattle.std.proofs.lemmas.Bool.{false≢true, cases_lt, and_parts, and_from, lt-ltb}
use Rattle.std.proofs.lemmas.Bool.Decides.{nat_tests}
use Rattle.std.specs.FinSet as set
use Rattle.life_core.specs.declared.cell.Cell.{Cell}
use Rattle.life_core.specs.Cell.{cell_at, moved_cell}
use Rattle.life_core.specs.Pattern.{Cells}
use Rattle.life_core.specs.Rule.{lives_at}
use Rattle.life_core.specs.Generations.{neighbour_count}
use Rattle.life_core.specs.PackedRow.{one_if, place, place_before, round_count}
use Rattle.life_core.specs.PackedRowSets.{row_cells, cells_of_rows, PlacesAreNext}
use Rattle.life_core.proofs.CellLemmas.{same_coordinates}
use Rattle.life_core.proofs.PatternMembers.{has_cell, same_cell, same_answer, same_cell-true, same_cell-self}
use Rattle.life_core.proofs.PatternMembers.{contains-list}
use Rattle.life_core.proofs.GenerationsLaws.{contains-next}
use Rattle.life_core.proofs.LanePlaces.{place-lt}
use Rattle.life_core.proofs.PackedPlaces.{passing_from, passing_place, list_any-filtered, list_any-mapped}
use Rattle.life_core.proofs.PackedSteps.{counted_eight, one_if-true}

-- ---- one row

has-row_cells : (y : ℤ) (ws : List ℕ) (c : Cell) → has_cell (row_cells y ws) c
    ≡ list_any (λ p. nat_eq (place ws p) 1 && same_cell c (cell_at (pos p, y))) (range_with_len 0 (64 * length ws))
has-row_cells y ws c =
    list_any-mapped (same_cell c) (λ p. cell_at (pos p, y)) _ ∙ list_any-filtered
    (λ p. same_cell c (cell_at (pos p, y))) (λ p. nat_eq (place ws p) 1) (range_with_len 0 (64 * length ws))

-- a place that is set, whose cell is c
record SetPlace (y : ℤ) (ws : List ℕ) (c : Cell) : Type 0 where
  at : ℕ
  live : nat_eq (place ws at) 1 ≡ true
  row : c.row ≡ y
  column : c.column ≡ pos at

set_place : (y : ℤ) (ws : List ℕ) (c : Cell) → has_cell (row_cells y ws) c ≡ true → SetPlace y ws c
set_place y ws c h =
    let found = passing_place (λ p. nat_eq (place ws p) 1 && same_cell c (cell_at (pos p, y))) 0
    (64 * length ws) (sym (has-row_cells y ws c) ∙ h) in
    let parts = and_parts (nat_eq (place ws found.place) 1) (same_cell c (cell_at (pos found.place, y))) found.passes in
    let same = same_cell-true c (cell_at (pos found.place, y)) parts.1 in
    record {
      at = found.place;
      live = parts.0;
      row = ap (λ (d : Cell). d.row) same;
      column = ap (λ (d : Cell). d.column) same;
    }

lacks_cell : (y : ℤ) (ws : List ℕ) (c : Cell) → (SetPlace y ws c → false ≡ true) → has_cell (row_cells y ws) c ≡ false
lacks_cell y ws c none = same_answer _ _ (λ h. none (set_place y ws c h)) (λ h. absurd (false≢true h))

lacks_row : (y : ℤ) (ws : List ℕ) (c : Cell) → c.row ≢ y → has_cell (row_cells y ws) c ≡ false
lacks_row y ws c other = lacks_cell y ws c (λ f. absurd (other f.row))

lacks_column : (y : ℤ) (ws : List ℕ) (c : Cell) (x : ℕ) → c.column ≡ negsuc x → has_cell (row_cells y ws) c ≡ false
lacks_column y ws c x left =
    lacks_cell y ws c (λ f. absurd (let e : negsuc x ≡ pos f.at = sym left ∙ f.column in omega (arith, ints)))

has_place : (y : ℤ) (ws : List ℕ) (c : Cell) (x : ℕ) → c.row ≡ y → c.column ≡ pos x
    → has_cell (row_cells y ws) c ≡ nat_eq (place ws x) 1
has_place y ws c x row column = same_answer _ _ out back
  where
    out : has_cell (row_cells y ws) c ≡ true → nat_eq (place ws x) 1 ≡ true
    out h =
        let f = set_place y ws c h in
        let e : pos f.at ≡ pos x = sym f.column ∙ column in
        let same : f.at ≡ x = omega (arith, ints) in
        ap (λ p. nat_eq (place ws p) 1) (sym same) ∙ f.live

    inside : nat_eq (place ws x) 1 ≡ true → x < 64 * length ws
    inside h = elim (cases_lt x (64 * length ws)) [
      | inl low ↦ low
      | inr past ↦
          let dead : place ws x ≡ 0 = ap (λ w. bit_at w (x % 64)) (get_or_past ws (x / 64) 0 (omega arith))
          ∙ bit_at-zero (x % 64) in
          absurd (false≢true (sym (ap (λ n. nat_eq n 1) dead) ∙ h))
    ]

    back : nat_eq (place ws x) 1 ≡ true → has_cell (row_cells y ws) c ≡ true
    back h =
        let lt : x < 0 + 64 * length ws = omega (arith, inside h) in
        let at : c ≡ cell_at (pos x, y) = same_coordinates c _ row column in
        has-row_cells y ws c ∙ passing_from _ 0 (64 * length ws) x (omega arith) lt
        (and_from _ _ h (ap (same_cell c) (sym at) ∙ same_cell-self c))

-- ---- three rows

in_rows : (above here below : List ℕ) (c : Cell)
    → set.contains (cells_of_rows above here below) c ≡ (has_cell (row_cells (negsuc 0) above) c
    || (has_cell (row_cells (pos 0) here) c || has_cell (row_cells (pos 1) below) c))
in_rows above here below c =
    contains-list (row_cells (negsuc 0) above ++ (row_cells (pos 0) here ++ row_cells (pos 1) below)) c
    ∙ list_any-append (same_cell c) (row_cells (negsuc 0) above) (row_cells (pos 0) here ++ row_cells (pos 1) below)
    ∙ ap (λ b. has_cell (row_cells (negsuc 0) above) c || b)
    (list_any-append (same_cell c) (row_cells (pos 0) here) (row_cells (pos 1) below))

set_or_not : (b : ℕ) → b < 2 → one_if (nat_eq b 1 || false) ≡ b
set_or_not b lt = grind (arith, nat_tests)

set_alone : (b : ℕ) → b < 2 → one_if (nat_eq b 1) ≡ b
set_alone b lt = grind (arith, nat_tests)

-- row y of the set X has the places of a row of words
record IsRowOf (X : Cells) (y : ℤ) (ws : List ℕ) : Type 0 where
  places : (c : Cell) (x : ℕ) → c.row ≡ y → c.column ≡ pos x → place ws x ≡ one_if (set.contains X c)
  outside : (c : Cell) (x : ℕ) → c.row ≡ y → c.column ≡ negsuc x → 0 ≡ one_if (set.contains X c)

outside : (above here below : List ℕ) (c : Cell) (x : ℕ) → c.column ≡ negsuc x
    → 0 ≡ one_if (set.contains (cells_of_rows above here below) c)
outside above here below c x column =
    sym (ap one_if (in_rows above here below c) ∙ (λ t. one_if (lacks_column (negsuc 0) above c x column t
    || (lacks_column (pos 0) here c x column t || lacks_column (pos 1) below c x column t))))

row_above : (above here below : List ℕ) → IsRowOf (cells_of_rows above here below) (negsuc 0) above
row_above above here below = record {
  places = λ c x row column. sym (ap one_if (in_rows above here below c)
      ∙ (λ t. one_if (has_place (negsuc 0) above c x row column t || (lacks_row (pos 0) here c
      (λ e. omega (arith, ints, row, e)) t || lacks_row (pos 1) below c (λ e. omega (arith, ints, row, e)) t)))
      ∙ set_or_not (place above x) (place-lt above x));
  outside = λ c x row column. outside above here below c x column;
}

row_here : (above here below : List ℕ) → IsRowOf (cells_of_rows above here below) (pos 0) here
row_here above here below = record {
  places = λ c x row column. sym (ap one_if (in_rows above here below c)
      ∙ (λ t. one_if (lacks_row (negsuc 0) above c (λ e. omega (arith, ints, row, e)) t
      || (has_place (pos 0) here c x row column t || lacks_row (pos 1) below c (λ e. omega (arith, ints, row, e)) t)))
      ∙ set_or_not (place here x) (place-lt here x));
  outside = λ c x row column. outside above here below c x column;
}

row_below : (above here below : List ℕ) → IsRowOf (cells_of_rows above here below) (pos 1) below
row_below above here below = record {
  places = λ c x row column. sym (ap one_if (in_rows above here below c)
      ∙ (λ t. one_if (lacks_row (negsuc 0) above c (λ e. omega (arith, ints, row, e)) t
      || (lacks_row (pos 0) here c (λ e. omega (arith, ints, row, e)) t || has_place (pos 1) below c x row column t)))
      ∙ set_alone (place below x) (place-lt below x));
  outside = λ c x row column. outside above here below c x column;
}

-- the place one before, which may lie outside the row
one_before : (X : Cells) (y : ℤ) (ws : List ℕ) → IsRowOf X y ws → (c : Cell) (x : ℕ) → c.row ≡ y
    → c.column ≡ pos x +ℤ negsuc 0 → place_before ws x ≡ one_if (set.contains X c)
one_before X y ws row c zero at column = row.outside c 0 at column
one_before X y ws row c (suc x) at column =
    let own : c.column ≡ pos (suc x - 1) =
    (let e : pos (suc x) +ℤ negsuc 0 ≡ pos (suc x - 1) = omega (arith, ints) in column ∙ e) in
    ap (λ b. cond b (place ws (suc x - 1)) 0) (lt-ltb 0 (suc x) (omega arith)) ∙ row.places c (suc x - 1) at own

pub places_are_next : PlacesAreNext
places_are_next r above here below p quiet =
    let S = cells_of_rows above here below in
    let c = cell_at (pos p, pos 0) in
    let up = row_above above here below in
    let mid = row_here above here below in
    let down = row_below above here below in
    let right : pos p +ℤ pos 1 ≡ pos (p + 1) = omega (arith, ints) in
    let same : pos p +ℤ pos 0 ≡ pos p = omega (arith, ints) in
    let at = λ (dx dy : ℤ). moved_cell dx dy c in
    let count : round_count above here below p ≡ neighbour_count S c =
    (λ i. one_before S (negsuc 0) above up (at (negsuc 0) (negsuc 0)) p refl refl i
    + (up.places (at (pos 0) (negsuc 0)) p refl same i + (up.places (at (pos 1) (negsuc 0)) (p + 1) refl right i
    + (one_before S (pos 0) here mid (at (negsuc 0) (pos 0)) p refl refl i
    + (mid.places (at (pos 1) (pos 0)) (p + 1) refl right i
    + (one_before S (pos 1) below down (at (negsuc 0) (pos 1)) p refl refl i
    + (down.places (at (pos 0) (pos 1)) p refl same i + down.places (at (pos 1) (pos 1)) (p + 1) refl right i)))))))
    ∙ sym (counted_eight (set.contains S) (at (negsuc 0) (negsuc 0)) (at (pos 0) (negsuc 0)) (at (pos 1) (negsuc 0))
    (at (negsuc 0) (pos 0)) (at (pos 1) (pos 0)) (at (negsuc 0) (pos 1)) (at (pos 0) (pos 1)) (at (pos 1) (pos 1))) in
    let live : nat_eq (place here p) 1 ≡ set.contains S c = ap (λ n. nat_eq n 1) (mid.places c p refl refl)
    ∙ one_if-true (set.contains S c) in
    (λ i. one_if (lives_at r (live i) (count i))) ∙ ap one_if (sym (contains-next r S c quiet))
