-- Decoding the text of a normal set of at most 40 by 40 gives the set, which has at most 1600 cells.
use Rattle.std.proofs.Common.{◌≡◌, ℕ, zero, suc, ◌+◌, ◌*◌, ◌/◌, ◌%◌, ◌<◌, ◌≤◌, Bool, true, false, cond, List, [], ◌∷◌}
use Rattle.std.proofs.Common.{map, length, ℤ, pos, negsuc, refl, sym, ap, ◌∙◌, subst, arith, inl, inr, ⊎_elim}
use Rattle.std.specs.List.{range_with_len, filter}
use Rattle.std.specs.FinSet as set
use Rattle.std.proofs.lemmas.Bool.{false≢true, cases_lt, or_cases, or_left, or_right}
use Rattle.std.proofs.lemmas.List.{length-map}
use Rattle.std.proofs.lemmas.List.FromFn.{length-range_with_len}
use Rattle.std.proofs.lemmas.List.Sums.{length-filter, count_by-le-length}
use Rattle.life_core.specs.declared.cell.Cell.{Cell}
use Rattle.life_core.specs.Cell.{cell_cmp}
use Rattle.life_core.specs.Pattern.{Cells, normal}
use Rattle.life_core.proofs.PatternMembers.{cell_cmp_total, same_cell, same_cell-true, same_cell-self, same_answer}
use Rattle.life_core.proofs.PatternMembers.{has_cell, contains-list, cells_by_members}
use Rattle.life_core.proofs.PatternCorners.{Has, normal_low, normal-normal}
use Rattle.life_code.specs.Wechsler.{wechsler}
use Rattle.life_code.specs.Codes.{fits}
use Rattle.life_code.specs.DecodeState.{spells_cell, cell_of_index, decoded}
use Rattle.life_code.proofs.WechslerTexts.{cell, narrow, low, negative, within_width, within_height, read_wechsler}

-- a set of a list has at most as many cells as the list
len-from_list : (ks : List Cell) → set.len (set.from_list {R = cell_cmp} ks) ≤ length ks
len-from_list [] = let e = set.len-empty cell_cmp in omega arith
len-from_list (k ∷ ks) =
    let h = len-from_list ks in
    let e = set.len-insert cell_cmp_total (set.from_list ks) k in
    elim (set.contains (set.from_list {R = cell_cmp} ks) k) as (λ b. set.len (set.from_list {R = cell_cmp} (k ∷ ks))
    ≡ cond b (set.len (set.from_list {R = cell_cmp} ks)) (set.len (set.from_list {R = cell_cmp} ks) + 1)
    → set.len (set.from_list {R = cell_cmp} (k ∷ ks)) ≤ length (k ∷ ks)) [
      | true ↦ λ e. omega arith
      | false ↦ λ e. omega arith
    ] e

-- ---- the cells of the places that pass a test

-- a place below n that passes the test and has the cell
record IsPlace (p : ℕ → Bool) (n : ℕ) (c : Cell) : Type 0 where
  pub index : ℕ
  pub below : index < n
  pub passes : p index ≡ true
  pub cell_is : c ≡ cell_of_index index

module _ (p : ℕ → Bool) where
  -- the cells of n places from a on
  abbrev cells_from : ℕ → ℕ → List Cell
  cells_from a n = map cell_of_index (filter p (range_with_len a n))

  -- a cell among them is one of a place that passes
  found_place : (a n : ℕ) (c : Cell) → has_cell (cells_from a n) c ≡ true → IsPlace p (a + n) c
  found_place a zero c h = absurd (false≢true h)
  found_place a (suc n) c h =
      elim (p a) as (λ b. p a ≡ b → has_cell (map cell_of_index (cond b (a ∷ filter p (range_with_len (a + 1) n))
      (filter p (range_with_len (a + 1) n)))) c ≡ true → IsPlace p (a + suc n) c) [
        | true ↦ λ e h. elim (or_cases (same_cell c (cell_of_index a)) (has_cell (cells_from (a + 1) n) c) h) [
          | inl here ↦
              record { index = a; below = omega arith; passes = e; cell_is = same_cell-true c (cell_of_index a) here }
          | inr there ↦ further a n c (found_place (a + 1) n c there)
        ]
        | false ↦ λ e h. further a n c (found_place (a + 1) n c h)
      ] refl h
    where
      further : (a n : ℕ) (c : Cell) → IsPlace p (a + 1 + n) c → IsPlace p (a + suc n) c
      further a n c found = record {
        index = found.index;
        below = let h = found.below in omega arith;
        passes = found.passes;
        cell_is = found.cell_is;
      }

  -- the cell of a place that passes is among them
  place_found : (a n i : ℕ) → a ≤ i → i < a + n → p i ≡ true → has_cell (cells_from a n) (cell_of_index i) ≡ true
  place_found a zero i from below e = absurd (omega arith)
  place_found a (suc n) i from below e = ⊎_elim
      (λ after.
      let there : has_cell (cells_from (a + 1) n) (cell_of_index i) ≡ true =
      place_found (a + 1) n i (omega arith) (omega arith) e in
      elim (p a) as (λ b. has_cell (map cell_of_index (cond b (a ∷ filter p (range_with_len (a + 1) n))
      (filter p (range_with_len (a + 1) n)))) (cell_of_index i) ≡ true) [
        | true ↦
            or_right (same_cell (cell_of_index i) (cell_of_index a))
            (has_cell (cells_from (a + 1) n) (cell_of_index i)) there
        | false ↦ there
      ])
      (λ until.
      let at : i ≡ a = omega arith in
      subst (λ b. has_cell (map cell_of_index (cond b (a ∷ filter p (range_with_len (a + 1) n))
      (filter p (range_with_len (a + 1) n)))) (cell_of_index i) ≡ true) (sym e ∙ ap p at)
      (or_left (same_cell (cell_of_index i) (cell_of_index a)) (has_cell (cells_from (a + 1) n) (cell_of_index i))
      (ap (λ k. same_cell (cell_of_index k) (cell_of_index a)) at ∙ same_cell-self (cell_of_index a))))
      (cases_lt a i)

  -- a set whose cells all have places below n is the set of the cells of the places below n that it has
  set_of_places : (X : Cells) (n : ℕ) → ((i : ℕ) → p i ≡ set.contains X (cell_of_index i))
      → ((c : Cell) → Has X c → (i : ℕ) × (i < n) × (c ≡ cell_of_index i))
      → set.from_list {R = cell_cmp} (cells_from 0 n) ≡ X
  set_of_places X n tests index = cells_by_members _ _ (λ c. same_answer _ _ (is_in c) (is_found c))
    where
      is_in : (c : Cell) → set.contains (set.from_list {R = cell_cmp} (cells_from 0 n)) c ≡ true → Has X c
      is_in c h =
          let found = found_place 0 n c (sym (contains-list (cells_from 0 n) c) ∙ h) in
          ap (set.contains X) found.cell_is ∙ sym (tests found.index) ∙ found.passes

      is_found : (c : Cell) → Has X c → set.contains (set.from_list {R = cell_cmp} (cells_from 0 n)) c ≡ true
      is_found c has =
          let at = index c has in
          contains-list (cells_from 0 n) c
          ∙ ap (has_cell (cells_from 0 n)) at.2
          ∙ place_found 0 n at.0 (omega arith) (let h = at.1 in omega arith)
          (tests at.0 ∙ ap (set.contains X) (sym at.2) ∙ has)

  -- it has at most n cells
  few_places : (n : ℕ) → set.len (set.from_list {R = cell_cmp} (cells_from 0 n)) ≤ n
  few_places n =
      let h = len-from_list (cells_from 0 n) in
      let e = length-map (filter p (range_with_len 0 n)) cell_of_index in
      let f = length-filter p (range_with_len 0 n) in
      let g = count_by-le-length p (range_with_len 0 n) in
      let m = length-range_with_len 0 n in
      omega arith

-- ---- decoding

-- the place of a cell of a normal set of at most 40 by 40
place_of : (X : Cells) → normal X ≡ X → fits X ≡ true → (row column : ℤ) → Has X (record { row = row; column = column })
    → (i : ℕ) × (i < 1600) × (record { row = row; column = column } ≡ cell_of_index i)
place_of X at_origin small (pos y) (pos x) has =
    let a = within_width X (cell x y) has in
    let b = within_height X (cell x y) has in
    let m = narrow X small in
    let n = low X small in
    (40 * y + x, omega arith, λ i. cell (column_of y x (omega arith) i) (row_of y x (omega arith) i))
  where
    row_of : (y x : ℕ) → x < 40 → y ≡ (40 * y + x) / 40
    row_of y x h = omega arith

    column_of : (y x : ℕ) → x < 40 → x ≡ (40 * y + x) % 40
    column_of y x h = omega arith
place_of X at_origin small (negsuc y) b has =
    absurd (negative y (normal_low X (record { row = negsuc y; column = b })
    (ap (λ (Z : Cells). set.contains Z (record { row = negsuc y; column = b })) at_origin ∙ has)).1)
place_of X at_origin small (pos y) (negsuc x) has =
    absurd (negative x (normal_low X (record { row = pos y; column = negsuc x })
    (ap (λ (Z : Cells). set.contains Z (record { row = pos y; column = negsuc x })) at_origin ∙ has)).0)

-- what is decoded from the text of a normal set is the set
pub decoded_wechsler : (X : Cells) → normal X ≡ X → fits X ≡ true → decoded (wechsler X) ≡ X
unfolding decoded
decoded_wechsler X at_origin small =
    set_of_places (λ i. spells_cell 0 false (wechsler X) (i % 40) (i / 40)) X 1600
    (λ i. read_wechsler X (narrow X small) (i % 40) (i / 40)) (λ c has. place_of X at_origin small c.row c.column has)

-- what is decoded has at most 1600 cells
pub len-decoded : (text : List ℕ) → set.len (decoded text) ≤ 1600
unfolding decoded
len-decoded text = few_places (λ i. spells_cell 0 false text (i % 40) (i / 40)) 1600

-- a normal set of at most 40 by 40 has at most 1600 cells
pub len_small : (X : Cells) → fits (normal X) ≡ true → set.len (normal X) ≤ 1600
len_small X small =
    let e = ap set.len (decoded_wechsler (normal X) (normal-normal X) small) in
    let h = len-decoded (wechsler (normal X)) in
    omega arith
