-- The body that is written for cells in order is read as these cells.
use Rattle.std.proofs.Common.{◌≡◌, ℕ, ◌<◌, ◌≤◌, ◌+◌, ◌-◌, cond, eqb, List, [], ◌∷◌, ◌++◌, refl, ap, ◌∙◌, sym, arith, Ok}
use Rattle.std.proofs.Common.{inl, inr, ◌⊎◌, subst}
use Rattle.std.proofs.lemmas.List.{append_assoc, append-nil}
use Rattle.std.proofs.lemmas.List.Concat.{flat_map-append}
use Rattle.std.proofs.lemmas.Bool.{cases_eq, ne_eqb, eq-eqb}
use Rattle.life_rle.specs.Body.{run, body_cells}
use Rattle.life_rle.specs.BodyState.{start, step, body_from}
use Rattle.life_rle.specs.Writer.{item_texts}
use Rattle.life_rle.specs.WriterState.{counted, texts_from, InOrder}
use Rattle.life_rle.proofs.RecordPairs.{AllInside}
use Rattle.life_rle.proofs.BodyPositions.{run_more}
use Rattle.life_rle.proofs.WriterRuns.{texts_none, texts_same, texts_gap}
use Rattle.life_rle.proofs.WriterLemmas.{some_gap_row, some_gap_column}
use Rattle.life_rle.proofs.RoundItems.{between, joined, dead_read, row_read, no_row_read, live_read}
use Rattle.life_rle.proofs.BodyLaws.{body_next, body_from_start}

end_read : (row column : ℕ) (cells : List (ℕ × ℕ)) → body_from (between row column cells) (33 ∷ []) ≡ Ok cells
unfolding step
end_read row column cells = sym (sym (body_next (between row column cells) 33 []))

-- down and along to a cell
gap_read : (row column : ℕ) (cell : ℕ × ℕ) (cells : List (ℕ × ℕ)) (rest : List ℕ) → row ≤ cell.1
    → (row ≡ cell.1 → column ≤ cell.0) → cell.0 < 1024 → cell.1 < 1024 →
    body_from (between row column cells)
    (joined (counted (cell.1 - row) 36) ++ (joined (counted (cell.0 - cond (eqb cell.1 row) column 0) 98) ++ rest))
    ≡ body_from (between cell.1 cell.0 cells) rest
gap_read row column cell cells rest low order inside_x inside_y = elim (cases_eq cell.1 row) [
  | inl same ↦
      let along : column ≤ cell.0 = order (sym same) in
      no_row_read (cell.1 - row) row column cells _ (omega arith)
      ∙ ap (λ b. body_from (between row column cells) (joined (counted (cell.0 - cond b column 0) 98) ++ rest))
      (eq-eqb cell.1 row same)
      ∙ dead_read (cell.0 - column) row column cells rest (omega arith)
      ∙ ap (λ c. body_from (between row c cells) rest) (let e : column + (cell.0 - column) ≡ cell.0 = omega arith in e)
      ∙ ap (λ r. body_from (between r cell.0 cells) rest) (sym same)
  | inr other ↦
      row_read (cell.1 - row) row column cells _ (omega arith) (omega arith)
      ∙ ap (λ r. body_from (between r 0 cells) (joined (counted (cell.0 - cond (eqb cell.1 row) column 0) 98) ++ rest))
      (let e : row + (cell.1 - row) ≡ cell.1 = omega arith in e)
      ∙ ap (λ b. body_from (between cell.1 0 cells) (joined (counted (cell.0 - cond b column 0) 98) ++ rest))
      (ne_eqb cell.1 row other)
      ∙ dead_read (cell.0 - 0) cell.1 0 cells rest (omega arith)
      ∙ ap (λ c. body_from (between cell.1 c cells) rest) (let e : 0 + (cell.0 - 0) ≡ cell.0 = omega arith in e)
]

pub joined_four : (a b c d : List (List ℕ)) (rest : List ℕ)
    → joined (a ++ (b ++ (c ++ d))) ++ rest ≡ joined a ++ (joined b ++ (joined c ++ (joined d ++ rest)))
joined_four a b c d rest =
    ap (λ t. t ++ rest) (flat_map-append (λ (t : List ℕ). t) a (b ++ (c ++ d)))
    ∙ append_assoc (joined a) (joined (b ++ (c ++ d))) rest
    ∙ ap (λ t. joined a ++ t) (ap (λ t. t ++ rest) (flat_map-append (λ (t : List ℕ). t) b (c ++ d))
    ∙ append_assoc (joined b) (joined (c ++ d)) rest
    ∙ ap (λ t. joined b ++ t) (ap (λ t. t ++ rest) (flat_map-append (λ (t : List ℕ). t) c d)
    ∙ append_assoc (joined c) (joined d) rest))

pub here_or_not : (cell : ℕ × ℕ) (row column : ℕ)
    → ((cell.1 ≡ row) × (cell.0 ≡ column)) ⊎ ((cell.1 ≡ row → ⊥) ⊎ ((cell.1 ≡ row) × (cell.0 ≡ column → ⊥)))
here_or_not cell row column = elim (cases_eq cell.1 row) [
  | inl same ↦ elim (cases_eq cell.0 column) [ inl here ↦ inl (same, here) | inr other ↦ inr (inr (same, other)) ]
  | inr other ↦ inr (inl other)
]

run_and_cell : (before cells : List (ℕ × ℕ)) (live row from : ℕ) (cell : ℕ × ℕ) → cell.1 ≡ row
    → cell.0 ≡ from + live → before ++ run from row (live + 1) ++ cells ≡ before ++ run from row live ++ cell ∷ cells
run_and_cell before cells live row from cell same_row same_column =
    ap (λ r. before ++ r ++ cells) (run_more from row live)
    ∙ ap (λ r. r ++ cells) (sym (append_assoc before (run from row live) ((from + live, row) ∷ [])))
    ∙ append_assoc (before ++ run from row live) ((from + live, row) ∷ []) cells
    ∙ ap (λ x. before ++ run from row live ++ (x, row) ∷ cells) (sym same_column)
    ∙ ap (λ y. before ++ run from row live ++ (cell.0, y) ∷ cells) (sym same_row)

pub order_on : (cells : List (ℕ × ℕ)) (live row from : ℕ) (cell : ℕ × ℕ) → cell.1 ≡ row → cell.0 ≡ from + live
    → InOrder cell.1 (cell.0 + 1) cells → InOrder row (from + (live + 1)) cells
order_on cells live row from cell same_row same_column order =
    let column : cell.0 + 1 ≡ from + (live + 1) = omega arith in
    subst (λ c. InOrder row c cells) column (subst (λ r. InOrder r (cell.0 + 1) cells) same_row order)

pub some_gap : (row column : ℕ) (cell : ℕ × ℕ) → row ≤ cell.1 → (row ≡ cell.1 → column ≤ cell.0) → (cell.1 ≡ row → ⊥)
    ⊎ ((cell.1 ≡ row) × (cell.0 ≡ column → ⊥)) → 0 < (cell.1 - row) + (cell.0 - cond (eqb cell.1 row) column 0)
some_gap row column cell low order (inl other) = some_gap_row row column cell.0 cell.1 low other
some_gap row column cell low order (inr both) =
    some_gap_column row column cell.0 cell.1 both.0 (order (sym both.0)) both.1

one_cell : (before cells : List (ℕ × ℕ)) (cell : ℕ × ℕ)
    → before ++ run cell.0 cell.1 1 ++ cells ≡ before ++ cell ∷ cells
unfolding run
one_cell before cells cell = append_assoc before (cell ∷ []) cells

-- up to a cell after a gap
gap_cell_read : (cell : ℕ × ℕ) (cells : List (ℕ × ℕ)) (live row from : ℕ) (before : List (ℕ × ℕ))
    → InOrder row (from + live) (cell ∷ cells) → AllInside (cell ∷ cells) → from + live ≤ 1024 → row ≤ 1023 →
    (cell.1 ≡ row → ⊥) ⊎ ((cell.1 ≡ row) × (cell.0 ≡ from + live → ⊥)) →
    body_from (between row from before) (joined (texts_from live row (from + live) (cell ∷ cells)) ++ 33 ∷ [])
    ≡ body_from (between cell.1 cell.0 (before ++ run from row live))
    (joined (texts_from 1 cell.1 (cell.0 + 1) cells) ++ 33 ∷ [])
gap_cell_read cell cells live row from before order inside fits low gap =
    let down = counted (cell.1 - row) 36 in
    let along = counted (cell.0 - cond (eqb cell.1 row) (from + live) 0) 98 in
    let others = texts_from 1 cell.1 (cell.0 + 1) cells in
    ap (λ t. body_from (between row from before) (joined t ++ 33 ∷ []))
    (texts_gap live row (from + live) _ cell cells refl (λ _. some_gap row (from + live) cell order.0 order.1 gap))
    ∙ ap (λ t. body_from (between row from before) t) (joined_four (counted live 111) down along others (33 ∷ []))
    ∙ live_read live row from before (joined down ++ (joined along ++ (joined others ++ 33 ∷ []))) fits low
    ∙ gap_read row (from + live) cell (before ++ run from row live)
    (joined others ++ 33 ∷ []) order.0 order.1 inside.0 inside.1

-- the cells from a run of live ones on
pub cells_read : (cells : List (ℕ × ℕ)) (live row from : ℕ) (before : List (ℕ × ℕ)) → InOrder row (from + live) cells
    → AllInside cells → from + live ≤ 1024 → row ≤ 1023 →
    body_from (between row from before) (joined (texts_from live row (from + live) cells) ++ 33 ∷ [])
    ≡ Ok (before ++ run from row live ++ cells)
cells_read [] live row from before order inside fits low =
    ap (λ t. body_from (between row from before) (joined t ++ 33 ∷ [])) (texts_none live row (from + live))
    ∙ live_read live row from before (33 ∷ []) fits low
    ∙ end_read row (from + live) (before ++ run from row live)
    ∙ ap Ok (sym (append-nil (before ++ run from row live)))
cells_read (cell ∷ cells) live row from before order inside fits low =
    elim (here_or_not cell row (from + live)) [
      | inl here ↦
          ap (λ t. body_from (between row from before) (joined t ++ 33 ∷ []))
          (sym (texts_same live row (from + live) cell cells here.0 here.1)
          ∙ ap (λ r. texts_from (live + 1) r (cell.0 + 1) cells) here.0
          ∙ ap (λ c. texts_from (live + 1) row c cells) (let e : cell.0 + 1 ≡ from + (live + 1) = omega arith in e))
          ∙ cells_read cells (live + 1) row from before
          (order_on cells live row from cell here.0 here.1 order.2) inside.2 (omega arith) low
          ∙ ap Ok (run_and_cell before cells live row from cell here.0 here.1)
      | inr gap ↦
          gap_cell_read cell cells live row from before order inside fits low gap
          ∙ cells_read cells 1 cell.1 cell.0 (before ++ run from row live) order.2 inside.2 (omega arith) (omega arith)
          ∙ ap Ok (one_cell (before ++ run from row live) cells cell)
    ]

-- The body of the one text of cells in order is read as these cells.
pub body_round : (cells : List (ℕ × ℕ)) → InOrder 0 0 cells → AllInside cells
    → body_cells (joined (item_texts cells)) ≡ Ok cells
unfolding run
body_round cells order inside =
    sym (body_from_start (joined (item_texts cells)))
    ∙ ap (λ t. body_from start t) (flat_map-append (λ (t : List ℕ). t) (texts_from 0 0 0 cells) ((33 ∷ []) ∷ []))
    ∙ cells_read cells 0 0 0 [] order inside (omega arith) (omega arith)
