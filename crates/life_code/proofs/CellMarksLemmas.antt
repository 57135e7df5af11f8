-- Marking the cells of a box.
use Rattle.std.proofs.Common.{◌≡◌, ◌≢◌, ℕ, zero, suc, ◌+◌, ◌*◌, ◌/◌, ◌%◌, ◌<◌, ◌≤◌, Bool, true, false, cond, ◌||◌, List}
use Rattle.std.proofs.Common.{[], ◌∷◌, ◌++◌, length, get_or, replicate, map, pos, ◌+ℤ◌, refl, sym, ap, ◌∙◌, arith}
use Rattle.std.proofs.Common.{⊎_elim, append_assoc}
use Rattle.std.specs.Prelude.{set}
use Rattle.std.specs.List.{range_with_len}
use Rattle.std.proofs.Math.Bool.{or-false}
use Rattle.std.proofs.lemmas.Bool.{cases_eq, or_right}
use Rattle.std.proofs.lemmas.Int.{ints}
use Rattle.std.proofs.lemmas.List.{get_or-set_same, get_or-set_other, get_or-replicate}
use Rattle.std.proofs.lemmas.List.Folds.{list_any-append}
use Rattle.std.specs.FinSet as fset
use Rattle.life_core.specs.declared.cell.Cell.{Cell}
use Rattle.life_core.specs.declared.runs.Run.{Run}
use Rattle.life_core.specs.Pattern.{Cells, in_order}
use Rattle.life_core.specs.Runs.{has_cell, cells_from}
use Rattle.life_core.proofs.PatternMembers.{same_cell, same_cell-true, same_cell-self}
use Rattle.life_core.proofs.PatternOrder.{has_cell-in_order}
use Rattle.life_core.proofs.RunsLemmas.{cells_both}
use Rattle.life_code.specs.Wechsler.{bit_at, column_value}
use Rattle.life_code.specs.DecodeState.{cell_of_index}
use Rattle.life_code.specs.CellMarksState.{Marks, Shows, bit_of, shown_value}

-- a list with one cell more
has_more : (cells : List Cell) (c d : Cell) → has_cell (cells ++ c ∷ []) d ≡ (has_cell cells d || same_cell d c)
has_more cells c d =
    list_any-append (same_cell d) cells (c ∷ []) ∙ ap (λ b. has_cell cells d || b) (or-false (same_cell d c))

-- a cell that isn't the last one
has_other : (cells : List Cell) (c d : Cell) → d ≢ c → has_cell (cells ++ c ∷ []) d ≡ has_cell cells d
has_other cells c d ne =
    has_more cells c d ∙ ap (λ b. has_cell cells d || b) (is_other (same_cell d c) refl) ∙ or-false (has_cell cells d)
  where
    is_other : (b : Bool) → same_cell d c ≡ b → same_cell d c ≡ false
    is_other true e = absurd (ne (same_cell-true d c e))
    is_other false e = e

pub mark_none : (flags : List Bool) (cells : List Cell) (c : Cell) → ((i : ℕ) → i < 1600 → c ≢ cell_of_index i)
    → Marks flags cells → Marks flags (cells ++ c ∷ [])
mark_none flags cells c outside marks i low =
    marks i low ∙ (sym (has_other cells c (cell_of_index i) (λ e. outside i low (sym e))))

-- the cells of two places differ
two_places : (i j : ℕ) → i ≢ j → cell_of_index i ≢ cell_of_index j
two_places i j ne e =
    let rows : pos (i / 40) ≡ pos (j / 40) = ap (λ (c : Cell). c.row) e in
    let columns : pos (i % 40) ≡ pos (j % 40) = ap (λ (c : Cell). c.column) e in
    ne (omega (arith, ints))

pub mark_one : (flags : List Bool) (cells : List Cell) (c : Cell) (j : ℕ) → length flags ≡ 1600
    → j < 1600 → c ≡ cell_of_index j → Marks flags cells → Marks (set flags j true) (cells ++ c ∷ [])
mark_one flags cells c j long inside is marks i low = ⊎_elim here elsewhere (cases_eq i j)
  where
    here : i ≡ j → get_or (set flags j true) i false ≡ has_cell (cells ++ c ∷ []) (cell_of_index i)
    here e =
        ap (λ k. get_or (set flags j true) k false) e
        ∙ get_or-set_same flags j true false (omega arith)
        ∙ sym (
        has_more cells c (cell_of_index i)
        ∙ or_right (has_cell cells (cell_of_index i)) (same_cell (cell_of_index i) c)
        (ap (same_cell (cell_of_index i)) (is ∙ ap cell_of_index (sym e)) ∙ same_cell-self (cell_of_index i))
        )

    elsewhere : i ≢ j → get_or (set flags j true) i false ≡ has_cell (cells ++ c ∷ []) (cell_of_index i)
    elsewhere ne =
        get_or-set_other flags j i true false ne ∙ marks i low
        ∙ (sym (has_other cells c (cell_of_index i) (λ e. two_places i j ne (e ∙ is))))

-- ---- runs

pub run_more : (cells : List Cell) (r : Run) (i : ℕ) (c : Cell) → c ≡ record { row = r.row; column = r.first +ℤ pos i }
    → (cells ++ cells_from r.row r.first i) ++ c ∷ [] ≡ cells ++ cells_from r.row r.first (i + 1)
run_more cells r i c is =
    append_assoc cells (cells_from r.row r.first i) (c ∷ []) ∙ ap (λ (cs : List Cell). cells ++ cs)
    (ap (λ (d : Cell). cells_from r.row r.first i ++ d ∷ []) is ∙ sym (cells_both r.row r.first i 1))

pub no_marks : Marks (replicate 1600 false) []
no_marks i low = get_or-replicate 1600 i false false low

-- ---- the bits of a set

pub shows : (flags : List Bool) (cells : List Cell) (X : Cells) → cells ≡ in_order X → Marks flags cells → Shows flags X
shows flags cells X are marks x y left above =
    marks (40 * y + x) (omega arith)
    ∙ ap (λ (cs : List Cell). has_cell cs (cell_of_index (40 * y + x))) are
    ∙ has_cell-in_order X (cell_of_index (40 * y + x))
    ∙ ap (fset.contains X) (λ i. record { row = pos (row i); column = pos (column i) })
  where
    row : (40 * y + x) / 40 ≡ y
    row = omega arith

    column : (40 * y + x) % 40 ≡ x
    column = omega arith

-- the value of a column
shown_column : (flags : List Bool) (X : Cells) (s x : ℕ) → Shows flags X → s < 8 → x < 40
    → shown_value flags s x ≡ column_value X s x
unfolding column_value
shown_column flags X s x show low left =
    λ i. top i + 2 * at 1 40 refl (omega arith) i + 4 * at 2 80 refl (omega arith) i + 8 * at 3 120 refl (omega arith) i
    + 16 * at 4 160 refl (omega arith) i
  where
    top : bit_of flags (200 * s + x) ≡ bit_at X x (5 * s)
    top =
        ap (bit_of flags) (let e : 200 * s + x ≡ 40 * (5 * s) + x = omega arith in e)
        ∙ ap (λ b. cond b 1 0) (show x (5 * s) left (omega arith))

    at : (r o : ℕ) → o ≡ 40 * r → r < 5 → bit_of flags (200 * s + o + x) ≡ bit_at X x (5 * s + r)
    at r o is few =
        ap (bit_of flags) (let e : 200 * s + o + x ≡ 40 * (5 * s + r) + x = omega arith in e)
        ∙ ap (λ b. cond b 1 0) (show x (5 * s + r) left (omega arith))

-- the values of the first columns of a strip
same_values : (f g : ℕ → ℕ) (a n : ℕ) → ((x : ℕ) → x < a + n → f x ≡ g x)
    → map f (range_with_len a n) ≡ map g (range_with_len a n)
same_values f g a zero same = refl
same_values f g a (suc n) same = λ i. same a (omega arith) i ∷ same_values f g (a + 1) n (λ x h. same x (omega arith)) i

pub shown_columns : (flags : List Bool) (X : Cells) (s n : ℕ) → Shows flags X → s < 8 → n ≤ 40
    → map (shown_value flags s) (range_with_len 0 n) ≡ map (column_value X s) (range_with_len 0 n)
shown_columns flags X s n show low few =
    same_values (shown_value flags s) (column_value X s) 0 n (λ x h. shown_column flags X s x show low (omega arith))
