-- The cells of runs as pairs of a column and a row: of runs that a body places, and of runs that are written.
use Rattle.std.proofs.Common.{◌≡◌, ℕ, zero, suc, ◌+◌, ◌≤◌, ◌<◌, ℤ, pos, nat_abs, w32, to_z, List, [], ◌∷◌, ◌++◌, map}
use Rattle.std.proofs.Common.{get_or, take, length, max, refl, subst, ◌⊎◌, inl, inr, ap, ◌∙◌, sym, arith}
use Rattle.std.specs.Prelude.{◌+ℤ◌, ◌≤ℤ◌}
use Rattle.std.proofs.lemmas.Int.{ints, to_z_pos}
use Rattle.std.proofs.lemmas.Bool.{cases_lt}
use Rattle.std.proofs.lemmas.List.{map-append, take_more}
use Rattle.std.proofs.lemmas.List.Sums.{fold-append}
use Rattle.std.proofs.lemmas.List.Elements.{All-nil, All-cons, All-head, All-tail, All-same, All-append}
use Rattle.std.specs.List.{All, fold}
use Rattle.life_core.specs.declared.cell.Cell.{Cell}
use Rattle.life_core.specs.declared.runs.Run.{Run}
use Rattle.life_core.specs.declared.cell.TheConstants.{PLANE}
use Rattle.life_core.specs.Cell.{IsCellWithin}
use Rattle.life_core.specs.Pattern.{Cells, in_order, normal}
use Rattle.life_core.specs.Runs.{cells_from, run_cells, runs_cells, Joins, AreLongest}
use Rattle.life_core.proofs.RunsLemmas.{all_at, all_of_run, push_cells}
use Rattle.life_core.proofs.RunsLaws.{run_at}
use Rattle.life_rle.specs.Body.{run, IsPlaced}
use Rattle.life_rle.specs.Writer.{coordinates, width_of, height_of, IsQuarterCell, IsQuarterRun}
use Rattle.life_rle.specs.WriterState.{InOrder, column_of, row_of, AreNextRuns}
use Rattle.life_rle.proofs.RecordPairs.{quarter_cells, pairs_in_order}

pub run_pairs : (row column : ℤ) (n : ℕ) → pos 0 ≤ℤ column
    → map coordinates (cells_from row column n) ≡ run (nat_abs column) (nat_abs row) n
unfolding run
run_pairs row column zero low = refl
run_pairs row column (suc n) low =
    let next : nat_abs (column +ℤ pos 1) ≡ nat_abs column + 1 = omega (arith, ints) in
    ap (λ (ps : List (ℕ × ℕ)). (nat_abs column, nat_abs row) ∷ ps)
    (run_pairs row (column +ℤ pos 1) n (omega (arith, ints)) ∙ ap (λ x. run x (nat_abs row) n) next)

-- ---- runs that a body places

all_placed : (row column : ℤ) (n : ℕ) → pos 0 ≤ℤ row → row ≤ℤ pos 1023 → pos 0 ≤ℤ column → (column +ℤ pos n) ≤ℤ pos 1024
    → All IsPlaced (cells_from row column n)
all_placed row column zero top bottom left right = All-nil IsPlaced
all_placed row column (suc n) top bottom left right =
    All-cons IsPlaced (record { row = row; column = column }) (cells_from row (column +ℤ pos 1) n)
    (record { row_low = top; row_high = bottom; column_low = left; column_high = omega (arith, ints) })
    (all_placed row (column +ℤ pos 1) n top bottom (omega (arith, ints)) (omega (arith, ints)))

-- one more run is placed, whose row and column the code has as signed numbers
pub placed_run : (old new : List Cell) (row column n : ℕ) → row < 1024 → column + n ≤ 1024
    → new ≡ old ++ cells_from (to_z w32 row) (to_z w32 column) n
    → (map coordinates new ≡ map coordinates old ++ run column row n) × (All IsPlaced old → All IsPlaced new)
placed_run old new row column n low fits is =
    let same_row = to_z_pos w32 row (omega (arith, low)) in
    let same_column = to_z_pos w32 column (omega (arith, fits)) in
    let more : List Cell = cells_from (pos row) (pos column) n in
    let all : new ≡ old ++ more = is ∙ (λ i. old ++ cells_from (same_row i) (same_column i) n) in (
      ap (map coordinates) all ∙ map-append coordinates old more ∙ ap (λ (ps : List (ℕ × ℕ)). map coordinates old ++ ps)
          (run_pairs (pos row) (pos column) n (omega (arith, ints))),
      λ inside. All-same IsPlaced new (old ++ more) all
          (All-append IsPlaced old more inside (all_placed (pos row) (pos column) n (omega (arith, ints))
          (omega (arith, ints)) (omega (arith, ints)) (omega (arith, ints)))),
    )

-- ---- runs in the order of their cells

pub runs_pairs : (r : Run) (rs : List Run)
    → map coordinates (runs_cells (r ∷ rs)) ≡ map coordinates (run_cells r) ++ map coordinates (runs_cells rs)
runs_pairs r rs = map-append coordinates (run_cells r) (runs_cells rs)

-- the longest runs of cells of a quarter of the plane
pub quarter_runs : (rs : List Run) → AreLongest rs → All IsQuarterCell (runs_cells rs) → All IsQuarterRun rs
quarter_runs rs longest all i d low =
    let r = get_or rs i d in
    let some = (run_at rs i d longest low).some in
    let here : r.first +ℤ pos 0 ≡ r.first = omega (arith, ints) in
    record {
      some = some;
      first =
          subst (λ x. IsQuarterCell (record { row = r.row; column = x })) here
          (all_at IsQuarterCell r.row r.first r.len 0 (all_of_run IsQuarterCell rs i d all low) some);
    }

-- after a run
order_behind : (n row column : ℕ) (cells : List (ℕ × ℕ)) → InOrder row column (run column row n ++ cells)
    → InOrder row (column + n) cells
unfolding run
order_behind zero row column cells order =
    let end : column ≡ column + 0 = omega arith in subst (λ x. InOrder row x cells) end order
order_behind (suc n) row column cells order =
    let end : column + 1 + n ≡ column + suc n = omega arith in
    subst (λ x. InOrder row x cells) end (order_behind n row (column + 1) cells order.2)

order_run : (n row column x y : ℕ) (cells : List (ℕ × ℕ)) → 1 ≤ n → InOrder row column (run x y n ++ cells)
    → (row ≤ y) × (row ≡ y → column ≤ x) × InOrder y (x + n) cells
unfolding run
order_run zero row column x y cells some order = absurd (omega (arith, some))
order_run (suc n) row column x y cells some order =
    let end : x + 1 + n ≡ x + suc n = omega arith in
    (order.0, order.1, subst (λ z. InOrder y z cells) end (order_behind n y (x + 1) cells order.2))

order_runs : (row column : ℕ) (r : Run) (rs : List Run) → IsQuarterRun r
    → InOrder row column (map coordinates (runs_cells (r ∷ rs)))
    → (row ≤ row_of r) × (row ≡ row_of r → column ≤ column_of r)
    × InOrder (row_of r) (column_of r + r.len) (map coordinates (runs_cells rs))
order_runs row column r rs quarter order =
    order_run r.len row column (column_of r) (row_of r) (map coordinates (runs_cells rs)) quarter.some
    (subst (λ ps. InOrder row column ps) (runs_pairs r rs ∙ ap (λ (ps : List (ℕ × ℕ)). ps
    ++ map coordinates (runs_cells rs)) (run_pairs r.row r.first r.len quarter.first.column_low)) order)

-- of longest runs none begins where the one before it ends
apart : (r s : Run) → IsQuarterRun r → IsQuarterRun s → (Joins r s → ⊥)
    → row_of r ≤ row_of s → (row_of r ≡ row_of s → column_of r + r.len ≤ column_of s)
    → (row_of r < row_of s) ⊎ (column_of r + r.len < column_of s)
apart r s quarter other none below right = elim (cases_lt (row_of r) (row_of s)) [
  | inl above ↦ inl above
  | inr level ↦ elim (cases_lt (column_of r + r.len) (column_of s)) [
    | inl gap ↦ inr gap
    | inr here ↦
        let row : row_of r ≡ row_of s = omega (arith, below, level) in
        let column : column_of r + r.len ≡ column_of s = let most = right row in omega (arith, most, here) in
        absurd (none (
          omega (arith, ints, row, quarter.first.row_low, other.first.row_low),
          omega (arith, ints, column, quarter.first.column_low, other.first.column_low),
        ))
  ]
]

next_behind : (r : Run) (rs : List Run) → IsQuarterRun r → AreLongest (r ∷ rs) → All IsQuarterRun rs
    → InOrder (row_of r) (column_of r + r.len) (map coordinates (runs_cells rs))
    → AreNextRuns (row_of r) (column_of r + r.len) r.len rs
next_behind r [] quarter longest all order = tt
next_behind r (s ∷ rs) quarter longest all order =
    let here = All-head IsQuarterRun s rs all in
    let first = order_runs (row_of r) (column_of r + r.len) s rs here order in (
      record {
        cells = here;
        below = first.0;
        right = first.1;
        apart = λ some. apart r s quarter here longest.1 first.0 first.1;
      },
      next_behind s rs here longest.2 (All-tail IsQuarterRun s rs all) first.2,
    )

next_runs : (rs : List Run) → AreLongest rs → All IsQuarterRun rs → InOrder 0 0 (map coordinates (runs_cells rs))
    → AreNextRuns 0 0 0 rs
next_runs [] longest all order = tt
next_runs (r ∷ rs) longest all order =
    let here = All-head IsQuarterRun r rs all in (
      record {
        cells = here;
        below = omega arith;
        right = λ same. omega arith;
        apart = λ some. absurd (omega (arith, some));
      },
      next_behind r rs here longest (All-tail IsQuarterRun r rs all) (order_runs 0 0 r rs here order).2,
    )

-- the runs that the code has of a normal set
pub normal_runs : (X : Cells) (cs : List Cell) (rs : List Run) → normal X ≡ X → cs ≡ in_order X
    → All (IsCellWithin PLANE) cs → runs_cells rs ≡ cs → AreLongest rs → All IsQuarterRun rs × AreNextRuns 0 0 0 rs
normal_runs X cs rs same is all listed longest =
    let quarters = quarter_runs rs longest
    (All-same IsQuarterCell (runs_cells rs) cs listed (quarter_cells X cs same is all)) in (
      quarters,
      next_runs rs longest quarters (subst (λ ds. InOrder 0 0 (map coordinates ds)) (sym (listed ∙ is))
          (pairs_in_order X same)),
    )

-- ---- the greatest column and row

abbrev past_column : ℕ → ℕ × ℕ → ℕ
past_column n cell = max n (cell.0 + 1)

abbrev past_row : ℕ → ℕ × ℕ → ℕ
past_row n cell = max n (cell.1 + 1)

wide : (n m x y : ℕ) → 1 ≤ n → fold past_column m (run x y n) ≡ max m (x + n)
unfolding run
wide zero m x y some = absurd (omega (arith, some))
wide (suc zero) m x y some = refl
wide (suc (suc n)) m x y some = wide (suc n) (max m (x + 1)) (x + 1) y (omega arith) ∙ omega arith

high : (n m x y : ℕ) → 1 ≤ n → fold past_row m (run x y n) ≡ max m (y + 1)
unfolding run
high zero m x y some = absurd (omega (arith, some))
high (suc zero) m x y some = refl
high (suc (suc n)) m x y some = high (suc n) (max m (y + 1)) (x + 1) y (omega arith) ∙ omega arith

-- a fold over the pairs of the first runs, with one more
fold_more : (f : ℕ → ℕ × ℕ → ℕ) (rs : List Run) (i : ℕ) (d : Run) → i < length rs → IsQuarterRun (get_or rs i d)
    → fold f 0 (map coordinates (runs_cells (take (i + 1) rs)))
    ≡ fold f (fold f 0 (map coordinates (runs_cells (take i rs))))
    (run (column_of (get_or rs i d)) (row_of (get_or rs i d)) (get_or rs i d).len)
fold_more f rs i d low quarter =
    let r = get_or rs i d in
    ap (λ (qs : List Run). fold f 0 (map coordinates (runs_cells qs))) (take_more rs i d low)
    ∙ ap (λ (cs : List Cell). fold f 0 (map coordinates cs)) (push_cells (take i rs) r)
    ∙ ap (fold f 0) (map-append coordinates (runs_cells (take i rs)) (run_cells r)
    ∙ ap (λ (ps : List (ℕ × ℕ)). map coordinates (runs_cells (take i rs)) ++ ps)
    (run_pairs r.row r.first r.len quarter.first.column_low))
    ∙ fold-append f 0 (map coordinates (runs_cells (take i rs))) (run (column_of r) (row_of r) r.len)

pub width_more : (rs : List Run) (i : ℕ) (d : Run) → i < length rs → IsQuarterRun (get_or rs i d)
    → width_of (map coordinates (runs_cells (take (i + 1) rs)))
    ≡ max (width_of (map coordinates (runs_cells (take i rs)))) (column_of (get_or rs i d) + (get_or rs i d).len)
width_more rs i d low quarter =
    fold_more past_column rs i d low quarter
    ∙ wide (get_or rs i d).len (width_of (map coordinates (runs_cells (take i rs)))) _ _ quarter.some

pub height_more : (rs : List Run) (i : ℕ) (d : Run) → i < length rs → IsQuarterRun (get_or rs i d)
    → height_of (map coordinates (runs_cells (take (i + 1) rs)))
    ≡ max (height_of (map coordinates (runs_cells (take i rs)))) (row_of (get_or rs i d) + 1)
height_more rs i d low quarter =
    fold_more past_row rs i d low quarter
    ∙ high (get_or rs i d).len (height_of (map coordinates (runs_cells (take i rs)))) _ _ quarter.some
