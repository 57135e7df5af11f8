-- The longest runs of cells, and the path that is drawn from a pattern's runs.
use Rattle.std.proofs.Common.{◌≡◌, ℕ, zero, suc, ◌+◌, ◌<◌, ◌≤◌, Bool, true, false, ◌&&◌, cond, eqb, List, [], ◌∷◌, ◌++◌}
use Rattle.std.proofs.Common.{map, take, length, get_or, refl, ap, ◌∙◌, sym, subst, arith, add-one}
use Rattle.std.specs.List.{All, flat_map}
use Rattle.std.proofs.lemmas.Int.{ints}
use Rattle.std.proofs.lemmas.List.{append_assoc, append-nil, map-append, take_more}
use Rattle.std.proofs.lemmas.List.Concat.{flat_map-append}
use Rattle.std.proofs.lemmas.List.Elements.{All-head, All-tail}
use Rattle.std.proofs.lemmas.Bool.{eq-eqb}
use Rattle.life_core.specs.declared.runs.Run.{Run as CellRun}
use Rattle.life_core.specs.Runs.{cells_from, runs_cells, first_cell, NoneJoins, AreLongest}
use Rattle.life_rle.specs.Body.{run}
use Rattle.life_rle.specs.Writer.{coordinates, IsQuarterCell, IsQuarterRun}
use Rattle.life_rle.specs.WriterState.{column_of, row_of}
use Rattle.life_rle.proofs.RunPairs.{run_pairs, runs_pairs}
use Rattle.life_pictures.specs.declared.picture_runs.Run.{Run}
use Rattle.life_pictures.specs.PictureRuns.{is_right_of, run_from, before_runs, runs_of, run_path}
use Rattle.life_pictures.specs.PictureRunsState.{drawn}

-- the list is empty or begins elsewhere than at this column and row
abbrev pub BeginsElsewhere : ℕ → ℕ → List (ℕ × ℕ) → Type 0
BeginsElsewhere column row [] = Unit {0}
BeginsElsewhere column row (cell ∷ cells) = cell.1 ≡ row → cell.0 ≡ column → ⊥

-- a cell right before a run joins it
joins_right : (column row n : ℕ) (runs : List Run)
    → before_runs (column, row) (run_from (column + 1, row) n ∷ runs) ≡ run_from (column, row) (n + 1) ∷ runs
joins_right column row n runs =
    ap (λ b. cond (b && eqb (column + 1) (column + 1)) (run_from (column, row) (n + 1) ∷ runs)
    (run_from (column, row) 1 ∷ run_from (column + 1, row) n ∷ runs)) (eq-eqb row row refl)
    ∙ ap (λ b. cond b (run_from (column, row) (n + 1) ∷ runs)
    (run_from (column, row) 1 ∷ run_from (column + 1, row) n ∷ runs)) (eq-eqb (column + 1) (column + 1) refl)

-- the runs of cells begin with one from the first cell
head_by : (cell : ℕ × ℕ) (first : Run) (runs : List Run) (b : Bool) → (n : ℕ) × (rest : List Run)
    × (cond b (run_from cell (first.length + 1) ∷ runs) (run_from cell 1 ∷ first ∷ runs) ≡ run_from cell n ∷ rest)
head_by cell first runs true = (first.length + 1, runs, refl)
head_by cell first runs false = (1, first ∷ runs, refl)

before_head : (cell : ℕ × ℕ) (runs : List Run)
    → (n : ℕ) × (rest : List Run) × (before_runs cell runs ≡ run_from cell n ∷ rest)
before_head cell [] = (1, [], refl)
before_head cell (first ∷ runs) = head_by cell first runs (is_right_of cell first)

not_right : (column row x y n : ℕ) → (y ≡ row → x ≡ column + 1 → ⊥)
    → is_right_of (column, row) (run_from (x, y) n) ≡ false
not_right column row x y n elsewhere = grind (arith, elsewhere)

-- a cell alone before cells that begin elsewhere
alone : (column row : ℕ) (cells : List (ℕ × ℕ)) → BeginsElsewhere (column + 1) row cells
    → before_runs (column, row) (runs_of cells) ≡ run_from (column, row) 1 ∷ runs_of cells
unfolding runs_of
alone column row [] elsewhere = refl
alone column row (cell ∷ cells) elsewhere =
    let head = before_head cell (runs_of cells) in
    ap (before_runs (column, row)) head.2
    ∙ ap (λ b. cond b (run_from (column, row) (head.0 + 1) ∷ head.1)
    (run_from (column, row) 1 ∷ run_from cell head.0 ∷ head.1)) (not_right column row cell.0 cell.1 head.0 elsewhere)
    ∙ ap (λ runs. run_from (column, row) 1 ∷ runs) (sym head.2)

-- a run before cells that begin elsewhere than right after it
pub front : (n column row : ℕ) (cells : List (ℕ × ℕ)) → BeginsElsewhere (column + suc n) row cells
    → runs_of (run column row (suc n) ++ cells) ≡ run_from (column, row) (suc n) ∷ runs_of cells
unfolding runs_of run
front zero column row cells elsewhere = alone column row cells elsewhere
front (suc n) column row cells elsewhere =
    ap (before_runs (column, row)) (front n (column + 1) row cells (elsewhere_at cells elsewhere))
    ∙ joins_right column row (suc n) (runs_of cells)
    ∙ ap (λ k. run_from (column, row) k ∷ runs_of cells) (add-one (suc n))
  where
    elsewhere_at : (cells : List (ℕ × ℕ)) → BeginsElsewhere (column + suc (suc n)) row cells
        → BeginsElsewhere (column + 1 + suc n) row cells
    elsewhere_at [] elsewhere = tt
    elsewhere_at (cell ∷ cells) elsewhere = λ same_row same_column. elsewhere same_row (omega arith)

-- ---- the runs of a pattern

-- the cells of longest runs begin elsewhere than right after a run that none of them joins
elsewhere : (r : CellRun) (rs : List CellRun) → IsQuarterRun r → All IsQuarterRun rs → NoneJoins r rs
    → BeginsElsewhere (column_of r + r.len) (row_of r) (map coordinates (runs_cells rs))
elsewhere r [] quarter all none = tt
elsewhere r (s ∷ rs) quarter all none =
    let here = All-head IsQuarterRun s rs all in
    go here.first s.len refl here.some
  where
    go : IsQuarterCell (first_cell s) → (n : ℕ) → s.len ≡ n → 1 ≤ n → BeginsElsewhere (column_of r + r.len)
        (row_of r) (map coordinates (cells_from s.row s.first n ++ runs_cells rs))
    go here zero is some = absurd (omega (arith, some))
    go here (suc n) is some = λ row column. none (
      omega (arith, ints, row, quarter.first.row_low, here.row_low),
      omega (arith, ints, column, quarter.first.column_low, here.column_low),
    )

-- the longest runs that a pattern is kept by are those of its cells
pub runs_are_drawn : (rs : List CellRun) → AreLongest rs → All IsQuarterRun rs
    → runs_of (map coordinates (runs_cells rs)) ≡ map drawn rs
unfolding runs_of
runs_are_drawn [] longest all = refl
runs_are_drawn (r ∷ rs) longest all =
    let here = All-head IsQuarterRun r rs all in
    let rest = All-tail IsQuarterRun r rs all in
    ap runs_of (runs_pairs r rs ∙ ap (λ (ps : List (ℕ × ℕ)). ps ++ map coordinates (runs_cells rs))
    (run_pairs r.row r.first r.len here.first.column_low))
    ∙ go r.len refl here.some (elsewhere r rs here rest longest.1)
    ∙ ap (λ (qs : List Run). drawn r ∷ qs) (runs_are_drawn rs longest.2 rest)
  where
    go : (n : ℕ) → r.len ≡ n → 1 ≤ n
        → BeginsElsewhere (column_of r + r.len) (row_of r) (map coordinates (runs_cells rs))
        → runs_of (run (column_of r) (row_of r) r.len ++ map coordinates (runs_cells rs))
        ≡ drawn r ∷ runs_of (map coordinates (runs_cells rs))
    go zero is some apart = absurd (omega (arith, some))
    go (suc n) is some apart =
        ap (λ k. runs_of (run (column_of r) (row_of r) k ++ map coordinates (runs_cells rs))) is
        ∙ front n (column_of r) (row_of r) (map coordinates (runs_cells rs))
        (subst (λ k. BeginsElsewhere (column_of r + k) (row_of r) (map coordinates (runs_cells rs))) is apart)
        ∙ ap (λ k. run_from (column_of r, row_of r) k ∷ runs_of (map coordinates (runs_cells rs))) (sym is)

-- one run more is drawn
pub one_more_run : (rs : List CellRun) (i : ℕ) (d : CellRun) (o₀ o₁ o₂ : List ℕ) → i < length rs
    → o₁ ≡ o₀ ++ flat_map run_path (map drawn (take i rs)) → o₂ ≡ o₁ ++ run_path (drawn (get_or rs i d))
    → o₂ ≡ o₀ ++ flat_map run_path (map drawn (take (i + 1) rs))
one_more_run rs i d o₀ o₁ o₂ low before next =
    next ∙ ap (λ o. o ++ run_path (drawn (get_or rs i d))) before ∙ append_assoc o₀ _ _
    ∙ ap (λ text. o₀ ++ text) (
    ap (λ text. flat_map run_path (map drawn (take i rs)) ++ text) (sym (append-nil (run_path (drawn (get_or rs i d)))))
    ∙ sym (flat_map-append run_path (map drawn (take i rs)) (drawn (get_or rs i d) ∷ []))
    ∙ ap (flat_map run_path)
    (sym (ap (map drawn) (take_more rs i d low) ∙ map-append drawn (take i rs) (get_or rs i d ∷ []))))
