-- Lines leave out the dead cells at their ends; runs have exactly the cells, and are the longest.
use Rattle.std.proofs.Common.{◌≡◌, ℕ, suc, ◌+◌, ◌-◌, Bool, true, false, ◌&&◌, ◌||◌, cond, List, [], ◌∷◌, ◌++◌}
use Rattle.std.proofs.Common.{replicate, refl, ap, ◌∙◌, sym, subst, arith, add-one}
use Rattle.std.specs.List.{flat_map}
use Rattle.std.proofs.lemmas.Bool.{eqb-true}
use Rattle.life_rle.specs.Body.{run}
use Rattle.life_pictures.specs.declared.picture_runs.Run.{Run}
use Rattle.life_pictures.specs.PictureRuns.{is_right_of, run_from, before_runs, cells_of_run, runs_of}
use Rattle.life_pictures.specs.PictureLines.{before_cells, trimmed}
use Rattle.life_pictures.specs.PictureLaws.{AreMaximalRuns, DeadAreLeftOut, LinesEndLive, RunsAreTheCells}
use Rattle.life_pictures.specs.PictureLaws.{RunsAreLongest}

both : (a b : Bool) → (a && b) ≡ true → (a ≡ true) × (b ≡ true)
both true true holds = (refl, refl)
both true false holds = absurd (cc)
both false b holds = absurd (cc)

-- where a run begins right of a cell
right_of : (cell : ℕ × ℕ) (r : Run) → is_right_of cell r ≡ true → (r.row ≡ cell.1) × (r.column ≡ cell.0 + 1)
right_of cell r is = let parts = both _ _ is in (eqb-true r.row cell.1 parts.0, eqb-true r.column (cell.0 + 1) parts.1)

-- ---- the cells

cells_joined : (cell : ℕ × ℕ) (first : Run) (rest : List (ℕ × ℕ)) → is_right_of cell first ≡ true
    → cells_of_run (run_from cell (first.length + 1)) ++ rest ≡ cell ∷ (cells_of_run first ++ rest)
unfolding run
cells_joined cell first rest is =
    let place = right_of cell first is in
    ap (λ n. run cell.0 cell.1 n ++ rest) (add-one first.length)
    ∙ ap (λ row. cell ∷ (run (cell.0 + 1) row first.length ++ rest)) (sym place.0)
    ∙ ap (λ column. cell ∷ (run column first.row first.length ++ rest)) (sym place.1)

cells_before : (cell : ℕ × ℕ) (runs : List Run)
    → flat_map cells_of_run (before_runs cell runs) ≡ cell ∷ flat_map cells_of_run runs
unfolding run
cells_before cell [] = refl
cells_before cell (first ∷ runs) = go (is_right_of cell first) refl
  where
    go : (b : Bool) → is_right_of cell first ≡ b
        → flat_map cells_of_run (before_runs cell (first ∷ runs)) ≡ cell ∷ flat_map cells_of_run (first ∷ runs)
    go true is =
        ap (λ b. flat_map cells_of_run
        (cond b (run_from cell (first.length + 1) ∷ runs) (run_from cell 1 ∷ first ∷ runs))) is
        ∙ cells_joined cell first (flat_map cells_of_run runs) is
    go false is =
        ap (λ b. flat_map cells_of_run
        (cond b (run_from cell (first.length + 1) ∷ runs) (run_from cell 1 ∷ first ∷ runs))) is

pub runs_are_the_cells : RunsAreTheCells
unfolding runs_of
runs_are_the_cells [] = refl
runs_are_the_cells (cell ∷ cells) =
    cells_before cell (runs_of cells) ∙ ap (λ all. cell ∷ all) (runs_are_the_cells cells)

-- ---- the longest

grown : (cell : ℕ × ℕ) (first : Run) (runs : List Run) → is_right_of cell first ≡ true → AreMaximalRuns (first ∷ runs)
    → AreMaximalRuns (run_from cell (first.length + 1) ∷ runs)
grown cell first [] is apart = omega arith
grown cell first (next ∷ runs) is apart =
    let place = right_of cell first is in
    let some = apart.0 in
    let column : cell.0 + (first.length + 1 - 1) ≡ first.column + (first.length - 1) = omega arith in (
      omega arith,
      ap (λ x. is_right_of (x, cell.1) next) column
          ∙ ap (λ y. is_right_of (first.column + (first.length - 1), y) next) (sym place.0) ∙ apart.1,
      apart.2,
    )

apart_before : (cell : ℕ × ℕ) (runs : List Run) → AreMaximalRuns runs → AreMaximalRuns (before_runs cell runs)
apart_before cell [] apart = omega arith
apart_before cell (first ∷ runs) apart = go (is_right_of cell first) refl
  where
    go : (b : Bool) → is_right_of cell first ≡ b → AreMaximalRuns (before_runs cell (first ∷ runs))
    go true is =
        subst (λ b. AreMaximalRuns (cond b (run_from cell (first.length + 1) ∷ runs) (run_from cell 1 ∷ first ∷ runs)))
        (sym is) (grown cell first runs is apart)
    go false is =
        subst (λ b. AreMaximalRuns (cond b (run_from cell (first.length + 1) ∷ runs) (run_from cell 1 ∷ first ∷ runs)))
        (sym is)
        (omega arith, ap (λ x. is_right_of (x, cell.1) first) (omega arith) ∙ is, apart)

pub runs_are_longest : RunsAreLongest
unfolding runs_of
runs_are_longest [] = tt
runs_are_longest (cell ∷ cells) = apart_before cell (runs_of cells) (runs_are_longest cells)

-- ---- lines

left_out_before : (two : Bool × Bool) (others kept : List (Bool × Bool)) (n : ℕ) → kept ++ replicate n (false, false)
    ≡ others → (m : ℕ) × (before_cells two kept ++ replicate m (false, false) ≡ two ∷ others)
left_out_before (false, false) others [] n is = (suc n, ap (λ all. (false, false) ∷ all) is)
left_out_before (false, true) others [] n is = (n, ap (λ all. (false, true) ∷ all) is)
left_out_before (true, lower) others [] n is = (n, ap (λ all. (true, lower) ∷ all) is)
left_out_before two others (next ∷ kept) n is = (n, ap (λ all. two ∷ all) is)

pub dead_are_left_out : DeadAreLeftOut
unfolding trimmed
dead_are_left_out [] = (0, refl)
dead_are_left_out (two ∷ others) =
    let rest = dead_are_left_out others in left_out_before two others (trimmed others) rest.0 rest.1

abbrev first_or : {X : Type 0} → X → List X → X
first_or x [] = x
first_or x (y ∷ ys) = y

abbrev behind : {X : Type 0} → List X → List X
behind [] = []
behind (x ∷ xs) = xs

not_ended : {X : Type 0} (front : List X) (last : X) → [] ≡ front ++ last ∷ [] → ⊥
not_ended [] last is = cc
not_ended (x ∷ front) last is = cc

-- the last two cells of those that begin with some
last_of_one : (two : Bool × Bool) → (two.0 || two.1) ≡ true → (front : List (Bool × Bool)) (last : Bool × Bool)
    → two ∷ [] ≡ front ++ last ∷ [] → (last.0 || last.1) ≡ true
last_of_one two live [] last is = ap (λ cells. (first_or two cells).0 || (first_or two cells).1) (sym is) ∙ live
last_of_one two live (next ∷ front) last is = absurd (not_ended front last (ap behind is))

ends_live_before : (two : Bool × Bool) (kept : List (Bool × Bool))
    → ((front : List (Bool × Bool)) (last : Bool × Bool) → kept ≡ front ++ last ∷ [] → (last.0 || last.1) ≡ true)
    → (front : List (Bool × Bool)) (last : Bool × Bool) → before_cells two kept ≡ front ++ last ∷ []
    → (last.0 || last.1) ≡ true
ends_live_before (false, false) [] ends front last is = absurd (not_ended front last is)
ends_live_before (false, true) [] ends front last is = last_of_one (false, true) refl front last is
ends_live_before (true, lower) [] ends front last is = last_of_one (true, lower) refl front last is
ends_live_before two (next ∷ kept) ends [] last is = absurd (cc)
ends_live_before two (next ∷ kept) ends (first ∷ front) last is = ends front last (ap behind is)

pub lines_end_live : LinesEndLive
unfolding trimmed
lines_end_live [] front last is = absurd (not_ended front last is)
lines_end_live (two ∷ others) front last is =
    ends_live_before two (trimmed others) (lines_end_live others) front last is
