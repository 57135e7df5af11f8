-- Lists of cells by their longest runs.
use Rattle.std.specs.Prelude.{◌≡◌, ◌⊎◌, ℕ, zero, suc, ◌+◌, ◌-◌, ◌^◌, ◌<◌, ℤ, pos, ◌+ℤ◌, ◌≤ℤ◌, List, [], ◌∷◌, ◌++◌}
use Rattle.std.specs.Prelude.{length, take, Bool, true, false, ◌||◌, Some, get_or, set, slice_get, refl}
use Rattle.std.proofs.Common.{sym, ap, subst, ◌∙◌, inl, inr, arith, append_assoc, append-nil}
use Rattle.std.proofs.lemmas.Int.{ints}
use Rattle.std.proofs.lemmas.List.{length-append, get_or_append_left, get_or-append-add, take_more}
use Rattle.std.proofs.lemmas.List.Folds.{list_any-append}
use Rattle.life_core.proofs.PatternMembers.{same_cell, has_cell}
use Rattle.std.proofs.lemmas.List.Concat.{flat_map-append}
use Rattle.std.proofs.lemmas.Option.{slice_get-get_or, none-some}
use Rattle.std.proofs.Math.Seq.{get_or-append_seam, set-append_seam}
use Rattle.std.specs.List.{All}
use Rattle.std.specs.Option.{unwrap_or}
use Rattle.life_core.specs.declared.cell.Cell.{Cell}
use Rattle.life_core.specs.declared.runs.Run.{Run}
use Rattle.life_core.specs.Runs.{cells_from, run_cells, runs_cells, IsRun, Joins, NoneJoins, AreLongest}
use Rattle.life_core.specs.RunsState.{JoinsLast}

-- ---- the last run

abbrev pub Split : List Run → Type 0
Split rs = (front : List Run) × (last : Run) × (rs ≡ front ++ last ∷ [])

pub split_last : (rs : List Run) → (rs ≡ []) ⊎ Split rs
split_last [] = inl refl
split_last (r ∷ rs) = inr (go r rs)
  where
    go : (r : Run) (rs : List Run) → Split (r ∷ rs)
    go r [] = ([], r, refl)
    go r (q ∷ rs) = let it = go q rs in (r ∷ it.0, it.1, ap (λ (ss : List Run). r ∷ ss) it.2)

-- where the last stands
pub last_place : (rs front : List Run) (last : Run) → rs ≡ front ++ last ∷ [] → length rs - 1 ≡ length front
last_place rs front last is =
    let long : length rs ≡ length front + 1 = ap length is ∙ length-append front (last ∷ []) in omega (arith, long)

pub last_is : (rs front : List Run) (last d : Run) → rs ≡ front ++ last ∷ [] → get_or rs (length rs - 1) d ≡ last
last_is rs front last d is = (λ i. get_or (is i) (last_place rs front last is i) d) ∙ get_or-append_seam front last [] d

pub last_got : (rs front : List Run) (last r : Run) → rs ≡ front ++ last ∷ []
    → slice_get rs (length rs - 1) ≡ Some r → last ≡ r
last_got rs front last r is got =
    let long : length rs ≡ length front + 1 = ap length is ∙ length-append front (last ∷ []) in
    let low : length rs - 1 < length rs = omega (arith, long) in
    sym (last_is rs front last r is) ∙ ap (λ o. unwrap_or o r) (sym (slice_get-get_or rs (length rs - 1) r low) ∙ got)

pub joins_last : (rs : List Run) (r s : Run) → slice_get rs (length rs - 1) ≡ Some r → Joins r s → JoinsLast rs s
joins_last rs r s got joins = elim (split_last rs) [
  | inl none ↦ absurd (none-some r (sym (ap (λ (ss : List Run). slice_get ss (length ss - 1)) none) ∙ got))
  | inr it ↦ record {
    front = it.0;
    last = it.1;
    all = it.2;
    joins = subst (λ (q : Run). Joins q s) (sym (last_got rs it.0 it.1 r it.2 got)) joins;
  }
]

pub last_joins : (rs : List Run) (r s : Run) → slice_get rs (length rs - 1) ≡ Some r → JoinsLast rs s → Joins r s
last_joins rs r s got it = subst (λ (q : Run). Joins q s) (last_got rs it.front it.last r it.all got) it.joins

-- whatever way the list is split
pub joins_split : (rs front : List Run) (last s : Run) → rs ≡ front ++ last ∷ [] → JoinsLast rs s → Joins last s
joins_split rs front last s is it =
    subst (λ (q : Run). Joins q s)
    (sym (last_is rs it.front it.last last it.all) ∙ last_is rs front last last is) it.joins

pub set_last : (rs front : List Run) (last r : Run) → rs ≡ front ++ last ∷ []
    → set rs (length rs - 1) r ≡ front ++ r ∷ []
set_last rs front last r is = (λ i. set (is i) (last_place rs front last is i) r) ∙ set-append_seam front last [] r

-- ---- one run more

-- of two parts of a run, the second begins where the first ends
pub cells_both : (row column : ℤ) (m n : ℕ)
    → cells_from row column (m + n) ≡ cells_from row column m ++ cells_from row (column +ℤ pos m) n
cells_both row column zero n =
    let here : column ≡ column +ℤ pos 0 = omega (arith, ints) in
    let none : 0 + n ≡ n = omega arith in
    ap (cells_from row column) none ∙ ap (λ x. cells_from row x n) here
cells_both row column (suc m) n =
    let one : suc m + n ≡ suc (m + n) = omega arith in
    let there : (column +ℤ pos 1) +ℤ pos m ≡ column +ℤ pos (suc m) = omega (arith, ints) in
    ap (cells_from row column) one
    ∙ ap (λ (cs : List Cell). record { row = row; column = column } ∷ cs)
    (cells_both row (column +ℤ pos 1) m n ∙ ap (λ x. cells_from row (column +ℤ pos 1) m ++ cells_from row x n) there)

pub push_cells : (rs : List Run) (s : Run) → runs_cells (rs ++ s ∷ []) ≡ runs_cells rs ++ run_cells s
push_cells rs s =
    flat_map-append run_cells rs (s ∷ []) ∙ ap (λ (cs : List Cell). runs_cells rs ++ cs) (append-nil (run_cells s))

abbrev pub longer : Run → ℕ → Run
longer r n = record { row = r.row; first = r.first; len = r.len + n }

longer_run : (r s : Run) → Joins r s → run_cells (longer r s.len) ≡ run_cells r ++ run_cells s
longer_run r s joins =
    cells_both r.row r.first r.len s.len ∙ (λ i. run_cells r ++ cells_from (joins.0 i) (joins.1 i) s.len)

pub longer_cells : (front : List Run) (last s : Run) → Joins last s
    → runs_cells (front ++ longer last s.len ∷ []) ≡ runs_cells (front ++ last ∷ []) ++ run_cells s
longer_cells front last s joins =
    push_cells front (longer last s.len) ∙ ap (λ (cs : List Cell). runs_cells front ++ cs) (longer_run last s joins)
    ∙ sym (append_assoc (runs_cells front) (run_cells last) (run_cells s))
    ∙ ap (λ (cs : List Cell). cs ++ run_cells s) (sym (push_cells front last))

pub push_longest : (rs : List Run) (s : Run) → AreLongest rs → IsRun s → (JoinsLast rs s → ⊥)
    → AreLongest (rs ++ s ∷ [])
push_longest [] s h run apart = (run, tt, tt)
push_longest (r ∷ []) s h run apart =
    (h.0, λ joins. apart (record { front = []; last = r; all = refl; joins = joins }), (run, tt, tt))
push_longest (r ∷ q ∷ rs) s h run apart = (
  h.0,
  h.1,
  push_longest (q ∷ rs) s h.2 run (λ it. apart (record {
    front = r ∷ it.front;
    last = it.last;
    all = ap (λ (ss : List Run). r ∷ ss) it.all;
    joins = it.joins;
  })),
)

-- a run of longest runs is one
pub last_run : (front : List Run) (last : Run) → AreLongest (front ++ last ∷ []) → IsRun last
last_run [] last h = h.0
last_run (r ∷ front) last h = last_run front last h.2

longer_none : (x : Run) (front : List Run) (last : Run) (n : ℕ) → NoneJoins x (front ++ last ∷ [])
    → NoneJoins x (front ++ longer last n ∷ [])
longer_none x [] last n none = none
longer_none x (r ∷ front) last n none = none

pub longer_longest : (front : List Run) (last : Run) (n : ℕ) → AreLongest (front ++ last ∷ [])
    → AreLongest (front ++ longer last n ∷ [])
longer_longest [] last n h = (record { some = omega (arith, h.0.some); from = h.0.from }, tt, tt)
longer_longest (r ∷ front) last n h = (h.0, longer_none r front last n h.1, longer_longest front last n h.2)

-- the last run of longest runs, where another begins where it ends, is no longer than may be
pub longer_fits : (front : List Run) (last s : Run) → AreLongest (front ++ last ∷ []) → Joins last s
    → (s.first +ℤ pos s.len) ≤ℤ pos 1100000001 → last.len + s.len < 2 ^ 32
longer_fits front last s h joins end = omega (arith, ints, (last_run front last h).from, joins.1, end)

-- ---- how many cells there are

pub length-run : (row column : ℤ) (n : ℕ) → length (cells_from row column n) ≡ n
length-run row column zero = refl
length-run row column (suc n) = ap suc (length-run row (column +ℤ pos 1) n)

pub length-more : (cells : List Cell) (s : Run) → length (cells ++ run_cells s) ≡ length cells + s.len
length-more cells s = length-append cells (run_cells s) ∙ ap (λ n. length cells + n) (length-run s.row s.first s.len)

-- ---- cells and runs that join others

or_swap : (a b o : Bool) → (a || (b || o)) ≡ ((b || a) || o)
or_swap true true o = refl
or_swap true false o = refl
or_swap false true o = refl
or_swap false false o = refl

pub runs_join : (rs : List Run) (i : ℕ) (r : Run) (d : Cell) (b : Bool) → i < length rs
    → (has_cell (run_cells (get_or rs i r)) d || (has_cell (runs_cells (take i rs)) d || b))
    ≡ (has_cell (runs_cells (take (i + 1) rs)) d || b)
runs_join rs i r d b low =
    or_swap _ (has_cell (runs_cells (take i rs)) d) b
    ∙ ap (λ x. x || b) (sym (list_any-append (same_cell d) (runs_cells (take i rs)) (run_cells (get_or rs i r)))
    ∙ ap (λ (cs : List Cell). has_cell cs d)
    (sym (push_cells (take i rs) (get_or rs i r)) ∙ ap runs_cells (sym (take_more rs i r low))))

-- what holds of all cells of a run, or of runs, holds of each
get_run : (row column : ℤ) (n i : ℕ) (d : Cell) → i < n
    → get_or (cells_from row column n) i d ≡ record { row = row; column = column +ℤ pos i }
get_run row column zero i d low = absurd (omega (arith, low))
get_run row column (suc n) zero d low =
    let here : column ≡ column +ℤ pos 0 = omega (arith, ints) in ap (λ z. record { row = row; column = z }) here
get_run row column (suc n) (suc i) d low =
    let there : (column +ℤ pos 1) +ℤ pos i ≡ column +ℤ pos (suc i) = omega (arith, ints) in
    get_run row (column +ℤ pos 1) n i d (omega (arith, low)) ∙ ap (λ z. record { row = row; column = z }) there

pub all_at : (P : Cell → Type 0) (row column : ℤ) (n i : ℕ) → All P (cells_from row column n)
    → i < n → P (record { row = row; column = column +ℤ pos i })
all_at P row column n i all low =
    let d : Cell = record { row = row; column = column } in
    let inside : i < length (cells_from row column n) = let long = length-run row column n in
    omega (arith, long, low) in
    subst P (get_run row column n i d low) (all i d inside)

left_part : (P : Cell → Type 0) (xs ys : List Cell) → All P (xs ++ ys) → All P xs
left_part P xs ys all i d low =
    let long = length-append xs ys in
    let inside : i < length (xs ++ ys) = omega (arith, long, low) in
    subst P (get_or_append_left xs ys d i low) (all i d inside)

right_part : (P : Cell → Type 0) (xs ys : List Cell) → All P (xs ++ ys) → All P ys
right_part P xs ys all i d low =
    let long = length-append xs ys in
    let inside : length xs + i < length (xs ++ ys) = omega (arith, long, low) in
    subst P (get_or-append-add xs ys i d) (all (length xs + i) d inside)

pub all_of_run : (P : Cell → Type 0) (rs : List Run) (i : ℕ) (d : Run) → All P (runs_cells rs)
    → i < length rs → All P (run_cells (get_or rs i d))
all_of_run P [] i d all low = absurd (omega (arith, low))
all_of_run P (r ∷ rs) zero d all low = left_part P (run_cells r) (runs_cells rs) all
all_of_run P (r ∷ rs) (suc i) d all low =
    all_of_run P rs i d (right_part P (run_cells r) (runs_cells rs) all) (omega (arith, low))
