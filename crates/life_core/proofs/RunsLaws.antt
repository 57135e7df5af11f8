-- The cells of runs.
use Rattle.std.specs.Prelude.{◌≡◌, ℕ, zero, suc, ◌+◌, ◌-◌, ◌<◌, ◌≤◌, ℤ, pos, ◌+ℤ◌, ◌-ℤ◌, ◌≤ℤ◌, ◌<ℤ◌, Bool, true, false}
use Rattle.std.specs.Prelude.{◌||◌, ◌⊎◌, List, [], ◌∷◌, ◌++◌, length, map, take, drop, refl, ⊤}
use Rattle.std.proofs.Common.{sym, ap, ◌∙◌, inl, inr, get_or, subst, append_assoc, arith}
use Rattle.std.specs.List.{list_any, flat_map}
use Rattle.std.specs.List.Sorted.{IsPermutation, IsStrictlySortedBy}
use Rattle.std.proofs.lemmas.List.{map-append, take-append-drop, take_more}
use Rattle.std.proofs.Math.Numerals.{suc-eq-add-one}
use Rattle.std.proofs.lemmas.Map.Keys.{sorted_tail, sorted_from_all_adjacent, Less-from_sorted}
use Rattle.std.specs.Ordering.{int_cmp, ordering_then, is_lt, MatchOrdering}
use Rattle.std.specs.declared.cmp.Ordering.{Ordering}
use Rattle.std.specs.declared.cmp.Ordering.TheVariants.{Less, Equal, Greater}
use Rattle.std.specs.Cmp.{int_cmp_is, int_ranks}
use Rattle.std.proofs.lemmas.Int.{ints, by_lt_z}
use Rattle.std.proofs.lemmas.Bool.{false≢true, cases_Bool, or_cases, or_left, or_right}
use Rattle.std.proofs.lemmas.List.Folds.{list_any-append, Any-from_list_any, list_any_at}
use Rattle.std.proofs.lemmas.List.Sorted.{list_any-IsPermutation}
use Rattle.std.specs.FinSet as set
use Rattle.life_core.specs.declared.cell.Cell.{Cell}
use Rattle.life_core.specs.Cell.{cell_cmp, moved_cell}
use Rattle.life_core.proofs.CellLemmas.{same_coordinates}
use Rattle.life_core.proofs.PatternMembers.{same_cell, has_cell, same_cell-true, same_cell-self, cell_cmp_total}
use Rattle.life_core.proofs.PatternMembers.{contains-list, cells_by_members}
use Rattle.life_core.specs.declared.runs.Run.{Run}
use Rattle.life_core.specs.Runs.{cells_from, run_cells, runs_cells, cells_in, first_cell, last_cell, moved_run, IsInRun}
use Rattle.life_core.specs.Runs.{IsRunBefore, AreRunsInOrder, IsRun, AreLongest, GainsBeginning}
use Rattle.std.proofs.lemmas.List.Concat.{flat_map-append}
use Rattle.life_core.proofs.RunsLemmas.{cells_both, push_cells}
use Rattle.life_core.proofs.PatternOrder.{above_first}

-- ---- one run

from_cells : (row column : ℤ) (n : ℕ) (c : Cell) → has_cell (cells_from row column n) c ≡ true
    → (c.row ≡ row) × (column ≤ℤ c.column) × (c.column <ℤ (column +ℤ pos n))
from_cells row column zero c h = absurd (false≢true h)
from_cells row column (suc n) c h =
    elim (or_cases (same_cell c (record { row = row; column = column }))
    (has_cell (cells_from row (column +ℤ pos 1) n) c) h) [
      | inl here ↦
          let at = same_cell-true c (record { row = row; column = column }) here in
          let same : c.column ≡ column = ap (λ (d : Cell). d.column) at in
          (ap (λ (d : Cell). d.row) at, omega (arith, ints), omega (arith, ints))
      | inr there ↦
          let rest = from_cells row (column +ℤ pos 1) n c there in
          (rest.0, omega (arith, ints, rest.1), omega (arith, ints, rest.2))
    ]

to_cells : (row column : ℤ) (n : ℕ) (c : Cell) → c.row ≡ row → column ≤ℤ c.column → c.column <ℤ (column +ℤ pos n)
    → has_cell (cells_from row column n) c ≡ true
to_cells row column zero c on low high = absurd (omega (arith, ints))
to_cells row column (suc n) c on low high = by_lt_z column c.column
    (λ later. or_right _ _ (to_cells row (column +ℤ pos 1) n c on (omega (arith, ints)) (omega (arith, ints))))
    (λ first.
    let at : c.column ≡ column = omega (arith, ints) in
    let same = same_coordinates c (record { row = row; column = column }) on at in
    or_left _ _ (ap (same_cell c) (sym same) ∙ same_cell-self c))

pub in_run : (r : Run) (c : Cell) → has_cell (run_cells r) c ≡ true → IsInRun r c
in_run r c h = let f = from_cells r.row r.first r.len c h in record { row = f.0; low = f.1; high = f.2 }

pub run_has : (r : Run) (c : Cell) → IsInRun r c → has_cell (run_cells r) c ≡ true
run_has r c h = to_cells r.row r.first r.len c h.row h.low h.high

pub first_in_run : (r : Run) → 1 ≤ r.len → IsInRun r (first_cell r)
first_in_run r some = record { row = refl; low = omega (arith, ints); high = omega (arith, ints) }

-- ---- lists of runs

pub contains-runs : (rs : List Run) (c : Cell)
    → set.contains (cells_in rs) c ≡ list_any (λ r. has_cell (run_cells r) c) rs
unfolding cells_in
contains-runs rs c = contains-list (flat_map run_cells rs) c ∙ go rs
  where
    go : (rs : List Run) → has_cell (flat_map run_cells rs) c ≡ list_any (λ r. has_cell (run_cells r) c) rs
    go [] = refl
    go (r ∷ rs) =
        list_any-append (same_cell c) (run_cells r) (flat_map run_cells rs)
        ∙ ap (λ b. has_cell (run_cells r) c || b) (go rs)

-- a cell of the list's runs is in one of them
pub in_some : (rs : List Run) (c : Cell) → set.contains (cells_in rs) c ≡ true
    → (k : ℕ) × (r : Run) × (k < length rs) × (get_or rs k r ≡ r) × IsInRun r c
in_some rs c h =
    let found = Any-from_list_any (λ r. has_cell (run_cells r) c) rs (sym (contains-runs rs c) ∙ h) in
    (found.0, found.1, found.2, found.3, in_run found.1 c found.4)

pub in_any : (rs : List Run) (k : ℕ) (d : Run) (c : Cell) → k < length rs → IsInRun (get_or rs k d) c
    → set.contains (cells_in rs) c ≡ true
in_any rs k d c low h =
    contains-runs rs c ∙ list_any_at (λ r. has_cell (run_cells r) c) rs k d low (run_has (get_or rs k d) c h)

pub none_in : (rs : List Run) (c : Cell) → ((k : ℕ) (r : Run) → k < length rs → get_or rs k r ≡ r → IsInRun r c → ⊥)
    → set.contains (cells_in rs) c ≡ false
none_in rs c none = elim (cases_Bool (set.contains (cells_in rs) c)) [
  | inl live ↦ let found = in_some rs c live in absurd (none found.0 found.1 found.2 found.3 found.4)
  | inr dead ↦ dead
]

pub contains-append : (rs ss : List Run) (c : Cell)
    → set.contains (cells_in (rs ++ ss)) c ≡ (set.contains (cells_in rs) c || set.contains (cells_in ss) c)
contains-append rs ss c =
    contains-runs (rs ++ ss) c ∙ list_any-append (λ r. has_cell (run_cells r) c) rs ss
    ∙ sym (λ i. contains-runs rs c i || contains-runs ss c i)

pub contains-one : (r : Run) (c : Cell) → set.contains (cells_in (r ∷ [])) c ≡ has_cell (run_cells r) c
contains-one r c = contains-runs (r ∷ []) c ∙ or-none (has_cell (run_cells r) c)
  where
    or-none : (b : Bool) → (b || false) ≡ b
    or-none true = refl
    or-none false = refl

-- the cells of runs and of one run more
pub push_cases : (rs : List Run) (r : Run) (c : Cell) → set.contains (cells_in (rs ++ r ∷ [])) c ≡ true
    → (set.contains (cells_in rs) c ≡ true) ⊎ IsInRun r c
push_cases rs r c h =
    elim (or_cases (set.contains (cells_in rs) c) (set.contains (cells_in (r ∷ [])) c)
    (sym (contains-append rs (r ∷ []) c) ∙ h)) [
      | inl old ↦ inl old
      | inr new ↦ inr (in_run r c (sym (contains-one r c) ∙ new))
    ]

pub push_old : (rs : List Run) (r : Run) (c : Cell) → set.contains (cells_in rs) c ≡ true
    → set.contains (cells_in (rs ++ r ∷ [])) c ≡ true
push_old rs r c h = contains-append rs (r ∷ []) c ∙ or_left _ _ h

pub push_new : (rs : List Run) (r : Run) (c : Cell) → IsInRun r c → set.contains (cells_in (rs ++ r ∷ [])) c ≡ true
push_new rs r c h = contains-append rs (r ∷ []) c ∙ or_right _ _ (contains-one r c ∙ run_has r c h)

-- the order of runs in a list plays no part
pub cells_in-permuted : (rs ss : List Run) → IsPermutation rs ss → cells_in rs ≡ cells_in ss
cells_in-permuted rs ss h =
    cells_by_members _ _ (λ c. contains-runs rs c ∙ list_any-IsPermutation (λ r. has_cell (run_cells r) c) rs ss h
    ∙ sym (contains-runs ss c))

-- ---- the order of cells

-- a cell in a row before, or further to the left, comes first
pub comes_first : (a b : Cell) → (a.row <ℤ b.row) ⊎ ((a.row ≡ b.row) × (a.column <ℤ b.column)) → cell_cmp a b ≡ Less
comes_first a b (inl above) =
    ap (λ o. ordering_then o (int_cmp a.column b.column)) (sym (int_cmp_is a.row b.row Less above))
comes_first a b (inr left) =
    ap (λ o. ordering_then o (int_cmp a.column b.column)) (sym (int_cmp_is a.row b.row Equal left.0))
    ∙ sym (int_cmp_is a.column b.column Less left.1)

-- and only such a cell does
pub first_cases : (a b : Cell) → cell_cmp a b ≡ Less → (a.row <ℤ b.row) ⊎ ((a.row ≡ b.row) × (a.column <ℤ b.column))
first_cases a b h = rows (int_cmp a.row b.row) (int_ranks a.row b.row) h
  where
    columns : (o : Ordering) → MatchOrdering o (a.column <ℤ b.column) (a.column ≡ b.column) (b.column <ℤ a.column)
        → o ≡ Less → a.column <ℤ b.column
    columns Less low e = low
    columns Equal same e = absurd (false≢true (ap is_lt e))
    columns Greater high e = absurd (false≢true (ap is_lt e))

    rows : (o : Ordering) → MatchOrdering o (a.row <ℤ b.row) (a.row ≡ b.row) (b.row <ℤ a.row)
        → ordering_then o (int_cmp a.column b.column) ≡ Less
        → (a.row <ℤ b.row) ⊎ ((a.row ≡ b.row) × (a.column <ℤ b.column))
    rows Less low e = inl low
    rows Equal same e = inr (same, columns (int_cmp a.column b.column) (int_ranks a.column b.column) e)
    rows Greater high e = absurd (false≢true (ap is_lt e))

-- ---- the runs of a sorted list

-- the cells after the last of a run come in rows below, or further to the right
before_rest : (row first : ℤ) (n : ℕ) (rest : List Cell) (c : Cell)
    → IsStrictlySortedBy cell_cmp (cells_from row first (suc n) ++ rest) → has_cell rest c ≡ true
    → (row <ℤ c.row) ⊎ ((row ≡ c.row) × ((first +ℤ pos (suc n)) ≤ℤ c.column))
before_rest row first zero rest c sorted h =
    elim (first_cases (record { row = row; column = first }) c
    (above_first (record { row = row; column = first }) rest c sorted h)) [
      | inl above ↦ inl above
      | inr left ↦ inr (left.0, let less = left.1 in omega (arith, ints))
    ]
before_rest row first (suc n) rest c sorted h =
    elim (before_rest row (first +ℤ pos 1) n rest c (sorted_tail cell_cmp _ _ sorted) h) [
      | inl above ↦ inl above
      | inr left ↦ inr (left.0, let less = left.1 in omega (arith, ints))
    ]

sorted_rest : (xs ys : List Cell) → IsStrictlySortedBy cell_cmp (xs ++ ys) → IsStrictlySortedBy cell_cmp ys
sorted_rest [] ys sorted = sorted
sorted_rest (x ∷ xs) ys sorted = sorted_rest xs ys (sorted_tail cell_cmp x (xs ++ ys) sorted)

before_first : (r s : Run) (rest : List Cell) → IsRun r → IsStrictlySortedBy cell_cmp (run_cells r ++ rest)
    → has_cell rest (first_cell s) ≡ true → IsRunBefore r s
before_first r s rest run sorted h = go r.len refl
  where
    go : (n : ℕ) → r.len ≡ n → IsRunBefore r s
    go zero none = absurd (let some = run.some in omega (arith, none))
    go (suc n) is =
        let first = before_rest r.row r.first n rest (first_cell s)
        (subst (λ m. IsStrictlySortedBy cell_cmp (cells_from r.row r.first m ++ rest)) is sorted) h in
        subst (λ m. (r.row <ℤ s.row) ⊎ ((r.row ≡ s.row) × ((r.first +ℤ pos m) ≤ℤ s.first))) (sym is) first

pub run_at : (rs : List Run) (i : ℕ) (d : Run) → AreLongest rs → i < length rs → IsRun (get_or rs i d)
run_at [] i d h low = absurd (omega (arith, low))
run_at (r ∷ rs) zero d h low = h.0
run_at (r ∷ rs) (suc i) d h low = run_at rs i d h.2 (omega (arith, low))

-- the set of runs is that of their cells
pub contains-listed : (rs : List Run) (c : Cell)
    → set.contains (set.from_list {R = cell_cmp} (runs_cells rs)) c ≡ set.contains (cells_in rs) c
unfolding cells_in
contains-listed rs c = refl

pub set_of_runs : (rs : List Run) → set.from_list (runs_cells rs) ≡ cells_in rs
unfolding cells_in
set_of_runs rs = refl

pub first_listed : (rs : List Run) (i : ℕ) (d : Run) → AreLongest rs → i < length rs
    → has_cell (runs_cells rs) (first_cell (get_or rs i d)) ≡ true
first_listed rs i d h low =
    sym (contains-list (runs_cells rs) (first_cell (get_or rs i d))) ∙ contains-listed rs (first_cell (get_or rs i d))
    ∙ in_any rs i d (first_cell (get_or rs i d)) low (first_in_run (get_or rs i d) (run_at rs i d h low).some)

-- the longest runs of sorted cells are in order
pub runs_in_order : (rs : List Run) → AreLongest rs → IsStrictlySortedBy cell_cmp (runs_cells rs) → AreRunsInOrder rs
runs_in_order [] h sorted i j d before low = absurd (omega (arith, low))
runs_in_order (r ∷ rs) h sorted zero zero d before low = absurd (omega (arith, before))
runs_in_order (r ∷ rs) h sorted zero (suc j) d before low =
    before_first r (get_or rs j d) (runs_cells rs) h.0 sorted (first_listed rs j d h.2 (omega (arith, low)))
runs_in_order (r ∷ rs) h sorted (suc i) zero d before low = absurd (omega (arith, before))
runs_in_order (r ∷ rs) h sorted (suc i) (suc j) d before low =
    runs_in_order rs h.2 (sorted_rest (run_cells r) (runs_cells rs) sorted) i j d (omega (arith, before))
    (omega (arith, low))

-- ---- the cells of runs in order

-- the first cells of two lists: that of the one stands before that of the other
abbrev Follows : Cell → List Cell → Type 0
Follows c [] = ⊤
Follows c (d ∷ ds) = cell_cmp c d ≡ Less

in_front : (c : Cell) (ds : List Cell) → Follows c ds → IsStrictlySortedBy cell_cmp ds
    → IsStrictlySortedBy cell_cmp (c ∷ ds)
in_front c [] less sorted = sorted_from_all_adjacent cell_cmp_total (c ∷ []) c (λ k low. absurd (omega (arith, low)))
in_front c (d ∷ ds) less sorted = sorted_from_all_adjacent cell_cmp_total (c ∷ d ∷ ds) c pairs
  where
    pairs : (k : ℕ) → k + 1 < length (c ∷ d ∷ ds)
        → cell_cmp (get_or (c ∷ d ∷ ds) k c) (get_or (c ∷ d ∷ ds) (k + 1) c) ≡ Less
    pairs zero low = less
    pairs (suc k) low =
        subst (λ n. cell_cmp (get_or (d ∷ ds) k c) (get_or (c ∷ d ∷ ds) n c) ≡ Less) {x = suc (k + 1)} {y = suc k + 1}
        (omega arith) (Less-from_sorted cell_cmp (d ∷ ds) k (k + 1) c sorted (omega arith) (omega (arith, low)))

-- cells of a row before a list that ascends
row_in_front : (row first : ℤ) (n : ℕ) (ds : List Cell)
    → Follows (record { row = row; column = (first +ℤ pos n) -ℤ pos 1 }) ds → IsStrictlySortedBy cell_cmp ds
    → IsStrictlySortedBy cell_cmp (cells_from row first n ++ ds)
row_in_front row first zero ds less sorted = sorted
row_in_front row first (suc zero) ds less sorted =
    in_front (record { row = row; column = first }) ds
    (subst (λ z. Follows (record { row = row; column = z }) ds) last less) sorted
  where
    last : (first +ℤ pos 1) -ℤ pos 1 ≡ first
    last = omega (arith, ints)
row_in_front row first (suc (suc n)) ds less sorted =
    in_front (record { row = row; column = first }) (cells_from row (first +ℤ pos 1) (suc n) ++ ds)
    (comes_first (record { row = row; column = first }) (record { row = row; column = first +ℤ pos 1 })
    (inr (refl, omega (arith, ints))))
    (row_in_front row (first +ℤ pos 1) (suc n) ds
    (subst (λ z. Follows (record { row = row; column = z }) ds) last less) sorted)
  where
    last : (first +ℤ pos (suc (suc n))) -ℤ pos 1 ≡ ((first +ℤ pos 1) +ℤ pos (suc n)) -ℤ pos 1
    last = omega (arith, ints)

-- where each of the longest runs ends before the next begins, their cells ascend
pub ordered_cells : (rs : List Run) (d : Run) → AreLongest rs
    → ((k : ℕ) → k + 1 < length rs → IsRunBefore (get_or rs k d) (get_or rs (k + 1) d))
    → IsStrictlySortedBy cell_cmp (runs_cells rs)
ordered_cells [] d h before =
    sorted_from_all_adjacent cell_cmp_total [] (record { row = pos 0; column = pos 0 })
    (λ k low. absurd (omega (arith, low)))
ordered_cells (r ∷ rs) d h before =
    row_in_front r.row r.first r.len (runs_cells rs) (follows rs h.2 (λ low. before 0 low))
    (ordered_cells rs d h.2 (λ k low. subst (λ n. IsRunBefore (get_or rs k d) (get_or (r ∷ rs) n d))
    {x = suc k + 1} {y = suc (k + 1)} (omega arith) (before (suc k) (omega (arith, low)))))
  where
    begins : (s : Run) (cs : List Cell) → 1 ≤ s.len → (r.row <ℤ s.row)
        ⊎ ((r.row ≡ s.row) × (((r.first +ℤ pos r.len) -ℤ pos 1) <ℤ s.first)) → Follows (last_cell r) (run_cells s ++ cs)
    begins s cs some less = go s.len refl
      where
        go : (n : ℕ) → s.len ≡ n → Follows (last_cell r) (cells_from s.row s.first n ++ cs)
        go zero none = absurd (omega (arith, some, none))
        go (suc n) is = comes_first (last_cell r) (first_cell s) less

    follows : (ss : List Run) → AreLongest ss → (0 + 1 < length (r ∷ ss) → IsRunBefore r (get_or ss 0 d))
        → Follows (last_cell r) (runs_cells ss)
    follows [] longest less = tt
    follows (s ∷ ss) longest less = begins s (runs_cells ss) longest.0.some (elim (less (omega arith)) [
      | inl above ↦ inl above
      | inr left ↦ inr (left.0, let end = left.1 in omega (arith, ints))
    ])

-- ---- runs listed cell by cell

cells_from_more : (row column : ℤ) (n : ℕ)
    → cells_from row column (suc n) ≡ cells_from row column n ++ record { row = row; column = column +ℤ pos n } ∷ []
cells_from_more row column zero = λ i. record { row = row; column = same i } ∷ []
  where
    same : column ≡ column +ℤ pos 0
    same = omega (arith, ints)
cells_from_more row column (suc n) =
    λ i. record { row = row; column = column } ∷ (cells_from_more row (column +ℤ pos 1) n
    ∙ ap (λ z. cells_from row (column +ℤ pos 1) n ++ record { row = row; column = z } ∷ []) same) i
  where
    same : (column +ℤ pos 1) +ℤ pos n ≡ column +ℤ pos (suc n)
    same = omega (arith, ints)

-- one cell of a run more is listed
pub list_more : (old cells after : List Cell) (r : Run) (i : ℕ) (c : Cell) → cells ≡ old ++ cells_from r.row r.first i
    → c ≡ record { row = r.row; column = r.first +ℤ pos i } → after ≡ cells ++ c ∷ []
    → after ≡ old ++ cells_from r.row r.first (i + 1)
list_more old cells after r i c before at push =
    push ∙ (λ j. before j ++ at j ∷ [])
    ∙ append_assoc old (cells_from r.row r.first i) (record { row = r.row; column = r.first +ℤ pos i } ∷ [])
    ∙ ap (λ (cs : List Cell). old ++ cs) (sym (cells_from_more r.row r.first i))
    ∙ ap (λ n. old ++ cells_from r.row r.first n) (suc-eq-add-one i)

-- the first cells of a run were listed
pub list_begun : (old new : List Cell) (r : Run) (i : ℕ) → i < r.len → new ≡ old ++ cells_from r.row r.first i
    → GainsBeginning (run_cells r) old new
list_begun old new r i low listed =
    let parts : r.len ≡ i + (r.len - i) = omega (arith, low) in (
      cells_from r.row r.first i,
      cells_from r.row (r.first +ℤ pos i) (r.len - i),
      ap (cells_from r.row r.first) parts ∙ cells_both r.row r.first i (r.len - i),
      listed,
    )

-- the first runs were listed, and of the next one a beginning
pub runs_begun : (old cells new : List Cell) (rs : List Run) (i : ℕ) (d : Run) → i < length rs
    → cells ≡ old ++ runs_cells (take i rs) → GainsBeginning (run_cells (get_or rs i d)) cells new
    → GainsBeginning (runs_cells rs) old new
runs_begun old cells new rs i d low before (done, rest, whole, gained) =
    let r = get_or rs i d in
    let first = runs_cells (take i rs) in
    let others = runs_cells (drop (i + 1) rs) in
    let split : runs_cells rs ≡ (first ++ run_cells r) ++ others =
    ap runs_cells (sym (take-append-drop (i + 1) rs)) ∙ flat_map-append run_cells (take (i + 1) rs) (drop (i + 1) rs)
    ∙ ap (λ (cs : List Cell). cs ++ others) (ap runs_cells (take_more rs i d low) ∙ push_cells (take i rs) r) in (
      first ++ done,
      rest ++ others,
      split ∙ ap (λ (cs : List Cell). (first ++ cs) ++ others) whole ∙ ap (λ (cs : List Cell). cs ++ others)
          (sym (append_assoc first done rest)) ∙ append_assoc (first ++ done) rest others,
      gained ∙ ap (λ (cs : List Cell). cs ++ done) before ∙ append_assoc old first done,
    )

-- ---- runs that are moved

moved_cells : (row column dx dy : ℤ) (n : ℕ)
    → cells_from (row +ℤ dy) (column +ℤ dx) n ≡ map (moved_cell dx dy) (cells_from row column n)
moved_cells row column dx dy zero = refl
moved_cells row column dx dy (suc n) = λ i. record {
  row = row +ℤ dy;
  column = column +ℤ dx;
} ∷ (ap (λ z. cells_from (row +ℤ dy) z n) same ∙ moved_cells row (column +ℤ pos 1) dx dy n) i
  where
    same : (column +ℤ dx) +ℤ pos 1 ≡ (column +ℤ pos 1) +ℤ dx
    same = omega (arith, ints)

pub moved_list : (dx dy : ℤ) (rs : List Run)
    → flat_map run_cells (map (moved_run dx dy) rs) ≡ map (moved_cell dx dy) (flat_map run_cells rs)
moved_list dx dy [] = refl
moved_list dx dy (r ∷ rs) =
    (λ i. moved_cells r.row r.first dx dy r.len i ++ moved_list dx dy rs i)
    ∙ sym (map-append (moved_cell dx dy) (run_cells r) (flat_map run_cells rs))
