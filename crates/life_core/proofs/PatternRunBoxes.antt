-- The box of the cells of runs.
use Rattle.std.specs.Prelude.{◌≡◌, ℕ, zero, suc, ◌+◌, ◌<◌, ◌≤◌, ℤ, ◌≤ℤ◌, Some, List, [], ◌∷◌, ◌++◌, length, map, get_or}
use Rattle.std.specs.Prelude.{take, slice_get, true, refl}
use Rattle.std.proofs.Common.{sym, ap, subst, ◌∙◌, inl, inr, arith}
use Rattle.std.proofs.lemmas.Int.{ints}
use Rattle.std.proofs.lemmas.Bool.{false≢true, or_left, or_right, or_cases}
use Rattle.std.proofs.lemmas.List.{take_all, take_more, map-append}
use Rattle.std.specs.Int.{int_min, int_max}
use Rattle.std.specs.Option.{unwrap_or, is_some}
use Rattle.std.specs.FinSet as set
use Rattle.life_core.specs.declared.cell.Cell.{Cell}
use Rattle.life_core.specs.declared.runs.Run.{Run}
use Rattle.life_core.specs.Pattern.{Cells, IsLeast, IsGreatest}
use Rattle.life_core.specs.Runs.{runs_cells, first_cell, last_cell, IsInRun, IsRun, AreLongest}
use Rattle.life_core.proofs.PatternBoxes.{least_by, greatest_by, IsLeast-list, IsGreatest-list}
use Rattle.life_core.proofs.PatternMembers.{same_cell, has_cell, same_cell-self, same_cell-true, contains-list}
use Rattle.life_core.proofs.RunsLaws.{in_some, in_any, run_at, set_of_runs}

module _ (f : Cell → ℤ) (h : Run → Cell) where
  least_push : (m : ℤ) (cs : List Cell) (c : Cell) → least_by f m (cs ++ c ∷ []) ≡ int_min (least_by f m cs) (f c)
  least_push m [] c = refl
  least_push m (x ∷ cs) c = least_push (int_min m (f x)) cs c

  greatest_push : (m : ℤ) (cs : List Cell) (c : Cell)
      → greatest_by f m (cs ++ c ∷ []) ≡ int_max (greatest_by f m cs) (f c)
  greatest_push m [] c = refl
  greatest_push m (x ∷ cs) c = greatest_push (int_max m (f x)) cs c

  one_more : (rs : List Run) (i : ℕ) (d : Run) → i < length rs
      → map h (take (i + 1) rs) ≡ map h (take i rs) ++ h (get_or rs i d) ∷ []
  one_more rs i d low = ap (map h) (take_more rs i d low) ∙ map-append h (take i rs) (get_or rs i d ∷ [])

  pub least_more : (m : ℤ) (rs : List Run) (i : ℕ) (d : Run) → i < length rs
      → least_by f m (map h (take (i + 1) rs)) ≡ int_min (least_by f m (map h (take i rs))) (f (h (get_or rs i d)))
  least_more m rs i d low =
      ap (least_by f m) (one_more rs i d low) ∙ least_push m (map h (take i rs)) (h (get_or rs i d))

  pub greatest_more : (m : ℤ) (rs : List Run) (i : ℕ) (d : Run) → i < length rs → greatest_by f m
      (map h (take (i + 1) rs)) ≡ int_max (greatest_by f m (map h (take i rs))) (f (h (get_or rs i d)))
  greatest_more m rs i d low =
      ap (greatest_by f m) (one_more rs i d low) ∙ greatest_push m (map h (take i rs)) (h (get_or rs i d))

  -- the one that a cell of the list comes from
  from_some : (rs : List Run) (c : Cell) → has_cell (map h rs) c ≡ true
      → (k : ℕ) × (d : Run) × (k < length rs) × (c ≡ h (get_or rs k d))
  from_some [] c e = absurd (false≢true e)
  from_some (r ∷ rs) c e = elim (or_cases (same_cell c (h r)) (has_cell (map h rs) c) e) [
    | inl here ↦ (0, r, omega arith, same_cell-true c (h r) here)
    | inr there ↦ let it = from_some rs c there in (suc it.0, it.1, let low = it.2 in omega (arith, low), it.3)
  ]

  is_some_of : (rs : List Run) (k : ℕ) (d : Run) → k < length rs → has_cell (map h rs) (h (get_or rs k d)) ≡ true
  is_some_of [] k d low = absurd (omega (arith, low))
  is_some_of (r ∷ rs) zero d low = or_left _ _ (same_cell-self (h r))
  is_some_of (r ∷ rs) (suc k) d low =
      or_right (same_cell (h (get_or rs k d)) (h r)) _ (is_some_of rs k d (omega (arith, low)))

  has_first : (rs : List Run) (r : Run) → Some r ≡ slice_get rs 0 → has_cell (map h rs) (h r) ≡ true
  has_first [] r e = absurd (false≢true (sym (ap is_some e)))
  has_first (q ∷ rs) r e =
      or_left _ _ (ap (λ (s : Run). same_cell (h s) (h q)) (ap (λ o. unwrap_or o q) e) ∙ same_cell-self (h q))

  least_of : (rs : List Run) (r : Run) (i : ℕ) (m v : ℤ) → Some r ≡ slice_get rs 0 → length rs ≤ i
      → m ≡ f (h r) → v ≡ least_by f m (map h (take i rs)) → IsLeast f (set.from_list (map h rs)) v
  least_of rs r i m v here end start all =
      subst (IsLeast f (set.from_list (map h rs))) (sym (all ∙ ap (λ n. least_by f n (map h (take i rs))) start
      ∙ ap (λ (ss : List Run). least_by f (f (h r)) (map h ss)) (take_all i rs end)))
      (IsLeast-list f (h r) (map h rs) (has_first rs r here))

  greatest_of : (rs : List Run) (r : Run) (i : ℕ) (m v : ℤ) → Some r ≡ slice_get rs 0 → length rs ≤ i
      → m ≡ f (h r) → v ≡ greatest_by f m (map h (take i rs)) → IsGreatest f (set.from_list (map h rs)) v
  greatest_of rs r i m v here end start all =
      subst (IsGreatest f (set.from_list (map h rs))) (sym (all ∙ ap (λ n. greatest_by f n (map h (take i rs))) start
      ∙ ap (λ (ss : List Run). greatest_by f (f (h r)) (map h ss)) (take_all i rs end)))
      (IsGreatest-list f (h r) (map h rs) (has_first rs r here))

  -- the chosen cell of each run is one of its cells, and no cell gives less, or more
  lowest : (rs : List Run) (v : ℤ) → AreLongest rs → ((r : Run) → IsRun r → IsInRun r (h r))
      → ((r : Run) (c : Cell) → IsInRun r c → f (h r) ≤ℤ f c) → IsLeast f (set.from_list (map h rs)) v
      → IsLeast f (set.from_list (runs_cells rs)) v
  lowest rs v longest own low least = record {
    below = λ c live.
        let found = in_some rs c (ap (λ (X : Cells). set.contains X c) (sym (set_of_runs rs)) ∙ live) in
        let is : get_or rs found.0 found.1 ≡ found.1 = found.3 in
        let chosen = least.below (h found.1) (contains-list (map h rs) (h found.1)
        ∙ ap (λ (s : Run). has_cell (map h rs) (h s)) (sym is) ∙ is_some_of rs found.0 found.1 found.2) in
        let under = low found.1 c found.4 in
        omega (arith, ints, chosen, under);
    reached =
        let it = from_some rs least.reached.0 (sym (contains-list (map h rs) least.reached.0) ∙ least.reached.1) in
        let r = get_or rs it.0 it.1 in (
          h r,
          ap (λ (X : Cells). set.contains X (h r)) (set_of_runs rs)
              ∙ in_any rs it.0 it.1 (h r) it.2 (own r (run_at rs it.0 it.1 longest it.2)),
          ap f (sym it.3) ∙ least.reached.2,
        );
  }

  highest : (rs : List Run) (v : ℤ) → AreLongest rs → ((r : Run) → IsRun r → IsInRun r (h r))
      → ((r : Run) (c : Cell) → IsInRun r c → f c ≤ℤ f (h r)) → IsGreatest f (set.from_list (map h rs)) v
      → IsGreatest f (set.from_list (runs_cells rs)) v
  highest rs v longest own high greatest = record {
    above = λ c live.
        let found = in_some rs c (ap (λ (X : Cells). set.contains X c) (sym (set_of_runs rs)) ∙ live) in
        let is : get_or rs found.0 found.1 ≡ found.1 = found.3 in
        let chosen = greatest.above (h found.1) (contains-list (map h rs) (h found.1)
        ∙ ap (λ (s : Run). has_cell (map h rs) (h s)) (sym is) ∙ is_some_of rs found.0 found.1 found.2) in
        let over = high found.1 c found.4 in
        omega (arith, ints, chosen, over);
    reached =
        let it = from_some rs greatest.reached.0
        (sym (contains-list (map h rs) greatest.reached.0) ∙ greatest.reached.1) in
        let r = get_or rs it.0 it.1 in (
          h r,
          ap (λ (X : Cells). set.contains X (h r)) (set_of_runs rs)
              ∙ in_any rs it.0 it.1 (h r) it.2 (own r (run_at rs it.0 it.1 longest it.2)),
          ap f (sym it.3) ∙ greatest.reached.2,
        );
  }

own_first : (r : Run) → IsRun r → IsInRun r (first_cell r)
own_first r run =
    let some = run.some in record { row = refl; low = omega (arith, ints, some); high = omega (arith, ints, some) }

own_last : (r : Run) → IsRun r → IsInRun r (last_cell r)
own_last r run =
    let some = run.some in record { row = refl; low = omega (arith, ints, some); high = omega (arith, ints, some) }

module _ (rs : List Run) (r : Run) (i : ℕ) (m v : ℤ) (longest : AreLongest rs) (here : Some r ≡ slice_get rs 0)
    (end : length rs ≤ i) where
  pub least_first : m ≡ (first_cell r).column → v ≡ least_by (λ (c : Cell). c.column) m (map first_cell (take i rs))
      → IsLeast (λ (c : Cell). c.column) (set.from_list (runs_cells rs)) v
  least_first start all =
      lowest (λ (c : Cell). c.column) first_cell rs v longest own_first (λ r c inside. inside.low)
      (least_of (λ (c : Cell). c.column) first_cell rs r i m v here end start all)

  pub greatest_last : m ≡ (last_cell r).column → v ≡ greatest_by (λ (c : Cell). c.column) m (map last_cell (take i rs))
      → IsGreatest (λ (c : Cell). c.column) (set.from_list (runs_cells rs)) v
  greatest_last start all =
      highest (λ (c : Cell). c.column) last_cell rs v longest own_last
      (λ r c inside. let high = inside.high in omega (arith, ints, high))
      (greatest_of (λ (c : Cell). c.column) last_cell rs r i m v here end start all)

  pub least_top : m ≡ (first_cell r).row → v ≡ least_by (λ (c : Cell). c.row) m (map first_cell (take i rs))
      → IsLeast (λ (c : Cell). c.row) (set.from_list (runs_cells rs)) v
  least_top start all =
      lowest (λ (c : Cell). c.row) first_cell rs v longest own_first
      (λ r c inside. let row = inside.row in omega (arith, ints, row))
      (least_of (λ (c : Cell). c.row) first_cell rs r i m v here end start all)

  pub greatest_bottom : m ≡ (last_cell r).row → v ≡ greatest_by (λ (c : Cell). c.row) m (map last_cell (take i rs))
      → IsGreatest (λ (c : Cell). c.row) (set.from_list (runs_cells rs)) v
  greatest_bottom start all =
      highest (λ (c : Cell). c.row) last_cell rs v longest own_last
      (λ r c inside. let row = inside.row in omega (arith, ints, row))
      (greatest_of (λ (c : Cell). c.row) last_cell rs r i m v here end start all)
