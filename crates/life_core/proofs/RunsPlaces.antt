-- The positions of runs in order.
use Rattle.std.specs.Prelude.{◌≡◌, ℕ, ◌<◌, ◌≤◌, ℤ, pos, ◌+ℤ◌, ◌≤ℤ◌, ◌<ℤ◌, int_lt, int_le, true, false, ◌&&◌, List}
use Rattle.std.specs.Prelude.{length, get_or}
use Rattle.std.proofs.Common.{T, sym, ap, subst, ◌∙◌, inl, inr, arith}
use Rattle.std.specs.Ordering.{int_eq}
use Rattle.std.specs.Cmp.{signed_Decides}
use Rattle.std.proofs.lemmas.Bool.{false≢true, or_cases, or_left, or_right, and_parts, and_from, cases_lt}
use Rattle.std.proofs.lemmas.Bool.{true_from_ne_false}
use Rattle.std.proofs.lemmas.Int.{ints, by_lt_z}
use Rattle.std.proofs.lemmas.List.{get_or_default}
use Rattle.std.specs.List.Sorted.{IsPartitionedBy}
use Rattle.std.specs.FinSet as set
use Rattle.life_core.specs.declared.cell.Cell.{Cell}
use Rattle.life_core.specs.declared.runs.Run.{Run}
use Rattle.life_core.specs.Runs.{cells_in, IsBehind, IsAhead, in_run, IsInRun, IsRunBefore, AreRunsInOrder}
use Rattle.life_core.specs.RunsState.{is_before_cell}
use Rattle.life_core.proofs.RunsLaws.{none_in}

lt_from : {a b : ℤ} → a <ℤ b → int_lt a b ≡ true
lt_from {a} {b} h = true_from_ne_false (int_lt a b) (λ e. subst T e h.lt)

le_from : {a b : ℤ} → a ≤ℤ b → int_le a b ≡ true
le_from {a} {b} h = true_from_ne_false (int_le a b) (λ e. subst T e h.le)

pub behind_true : (r : Run) (row column : ℤ) → is_before_cell r row column ≡ true → IsBehind r row column
behind_true r row column h =
    elim (or_cases (int_lt r.row row) (int_eq r.row row && int_le (r.first +ℤ pos r.len) column) h) [
      | inl above ↦ inl (record { lt = subst T (sym above) tt })
      | inr left ↦
          let both = and_parts _ _ left in
          inr ((signed_Decides r.row row).0 both.0, record { le = subst T (sym both.1) tt })
    ]

pub ahead_false : (r : Run) (row column : ℤ) → is_before_cell r row column ≡ false → IsAhead r row column
ahead_false r row column h = by_lt_z row r.row (λ below. inl below) (λ up. by_lt_z r.row row
    (λ above. absurd (false≢true (sym h ∙ or_left _ _ (lt_from above))))
    (λ down.
    let on : r.row ≡ row = omega (arith, ints) in
    inr (
      on,
      by_lt_z column (r.first +ℤ pos r.len) (λ high. high)
          (λ low. absurd (false≢true (sym h
          ∙ or_right (int_lt r.row row) _ (and_from _ _ ((signed_Decides r.row row).1 on) (le_from low))))),
    )))

pub true_behind : (r : Run) (row column : ℤ) → IsBehind r row column → is_before_cell r row column ≡ true
true_behind r row column (inl above) = or_left _ _ (lt_from above)
true_behind r row column (inr left) =
    or_right (int_lt r.row row) _ (and_from _ _ ((signed_Decides r.row row).1 left.0) (le_from left.1))

-- the runs that end before a place stand before the others
pub rows_parted : (rs : List Run) (row column : ℤ) → AreRunsInOrder rs
    → IsPartitionedBy (λ r. is_before_cell r row column) rs
rows_parted rs row column order i j d before low h = elim (cases_lt i j) [
  | inl less ↦
      true_behind (get_or rs i d) row column
      (earlier (get_or rs i d) (get_or rs j d) (order i j d less low) (behind_true (get_or rs j d) row column h))
  | inr same ↦ let one : i ≡ j = omega arith in ap (λ n. is_before_cell (get_or rs n d) row column) one ∙ h
]
  where
    earlier : (r s : Run) → IsRunBefore r s → IsBehind s row column → IsBehind r row column
    earlier r s (inl p) (inl q) = inl (omega (arith, ints))
    earlier r s (inl p) (inr q) = inl (let e = q.0 in omega (arith, ints))
    earlier r s (inr p) (inl q) = inl (let e = p.0 in omega (arith, ints))
    earlier r s (inr p) (inr q) = inr (p.0 ∙ q.0, let a = p.1 in let b = q.1 in omega (arith, ints))

-- the run that is the first not to end before a cell has it, or none does
pub not_before : (rs : List Run) (i : ℕ) (d : Run) (c : Cell) → AreRunsInOrder rs → i < length rs
    → ((k : ℕ) (d : Run) → k < i → IsBehind (get_or rs k d) c.row c.column) → IsAhead (get_or rs i d) c.row c.column
    → (IsInRun (get_or rs i d) c → ⊥) → set.contains (cells_in rs) c ≡ false
not_before rs i d c order low behind ahead out = none_in rs c (λ k r in_list is inside.
    let at : get_or rs k d ≡ r = is_at k r in_list is in
    elim (cases_lt k i) [
      | inl before ↦ past r inside (subst (λ (s : Run). IsBehind s c.row c.column) at (behind k d before))
      | inr after ↦ elim (cases_lt i k) [
        | inl later ↦
            beyond (get_or rs i d) r inside ahead (subst (IsRunBefore (get_or rs i d)) at (order i k d later in_list))
        | inr other ↦
            let same : k ≡ i = omega (arith, after, other) in
            out (subst (λ (s : Run). IsInRun s c) (sym at ∙ ap (λ n. get_or rs n d) same) inside)
      ]
    ])
  where
    is_at : (k : ℕ) (r : Run) → k < length rs → get_or rs k r ≡ r → get_or rs k d ≡ r
    is_at k r in_list is = get_or_default rs k d r in_list ∙ is

    past : (r : Run) → IsInRun r c → IsBehind r c.row c.column → ⊥
    past r inside (inl above) = absurd (let row = inside.row in omega (arith, ints, row, above))
    past r inside (inr left) = absurd (let high = inside.high in omega (arith, ints, high, left.1))

    beyond : (q r : Run) → IsInRun r c → IsAhead q c.row c.column → IsRunBefore q r → ⊥
    beyond q r inside (inl below) (inl above) = absurd (let row = inside.row in omega (arith, ints, row, below, above))
    beyond q r inside (inl below) (inr on) =
        absurd (let row = inside.row in let e = on.0 in omega (arith, ints, row, below, e))
    beyond q r inside (inr here) (inl above) =
        absurd (let row = inside.row in let e = here.0 in omega (arith, ints, row, above, e))
    beyond q r inside (inr here) (inr on) = absurd (let low = inside.low in omega (arith, ints, low, here.1, on.1))

-- ---- what the questions of a run mean

pub in_run_is : (r : Run) (c : Cell) → (in_run r c ≡ true → IsInRun r c) × (IsInRun r c → in_run r c ≡ true)
in_run_is r c = (
  λ h.
      let first = and_parts _ _ h in
      let last = and_parts _ _ first.1 in
      record {
        row = sym ((signed_Decides r.row c.row).0 first.0);
        low = record { le = subst T (sym last.0) tt };
        high = record { lt = subst T (sym last.1) tt };
      },
  λ h. and_from _ _ ((signed_Decides r.row c.row).1 (sym h.row)) (and_from _ _ (le_from h.low) (lt_from h.high)),
)

-- where each run ends before a cell, none has it
pub all_behind : (rs : List Run) (c : Cell)
    → ((k : ℕ) (d : Run) → k < length rs → IsBehind (get_or rs k d) c.row c.column)
    → set.contains (cells_in rs) c ≡ false
all_behind rs c behind =
    none_in rs c
    (λ k r in_list is inside. past r inside (subst (λ (s : Run). IsBehind s c.row c.column) is (behind k r in_list)))
  where
    past : (r : Run) → IsInRun r c → IsBehind r c.row c.column → ⊥
    past r inside (inl above) = absurd (let row = inside.row in omega (arith, ints, row, above))
    past r inside (inr left) = absurd (let high = inside.high in omega (arith, ints, high, left.1))

pub below_end : (i n : ℕ) → i ≤ n → (i ≡ n → ⊥) → i < n
below_end i n bound other =
    elim (cases_lt i n) [ inl low ↦ low | inr high ↦ absurd (other (omega (arith, bound, high))) ]
