-- In sorted visits, the passes find all pairs that are near each other.
use Rattle.std.specs.Prelude.{◌≡◌, ◌↔◌, ℕ, ◌+◌, ◌-◌, ◌≤◌, ◌<◌, ℤ, pos, negsuc, ◌+ℤ◌, ◌-ℤ◌, ◌≤ℤ◌, ◌<ℤ◌, Bool, true}
use Rattle.std.specs.Prelude.{false, IsTrue, ◌&&◌, nat_le, int_le, List, length, refl}
use Rattle.std.proofs.Common.{sym, ap, subst, ◌∙◌, inl, inr, get_or, take, drop, T, arith}
use Rattle.std.specs.declared.cmp.Ordering.{Ordering}
use Rattle.std.specs.declared.cmp.Ordering.TheVariants.{Less, Equal, Greater}
use Rattle.std.specs.Bool.{MatchBool}
use Rattle.std.specs.Ordering.{MatchOrdering, is_lt, int_cmp, nat_cmp, ordering_then}
use Rattle.std.specs.Cmp.{IsTotalOrder, IsStrictWeakOrder, int_cmp_is, int_ranks}
use Rattle.std.specs.Int.RustNames.{unsigned_abs}
use Rattle.std.specs.List.{All, Contains}
use Rattle.std.specs.List.Sorted.{IsSorted}
use Rattle.std.proofs.lemmas.Bool.{and_from, and_parts, cases_lt, false_from_ne_true, leb-true, le-leb}
use Rattle.std.proofs.lemmas.Bool.{true_from_ne_false, false≢true}
use Rattle.std.proofs.lemmas.Cmp.{then_total, on_total, nat_cmp_total}
use Rattle.std.proofs.lemmas.Int.{ints, by_lt_z}
use Rattle.std.proofs.lemmas.List.{get_or-drop, get_or-take, get_or_default, length-drop, length-take-le, take_all}
use Rattle.std.proofs.lemmas.List.Elements.{at_from_Contains, Contains-from_at, Contains-get_or}
use Rattle.std.proofs.lemmas.List.Sorted.{ranks_by, sorted_far}
use Rattle.life_core.specs.declared.cell.Cell.{Cell}
use Rattle.life_core.specs.Cell.{cell_cmp, moved_cell}
use Rattle.life_core.proofs.CellLemmas.{cell_cmp-moved}
use Rattle.life_core.proofs.PatternMembers.{cell_cmp_total, same_answer}
use Rattle.life_code.proofs.ApartNear.{near_within, near_symmetric}
use Rattle.life_code.specs.Apart.{within_two, near}
use Rattle.life_census.specs.declared.meeting.Visit.{Visit}
use Rattle.life_census.specs.SteadyState.{visit_cmp, ComesBefore, KeepApart, KeepApartUpTo, AreAllApart, AreRowsApart}

-- ---- the test of two cells

within : (a b : ℤ) → nat_le (unsigned_abs (a -ℤ b)) 2 ≡ within_two a b
within a b = same_answer _ _ to from
  where
    le_from : {x y : ℤ} → x ≤ℤ y → int_le x y ≡ true
    le_from {x} {y} h = true_from_ne_false (int_le x y) (λ e. subst T e h.le)

    le_true : {x y : ℤ} → int_le x y ≡ true → x ≤ℤ y
    le_true h = record { le = subst T (sym h) tt }

    to : nat_le (unsigned_abs (a -ℤ b)) 2 ≡ true → within_two a b ≡ true
    to h =
        let few : unsigned_abs (a -ℤ b) ≤ 2 = leb-true _ 2 h in
        let up : a ≤ℤ (b +ℤ pos 2) = omega (arith, ints) in
        let down : b ≤ℤ (a +ℤ pos 2) = omega (arith, ints) in
        and_from _ _ (le_from up) (le_from down)

    from : within_two a b ≡ true → nat_le (unsigned_abs (a -ℤ b)) 2 ≡ true
    from h =
        let both = and_parts (int_le a (b +ℤ pos 2)) (int_le b (a +ℤ pos 2)) h in
        let up : a ≤ℤ (b +ℤ pos 2) = le_true both.0 in
        let down : b ≤ℤ (a +ℤ pos 2) = le_true both.1 in
        let few : unsigned_abs (a -ℤ b) ≤ 2 = omega (arith, ints) in
        le-leb _ 2 few

is_near : (a b : Cell) → (nat_le (unsigned_abs (a.row -ℤ b.row)) 2 && nat_le (unsigned_abs (a.column -ℤ b.column)) 2)
    ≡ near a b
unfolding near
is_near a b = λ i. within a.row b.row i && within a.column b.column i

-- what the two steps of the test answer
pub near_then : (a b : Cell) (m n : ℕ) → m ≡ unsigned_abs (a.row -ℤ b.row) → m ≤ 2
    → n ≡ unsigned_abs (a.column -ℤ b.column) → nat_le n 2 ≡ near a b
near_then a b m n rows few columns =
    ap (λ k. nat_le k 2) columns
    ∙ sym (ap (λ t. t && nat_le (unsigned_abs (a.column -ℤ b.column)) 2)
    (ap (λ k. nat_le k 2) (sym rows) ∙ le-leb m 2 few))
    ∙ is_near a b

pub near_else : (a b : Cell) (m : ℕ) → m ≡ unsigned_abs (a.row -ℤ b.row) → 2 < m → nat_le m 2 ≡ near a b
near_else a b m rows many =
    let far : nat_le m 2 ≡ false = false_from_ne_true (nat_le m 2) (λ t. let few = leb-true m 2 t in omega arith) in
    far ∙ sym (ap (λ t. t && nat_le (unsigned_abs (a.column -ℤ b.column)) 2) (ap (λ k. nat_le k 2) (sym rows) ∙ far))
    ∙ is_near a b

-- ---- sorted visits

visit_cmp_total : IsTotalOrder visit_cmp
visit_cmp_total =
    then_total (on_total (λ (v : Visit). v.cell) cell_cmp_total) (on_total (λ (v : Visit). v.cluster) nat_cmp_total)

cells_rank : IsStrictWeakOrder (λ c d. is_lt (cell_cmp c d))
cells_rank = ranks_by cell_cmp_total (λ (c : Cell). c)

-- the cells of later visits do not come before
cells_ascend : (visits : List Visit) → IsSorted visit_cmp visits → (i j : ℕ) (d : Visit) → i ≤ j
    → j < length visits → is_lt (cell_cmp (get_or visits j d).cell (get_or visits i d).cell) ≡ false
cells_ascend visits sorted i j d order low =
    by_cells (cell_cmp (get_or visits j d).cell (get_or visits i d).cell)
    (nat_cmp (get_or visits j d).cluster (get_or visits i d).cluster)
    (sorted_far (λ v w. is_lt (visit_cmp v w))
    (ranks_by visit_cmp_total (λ (v : Visit). v)) visits sorted i j d order low)
  where
    by_cells : (o p : Ordering) → is_lt (ordering_then o p) ≡ false → is_lt o ≡ false
    by_cells Less p h = h
    by_cells Equal p h = refl
    by_cells Greater p h = refl

-- what comes before a cell comes before those that do not come before that
still_before : (c d e : Cell) → ComesBefore c d → is_lt (cell_cmp e d) ≡ false → ComesBefore c e
still_before c d e first not =
    true_from_ne_false (is_lt (cell_cmp c e)) (λ no_more. false≢true (sym (cells_rank.chain c e d no_more not) ∙ first))

pub sorted_drop : (visits : List Visit) (n : ℕ) → n ≤ length visits → IsSorted visit_cmp visits
    → IsSorted visit_cmp (drop n visits)
sorted_drop visits n low sorted k d from below =
    let long : length (drop n visits) ≡ length visits - n = length-drop n visits in
    let moved : n + (k + 1) ≡ n + k + 1 = omega arith in
    (λ i. is_lt (visit_cmp (get_or-drop n visits (k + 1) d i) (get_or-drop n visits k d i)))
    ∙ ap (λ m. is_lt (visit_cmp (get_or visits m d) (get_or visits (n + k) d))) moved
    ∙ sorted (n + k) d (omega arith) (omega arith)

-- what a slice holds from a place on
abbrev pub rest : List Visit → ℕ → List Visit
rest visits from = take (length visits - from) (drop from visits)

pub sorted_rest : (visits : List Visit) (from : ℕ) → from ≤ length visits → IsSorted visit_cmp visits
    → IsSorted visit_cmp (rest visits from)
sorted_rest visits from room sorted =
    let long : length (drop from visits) ≡ length visits - from = length-drop from visits in
    subst (IsSorted visit_cmp) (sym (take_all (length visits - from) (drop from visits) (omega arith)))
    (sorted_drop visits from room sorted)

at_rest : (visits : List Visit) (from k : ℕ) (d : Visit) → k < length visits - from
    → get_or (rest visits from) k d ≡ get_or visits (from + k) d
at_rest visits from k d low =
    get_or-take (length visits - from) (drop from visits) k d low ∙ get_or-drop from visits k d

length_rest : (visits : List Visit) (from : ℕ) → from ≤ length visits → length (rest visits from) ≡ length visits - from
length_rest visits from room =
    let long : length (drop from visits) ≡ length visits - from = length-drop from visits in
    length-take-le (length visits - from) (drop from visits) (omega arith)

-- ---- the columns in which a cell of a row can be near

-- of two cells of one row the first is in the lesser column
in_columns : (a b : Cell) → a.row ≡ b.row → ComesBefore a b → a.column <ℤ b.column
in_columns a b row before =
    by (int_cmp a.column b.column) (int_ranks a.column b.column)
    (ap (λ o. is_lt (ordering_then o (int_cmp a.column b.column))) (int_cmp_is a.row b.row Equal row) ∙ before)
  where
    by : (o : Ordering) → MatchOrdering o (a.column <ℤ b.column) (a.column ≡ b.column) (b.column <ℤ a.column)
        → is_lt o ≡ true → a.column <ℤ b.column
    by Less low e = low
    by Equal same e = absurd (false≢true e)
    by Greater high e = absurd (false≢true e)

-- the first and the last cell that can be near, so many rows below
abbrev pub first_near : ℤ → Visit → Cell
first_near rows v = moved_cell (negsuc 1) rows v.cell

abbrev pub last_near : ℤ → Visit → Cell
last_near rows v = moved_cell (pos 2) rows v.cell

far_before : (rows : ℤ) (v w : Visit) → w.cell.row ≡ v.cell.row +ℤ rows → ComesBefore w.cell (first_near rows v)
    → near v.cell w.cell ≡ false
far_before rows v w row before = false_from_ne_true (near v.cell w.cell) (λ close.
    let n = near_within v.cell w.cell close in
    let left = in_columns w.cell (first_near rows v) row before in
    absurd (omega (arith, ints, n.columns_up, left)))

far_after : (rows : ℤ) (v w : Visit) → w.cell.row ≡ v.cell.row +ℤ rows → ComesBefore (last_near rows v) w.cell
    → near v.cell w.cell ≡ false
far_after rows v w row after = false_from_ne_true (near v.cell w.cell) (λ close.
    let n = near_within v.cell w.cell close in
    let right = in_columns (last_near rows v) w.cell (sym row) after in
    absurd (omega (arith, ints, n.columns_down, right)))

-- ---- what a visit meets

-- a visit that comes after the last cell has none up to it after it
pub none_after : (v : Visit) (last : Cell) (others : List Visit) (i : ℕ) (e : Visit) → IsSorted visit_cmp others
    → i < length others → ComesBefore last (get_or others i e).cell
    → All (KeepApart v) (take i others) → All (KeepApartUpTo last v) others
none_after v last others i e sorted low after before k d high up_to = elim (cases_lt k i) [
  | inl sooner ↦
      let long : length (take i others) ≡ i = length-take-le i others (omega arith) in
      subst (KeepApart v) (get_or-take i others k d sooner) (before k d (omega arith))
  | inr later ↦
      let behind = (λ j. is_lt (cell_cmp (get_or others k d).cell (get_or_default others i e d low j).cell))
      ∙ cells_ascend others sorted i k d later high in
      absurd (false≢true (sym up_to ∙ still_before last (get_or others i e).cell (get_or others k d).cell after behind))
]

pub apart_up_to : (v : Visit) (last : Cell) (others : List Visit) → All (KeepApart v) others
    → All (KeepApartUpTo last v) others
apart_up_to v last others apart k d low up_to = apart k d low

-- ---- what all visits meet so many rows below

-- those before a place come before the first that can be near to the visit at place i or to a later one
abbrev pub AreBehind : ℤ → List Visit → ℕ → ℕ → Type 0
AreBehind rows visits from i =
    (a b : ℕ) (d : Visit) → a < from → i ≤ b → b < length visits
    → ComesBefore (get_or visits a d).cell (first_near rows (get_or visits b d))

-- the visits before place i keep apart from all that lie so many rows below them
abbrev pub AreRowsApartBefore : ℤ → List Visit → ℕ → Type 0
AreRowsApartBefore rows visits i =
    (a b : ℕ) (d : Visit) → a < i → b < length visits → (get_or visits b d).cell.row
    ≡ (get_or visits a d).cell.row +ℤ rows → KeepApart (get_or visits a d) (get_or visits b d)

behind_more : (rows : ℤ) (visits : List Visit) (from to i : ℕ) (e : Visit) → IsSorted visit_cmp visits
    → i < length visits → AreBehind rows visits from i
    → ((k : ℕ) (d : Visit) → from ≤ k → k < to
    → ComesBefore (get_or visits k d).cell (first_near rows (get_or visits i e))) → AreBehind rows visits to i
behind_more rows visits from to i e sorted low behind passed a b d first order high = elim (cases_lt a from) [
  | inl sooner ↦ behind a b d sooner order high
  | inr later ↦
      let not_before = cell_cmp-moved (negsuc 1) rows (get_or visits b d).cell (get_or visits i e).cell in
      let ascends = (λ j. is_lt (cell_cmp (get_or visits b d).cell (get_or_default visits i e d low j).cell))
      ∙ cells_ascend visits sorted i b d order high in
      still_before (get_or visits a d).cell (first_near rows (get_or visits i e)) (first_near rows (get_or visits b d))
      (passed a d later first) (ap is_lt not_before ∙ ascends)
]

-- a visit that keeps apart from all up to the last that can be near keeps apart from all of that row
apart_in_row : (rows : ℤ) (v w : Visit) → w.cell.row ≡ v.cell.row +ℤ rows
    → KeepApartUpTo (last_near rows v) v w → KeepApart v w
apart_in_row rows v w row apart differ = false_from_ne_true (near v.cell w.cell) (λ close.
    let up_to = false_from_ne_true (is_lt (cell_cmp (last_near rows v) w.cell))
    (λ after. false≢true (sym (far_after rows v w row after) ∙ close)) in
    false≢true (sym (apart up_to differ) ∙ close))

rows_more : (rows : ℤ) (visits : List Visit) (from i : ℕ) (e : Visit) → i < length visits → from ≤ length visits
    → AreBehind rows visits from i
    → All (KeepApartUpTo (last_near rows (get_or visits i e)) (get_or visits i e)) (rest visits from)
    → AreRowsApartBefore rows visits i → AreRowsApartBefore rows visits (i + 1)
rows_more rows visits from i e low room behind here before a b d first high row = elim (cases_lt a i) [
  | inl sooner ↦ before a b d sooner high row
  | inr later ↦
      let same : i ≡ a = omega arith in
      let is : get_or visits i e ≡ get_or visits a d = get_or_default visits i e d low
      ∙ ap (λ k. get_or visits k d) same in
      elim (cases_lt b from) [
        | inl passed ↦
            λ differ. far_before rows (get_or visits a d) (get_or visits b d) row
            (behind b a d passed (omega arith) (omega arith))
        | inr ahead ↦
            let index : ℕ = b - from in
            let long : length (rest visits from) ≡ length visits - from = length_rest visits from room in
            let at : get_or (rest visits from) index d ≡ get_or visits b d = at_rest visits from index d (omega arith)
            ∙ ap (λ k. get_or visits k d) (let e : from + index ≡ b = omega arith in e) in
            apart_in_row rows (get_or visits a d) (get_or visits b d) row
            (subst (λ w. KeepApartUpTo (last_near rows w) w (get_or visits b d)) is (subst
            (KeepApartUpTo (last_near rows (get_or visits i e)) (get_or visits i e)) at (here index d (omega arith))))
      ]
]

pub rows_step : (rows : ℤ) (visits : List Visit) (from to i : ℕ) (e : Visit) (first last : Cell)
    → IsSorted visit_cmp visits → i < length visits → to ≤ length visits
    → first ≡ first_near rows (get_or visits i e) → last ≡ last_near rows (get_or visits i e)
    → AreBehind rows visits from i → AreRowsApartBefore rows visits i
    → ((k : ℕ) (d : Visit) → from ≤ k → k < to → ComesBefore (get_or visits k d).cell first)
    → All (KeepApartUpTo last (get_or visits i e)) (rest visits to)
    → AreBehind rows visits to (i + 1) × AreRowsApartBefore rows visits (i + 1)
rows_step rows visits from to i e first last sorted low room is_first is_last behind before passed here =
    let moved = behind_more rows visits from to i e sorted low behind
    (λ k d a b. subst (ComesBefore (get_or visits k d).cell) is_first (passed k d a b)) in (
      λ a b d x y z. moved a b d x (omega arith) z,
      rows_more rows visits to i e low room moved
          (subst (λ l. All (KeepApartUpTo l (get_or visits i e)) (rest visits to)) is_last here) before,
    )

-- a visit that meets one of the rest shows that not all keep apart
pub met : (visits : List Visit) (from i : ℕ) (e w : Visit) → i < length visits → from ≤ length visits
    → Contains (rest visits from) w → (KeepApart (get_or visits i e) w → ⊥) → AreAllApart visits → ⊥
met visits from i e w low room h not all =
    let k = at_from_Contains (rest visits from) w h in
    let long : length (rest visits from) ≡ length visits - from = length_rest visits from room in
    let here : Contains visits w = Contains-from_at visits w
    (from + k.0, omega (arith, k.1), λ d. sym (at_rest visits from k.0 d (omega (arith, k.1))) ∙ k.2 d) in
    not (all (get_or visits i e) w (Contains-get_or visits i e low) here)

pub rows_apart : (rows : ℤ) (visits : List Visit) (i : ℕ) → length visits ≤ i → AreRowsApartBefore rows visits i
    → AreRowsApart rows visits
rows_apart rows visits i end apart v w h k row =
    let a = at_from_Contains visits v h in
    let b = at_from_Contains visits w k in
    let here : (get_or visits b.0 v).cell.row ≡ (get_or visits a.0 v).cell.row +ℤ rows = (λ j. (b.2 v j).cell.row)
    ∙ row ∙ (λ j. (sym (a.2 v) j).cell.row +ℤ rows) in
    subst (λ x. KeepApart x w) (a.2 v)
    (subst (KeepApart (get_or visits a.0 v)) (b.2 v) (apart a.0 b.0 v (omega arith) b.1 here))

-- ---- what all visits meet

apart_back : (v w : Visit) → KeepApart v w → KeepApart w v
apart_back v w apart differ = near_symmetric w.cell v.cell ∙ apart (λ e. differ (sym e))

-- cells that are near lie in one row, or one or two rows apart
pub all_apart : (visits : List Visit) → AreRowsApart (pos 0) visits → AreRowsApart (pos 1) visits
    → AreRowsApart (pos 2) visits → AreAllApart visits
all_apart visits none one two v w h k = by_lt_z w.cell.row v.cell.row
    (λ above. apart_back w v (downward w v k h
    (let order : w.cell.row ≤ℤ v.cell.row = omega (arith, ints, above) in order)))
    (λ below. downward v w h k below)
  where
    downward : (v w : Visit) → Contains visits v → Contains visits w → v.cell.row ≤ℤ w.cell.row → KeepApart v w
    downward v w h k order differ = false_from_ne_true (near v.cell w.cell) (λ close.
        let n = near_within v.cell w.cell close in
        by_lt_z w.cell.row (v.cell.row +ℤ pos 1)
        (λ first. false≢true (sym (none v w h k
        (let row : w.cell.row ≡ v.cell.row +ℤ pos 0 = omega (arith, ints, order, first) in row) differ) ∙ close))
        (λ more. by_lt_z w.cell.row (v.cell.row +ℤ pos 2)
        (λ second. false≢true (sym (one v w h k
        (let row : w.cell.row ≡ v.cell.row +ℤ pos 1 = omega (arith, ints, more, second) in row) differ) ∙ close))
        (λ most. false≢true (sym (two v w h k
        (let row : w.cell.row ≡ v.cell.row +ℤ pos 2 = omega (arith, ints, most, n.rows_down) in row) differ) ∙ close))))

-- a test whose two answers mean this
pub told_apart : {A C : Type 0} (b : Bool) → MatchBool b A (C → ⊥) → (A → C) → IsTrue b ↔ C
told_apart true a then = (λ t. then a, λ h. refl)
told_apart false not then = (λ t. absurd (false≢true t), λ h. absurd (not h))
