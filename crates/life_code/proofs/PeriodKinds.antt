-- `kind_of` gives the one kind whose meaning holds.
use Rattle.std.specs.Prelude.{◌≡◌, ◌≢◌, ℕ, zero, suc, ◌+◌, ◌<◌, ◌≤◌, Bool, true, false, cond, ◌&&◌, nat_eq, Option}
use Rattle.std.specs.Prelude.{Some, None, MatchOption, Ok, ℤ, pos, ◌+ℤ◌, ◌-ℤ◌, neg_ℤ, refl}
use Rattle.std.specs.List.{range_with_len, find}
use Rattle.std.specs.Ordering.{int_eq}
use Rattle.std.proofs.Common.{sym, ap, ◌∙◌, subst, arith, true≢false, ⊎_elim}
use Rattle.std.proofs.lemmas.Bool.{eqb-true, eqb-false, cond-true, cond-false, ne_eqb, eq-eqb, cases_lt}
use Rattle.std.proofs.lemmas.Bool.Decides.{Decides-int_eq}
use Rattle.std.proofs.lemmas.Int.{ints}
use Rattle.std.specs.FinSet as set
use Rattle.life_core.specs.declared.cell.Cell.{Cell}
use Rattle.life_core.specs.Cell.{cell_at, cell_cmp}
use Rattle.life_core.specs.Generations.{generation_of}
use Rattle.life_core.specs.Pattern.{Cells, corner}
use Rattle.life_core.specs.Rule.{RuleSets}
use Rattle.life_core.proofs.CellLemmas.{same_coordinates}
use Rattle.life_core.proofs.PatternCorners.{Has, has_cell_of, one_move, same_normal}
use Rattle.life_core.proofs.Placements.{moved}
use Rattle.life_code.specs.declared.kinds.Kind.{Kind}
use Rattle.life_code.specs.declared.kinds.Kind.TheVariants.{Empty, Still, Oscillator, Ship, Unresolved}
use Rattle.life_code.specs.CodeLaws.{OneKind}
use Rattle.life_code.specs.Period.{Returns, HasPeriod, HasKind, returns, period_of, kind_of_period, kind_at, kind_of}
use Rattle.life_code.specs.Period.{GivesKind}
use Rattle.life_code.proofs.PeriodLemmas.{same_cells-eq, Returns-returns, returns-Returns}

-- ---- the first number that passes

-- what the first of n numbers from a on that passes is
abbrev pub IsFirst : (ℕ → Bool) → ℕ → ℕ → Option ℕ → Type 0
IsFirst p a n o =
    MatchOption o ((q : ℕ) → a ≤ q → q < a + n → p q ≡ false)
    (λ x. (a ≤ x) × (x < a + n) × (p x ≡ true) × ((q : ℕ) → a ≤ q → q < x → p q ≡ false))

pub find_from : (p : ℕ → Bool) (a n : ℕ) → IsFirst p a n (find p (range_with_len a n))
find_from p a zero = λ q from below. absurd (omega arith)
find_from p a (suc n) =
    elim (p a) as (λ b. p a ≡ b → IsFirst p a (suc n) (cond b (Some a) (find p (range_with_len (a + 1) n)))) [
      | true ↦ λ e. (omega arith, omega arith, e, λ q from below. absurd (omega arith))
      | false ↦ λ e. by e (find p (range_with_len (a + 1) n)) (find_from p (a + 1) n)
    ] refl
  where
    first : p a ≡ false → (q : ℕ) → a ≤ q → (a + 1 ≤ q → p q ≡ false) → p q ≡ false
    first e q from more =
        ⊎_elim (λ h. more (omega arith))
        (λ h. subst (λ k. p k ≡ false) (let g : a ≡ q = omega arith in g) e) (cases_lt a q)

    by : p a ≡ false → (o : Option ℕ) → IsFirst p (a + 1) n o → IsFirst p a (suc n) o
    by e None none = λ q from below. first e q from (λ g. none q g (omega arith))
    by e (Some x) (from, below, passes, before) =
        (omega arith, omega arith, passes, λ q start end. first e q start (λ g. before q g end))

-- the first that passes, once it is known
pub find_known : (p : ℕ → Bool) (n x : ℕ) → 1 ≤ x → x ≤ n → p x ≡ true → ((q : ℕ) → 1 ≤ q → q < x → p q ≡ false)
    → find p (range_with_len 1 n) ≡ Some x
find_known p n x from below passes before = by (find p (range_with_len 1 n)) (find_from p 1 n)
  where
    by : (o : Option ℕ) → IsFirst p 1 n o → o ≡ Some x
    by None none = absurd (true≢false (sym passes ∙ none x from (omega arith)))
    by (Some y) (start, end, also, earlier) =
        ⊎_elim (λ h. absurd (true≢false (sym also ∙ before y start h)))
        (λ h. ⊎_elim (λ g. absurd (true≢false (sym passes ∙ earlier x from g)))
        (λ g. ap (λ k. Some k) (let e : y ≡ x = omega arith in e)) (cases_lt x y))
        (cases_lt y x)

-- ---- the move at a return

-- the move of the corner up to generation p
abbrev pub move_at : RuleSets → Cells → ℕ → Cell
move_at r X p = record {
  row = (corner (generation_of r X p)).row -ℤ (corner X).row;
  column = (corner (generation_of r X p)).column -ℤ (corner X).column;
}

plus_less : (a b : ℤ) → neg_ℤ a +ℤ b ≡ b -ℤ a
plus_less a b = omega (arith, ints)

pub move_at-Returns : (r : RuleSets) (X : Cells) (p : ℕ) → returns r X p ≡ true
    → Returns r X p (move_at r X p).column (move_at r X p).row
unfolding returns
move_at-Returns r X p passes =
    same_normal X (generation_of r X p) (same_cells-eq _ _ passes)
    ∙ ap (λ k. moved k X) (same_coordinates _ _ (plus_less (corner X).row (corner (generation_of r X p)).row)
    (plus_less (corner X).column (corner (generation_of r X p)).column))

pub no_return : (r : RuleSets) (X : Cells) (p : ℕ) → returns r X p ≡ false → (v : Cell)
    → Returns r X p v.column v.row → ⊥
no_return r X p fails v back = true≢false (sym (Returns-returns r X p v back) ∙ fails)

fails_at : (r : RuleSets) (X : Cells) (q : ℕ) → ((dx dy : ℤ) → ¬ Returns r X q dx dy) → returns r X q ≡ false
fails_at r X q none = elim (returns r X q) as (λ b. returns r X q ≡ b → b ≡ false) [
  | true ↦ λ e. let back = returns-Returns r X q e in absurd (none back.0.column back.0.row back.1)
  | false ↦ λ e. refl
] refl

-- ---- the kind says what it means

-- a set with a cell is not empty
pub some_len : (X : Cells) → X ≢ set.empty → set.len X ≡ 0 → ⊥
some_len X some e = some (set.empty_of_len X e)

-- the kind by the move at the period
pub kind_of_period_is : (r : RuleSets) (X : Cells) (limit : ℕ) → X ≢ set.empty → (p : ℕ) → p ≤ limit
    → (dx dy : ℤ) → HasPeriod r X p dx dy → HasKind r X limit (kind_of_period p dx dy)
kind_of_period_is r X limit some p below a b is =
    elim (int_eq a (pos 0)) as (λ t. int_eq a (pos 0) ≡ t
    → HasKind r X limit (cond (t && int_eq b (pos 0)) (cond (nat_eq p 1) Still (Oscillator p)) (Ship p a b))) [
      | false ↦ λ e. (some, below, (λ h. true≢false (sym ((Decides-int_eq a (pos 0)).1 h.0) ∙ e)), is)
      | true ↦
          λ e. elim (int_eq b (pos 0)) as (λ t. int_eq b (pos 0) ≡ t
          → HasKind r X limit (cond t (cond (nat_eq p 1) Still (Oscillator p)) (Ship p a b))) [
            | false ↦ λ g. (some, below, (λ h. true≢false (sym ((Decides-int_eq b (pos 0)).1 h.1) ∙ g)), is)
            | true ↦ λ g.
                let still : HasPeriod r X p (pos 0) (pos 0) =
                subst (λ (c : Cell). HasPeriod r X p c.column c.row) (same_coordinates (cell_at (a, b))
                (cell_at (pos 0, pos 0)) ((Decides-int_eq b (pos 0)).0 g) ((Decides-int_eq a (pos 0)).0 e)) is in
                elim (nat_eq p 1) as (λ t. nat_eq p 1 ≡ t → HasKind r X limit (cond t Still (Oscillator p))) [
                  | true ↦ λ one. (
                    some,
                    (let q = eqb-true p 1 one in let from = is.0 in omega arith),
                    subst (λ k. HasPeriod r X k (pos 0) (pos 0)) (eqb-true p 1 one) still,
                  )
                  | false ↦ λ not. (some, below, (let q = eqb-false p 1 not in let from = is.0 in omega arith), still)
                ] refl
          ] refl
    ] refl

-- the kind that is found says what it means
pub kind_is : (r : RuleSets) (X : Cells) (limit : ℕ) → HasKind r X limit (kind_of r X limit)
unfolding kind_of
kind_is r X limit =
    elim (nat_eq (set.len X) 0)
    as (λ t. nat_eq (set.len X) 0 ≡ t → HasKind r X limit (cond t Empty (kind_at r X (period_of r X limit)))) [
      | true ↦ λ e. set.empty_of_len X (eqb-true (set.len X) 0 e)
      | false ↦
          λ e. by (λ h. eqb-false (set.len X) 0 e (ap set.len h ∙ set.len-empty cell_cmp))
          (period_of r X limit) (find_from (returns r X) 1 limit)
    ] refl
  where
    by : X ≢ set.empty → (o : Option ℕ) → IsFirst (returns r X) 1 limit o → HasKind r X limit (kind_at r X o)
    by some None none =
        (some, λ q from below dx dy back. no_return r X q (none q from (omega arith)) (cell_at (dx, dy)) back)
    by some (Some p) (from, below, passes, before) =
        kind_of_period_is r X limit some p (omega arith) (move_at r X p).column (move_at r X p).row (
          from,
          move_at-Returns r X p passes,
          λ q start end dx dy back. no_return r X q (before q start end) (cell_at (dx, dy)) back,
        )

-- ---- how the kind is found

-- at the first return
pub kind_found : (r : RuleSets) (X : Cells) (limit : ℕ) → X ≢ set.empty → (p : ℕ) (v : Cell)
    → p ≤ limit → HasPeriod r X p v.column v.row → kind_of r X limit ≡ kind_of_period p v.column v.row
unfolding kind_of
kind_found r X limit some p v below (from, back, first) =
    cond-false _ _ _ (ne_eqb (set.len X) 0 (some_len X some))
    ∙ ap (kind_at r X) (find_known (returns r X) limit p from below (Returns-returns r X p v back)
    (λ q start end. fails_at r X q (first q start end)))
    ∙ ap (λ (c : Cell). kind_of_period p c.column c.row)
    (one_move X cell.0 cell.1 (move_at r X p) v (sym (move_at-Returns r X p (Returns-returns r X p v back)) ∙ back))
  where
    cell : (c : Cell) × Has X c
    cell = has_cell_of X some

pub kind_unresolved : (r : RuleSets) (X : Cells) (limit : ℕ) → X ≢ set.empty
    → ((p : ℕ) → 1 ≤ p → p ≤ limit → (dx dy : ℤ) → ¬ Returns r X p dx dy) → kind_of r X limit ≡ Unresolved
unfolding kind_of
kind_unresolved r X limit some none =
    cond-false _ _ _ (ne_eqb (set.len X) 0 (some_len X some))
    ∙ ap (kind_at r X) (by (period_of r X limit) (find_from (returns r X) 1 limit))
  where
    by : (o : Option ℕ) → IsFirst (returns r X) 1 limit o → o ≡ None
    by None h = refl
    by (Some p) (from, below, passes, before) =
        let back = returns-Returns r X p passes in absurd (none p from (omega arith) back.0.column back.0.row back.1)

pub kind_empty : (r : RuleSets) (X : Cells) (limit : ℕ) → X ≡ set.empty → kind_of r X limit ≡ Empty
unfolding kind_of
kind_empty r X limit none = cond-true _ _ _ (eq-eqb (set.len X) 0 (ap set.len none ∙ set.len-empty cell_cmp))

-- no other kind says what holds
pub kind_one : (r : RuleSets) (X : Cells) (limit : ℕ) (k : Kind) → HasKind r X limit k → kind_of r X limit ≡ k
kind_one r X limit Empty h = kind_empty r X limit h
kind_one r X limit Still (some, below, is) = kind_found r X limit some 1 (cell_at (pos 0, pos 0)) below is
kind_one r X limit (Oscillator p) (some, below, more, is) =
    kind_found r X limit some p (cell_at (pos 0, pos 0)) below is ∙ cond-false _ _ _ (ne_eqb p 1 (λ e. omega arith))
kind_one r X limit (Ship p dx dy) (some, below, goes, is) =
    kind_found r X limit some p (cell_at (dx, dy)) below is
    ∙ cond-false _ _ _ (by (int_eq dx (pos 0)) refl (int_eq dy (pos 0)) refl)
  where
    by : (a : Bool) → int_eq dx (pos 0) ≡ a → (b : Bool) → int_eq dy (pos 0) ≡ b
        → (int_eq dx (pos 0) && int_eq dy (pos 0)) ≡ false
    by false e b h = ap (λ t. t && int_eq dy (pos 0)) e
    by true e false h = λ i. e i && h i
    by true e true h = absurd (goes ((Decides-int_eq dx (pos 0)).0 e, (Decides-int_eq dy (pos 0)).0 h))
kind_one r X limit Unresolved (some, none) = kind_unresolved r X limit some none

-- a kind that says what holds is the answer of a search
pub given : {E : Type 0} (r : RuleSets) (X : Cells) (limit : ℕ) (k : Kind) → HasKind r X limit k
    → GivesKind {E = E} r X limit (Ok k)
given r X limit k has = record { value = sym (kind_one r X limit k has); meaning = has }

pub one_kind : OneKind
one_kind r X limit k = (kind_one r X limit k, λ e. subst (HasKind r X limit) e (kind_is r X limit))
