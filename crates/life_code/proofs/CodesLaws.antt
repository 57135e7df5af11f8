-- The code is a complete invariant: sets have the same code if and only if they are one object.
use Rattle.std.proofs.Common.{◌≡◌, ◌≢◌, ℕ, ◌+◌, ◌<◌, ◌≤◌, Bool, true, false, cond, ◌&&◌, Option, Some, None, List, []}
use Rattle.std.proofs.Common.{◌∷◌, ◌++◌, ℤ, pos, neg_ℤ, refl, sym, ap, ◌∙◌, subst, arith, true≢false, ⊎_elim}
use Rattle.std.specs.Prelude.{nat_eq, MatchOption, codes}
use Rattle.std.specs.List.{range_with_len, find}
use Rattle.std.specs.Ordering.{int_eq, is_gt}
use Rattle.std.specs.Fmt.{decimal}
use Rattle.std.specs.Cmp.{both_ways}
use Rattle.std.specs.FinSet as set
use Rattle.std.proofs.lemmas.Int.{ints}
use Rattle.std.proofs.lemmas.Bool.Decides.{Decides-int_eq}
use Rattle.std.proofs.lemmas.Bool.{eqb-true, cond-true, cond-false, ne_eqb, eq-eqb, cases_lt}
use Rattle.life_core.specs.declared.cell.Cell.{Cell}
use Rattle.life_core.specs.declared.orientation.Orientation.{Orientation}
use Rattle.life_core.specs.declared.orientation.Orientation.TheVariants.{O0, O1, O2, O3, O4, O5, O6, O7}
use Rattle.life_core.specs.Cell.{cell_cmp, cell_at}
use Rattle.life_core.specs.Generations.{generation_of}
use Rattle.life_core.specs.Orientation.{turned_cell}
use Rattle.life_core.specs.Pattern.{Cells, image}
use Rattle.life_core.specs.Rule.{RuleSets}
use Rattle.life_core.proofs.Placements.{len-placed, image-placed}
use Rattle.life_core.proofs.PatternCorners.{has_cell_of, one_move}
use Rattle.life_code.specs.declared.kinds.Kind.{Kind}
use Rattle.life_code.specs.declared.kinds.Kind.TheVariants.{Empty, Still, Oscillator, Ship, Unresolved}
use Rattle.life_code.specs.Period.{Returns, HasPeriod, HasKind, returns, period_of, kind_of_period, kind_at, kind_of}
use Rattle.life_code.specs.Codes.{text_cmp, candidates, least_text, with_prefix, code_by_kind, code_of, IsPeriodic}
use Rattle.life_code.specs.Codes.{Same}
use Rattle.life_code.specs.CodeLaws.{SameIsEquivalence, CodeIsInvariant, CodeIsComplete, CodeStays}
use Rattle.life_code.proofs.PeriodLemmas.{Taken, return_alike, return_of_placed, return_of_phase, taken_itself}
use Rattle.life_code.proofs.PeriodLemmas.{taken_on, taken_back, taken_below, period_taken}
use Rattle.life_code.proofs.PeriodKinds.{find_from, move_at, move_at-Returns, no_return, some_len, kind_is, kind_one}
use Rattle.life_code.proofs.TextLists.{In, least_is}
use Rattle.life_code.proofs.CandidateLemmas.{in_candidates}
use Rattle.life_code.proofs.WechslerTexts.{text_one}
use Rattle.life_code.proofs.CodeMarks.{NoMark, both_unmarked, decimal_unmarked, unmarked_xs, unmarked_xp, unmarked_xq}
use Rattle.life_code.proofs.CodeMarks.{behind_mark}
use Rattle.life_code.proofs.CodesShapes.{least_taken, shapes_taken}

-- ---- the code by the move and the least candidate

abbrev pub coded : Bool → ℕ → ℕ → Option (List ℕ) → Option (List ℕ)
coded stays p n best =
    cond stays (cond (nat_eq p 1) (with_prefix (codes "xs") n best) (with_prefix (codes "xp") p best))
    (with_prefix (codes "xq") p best)

abbrev pub stays_by : Cell → Bool
stays_by c = int_eq c.column (pos 0) && int_eq c.row (pos 0)

pub code_of_move : (r : RuleSets) (X : Cells) (p : ℕ) (c : Cell) → code_by_kind r X (kind_of_period p c.column c.row)
    ≡ coded (stays_by c) p (set.len X) (least_text (candidates r X p))
code_of_move r X p c =
    elim (stays_by c) as (λ b. code_by_kind r X (cond b (cond (nat_eq p 1) Still (Oscillator p))
    (Ship p c.column c.row)) ≡ coded b p (set.len X) (least_text (candidates r X p))) [
      | false ↦ refl
      | true ↦
          elim (nat_eq p 1) as (λ t. nat_eq p 1 ≡ t → code_by_kind r X (cond t Still (Oscillator p))
          ≡ cond t (with_prefix (codes "xs") (set.len X) (least_text (candidates r X p)))
          (with_prefix (codes "xp") p (least_text (candidates r X p)))) [
            | true ↦
                λ e. ap (λ k. with_prefix (codes "xs") (set.len X) (least_text (candidates r X k)))
                (sym (eqb-true p 1 e))
            | false ↦ λ e. refl
          ] refl
    ]

-- the code of a set that is not empty, by its period
pub code_by_period : (r : RuleSets) (X : Cells) (limit : ℕ) → X ≢ set.empty
    → code_of r X limit ≡ code_by_kind r X (kind_at r X (period_of r X limit))
unfolding code_of kind_of
code_by_period r X limit some = ap (code_by_kind r X) (cond-false _ _ _ (ne_eqb (set.len X) 0 (some_len X some)))

coded_alike : (stays : Bool) (p m n : ℕ) (best : Option (List ℕ)) → (p ≡ 1 → m ≡ n)
    → coded stays p m best ≡ coded stays p n best
coded_alike false p m n best h = refl
coded_alike true p m n best h =
    elim (nat_eq p 1) as (λ t. nat_eq p 1 ≡ t → cond t (with_prefix (codes "xs") m best)
    (with_prefix (codes "xp") p best) ≡ cond t (with_prefix (codes "xs") n best) (with_prefix (codes "xp") p best)) [
      | true ↦ λ e. ap (λ k. with_prefix (codes "xs") k best) (h (eqb-true p 1 e))
      | false ↦ λ e. refl
    ] refl

and_swap : (a b : Bool) → (a && b) ≡ (b && a)
and_swap true true = refl
and_swap true false = refl
and_swap false true = refl
and_swap false false = refl

neg_zero : (a : ℤ) → int_eq (neg_ℤ a) (pos 0) ≡ int_eq a (pos 0)
neg_zero a =
    both_ways _ _ (λ e. eq_zero a (from_neg a ((Decides-int_eq (neg_ℤ a) (pos 0)).0 e)))
    (λ e. eq_zero (neg_ℤ a) (to_neg a ((Decides-int_eq a (pos 0)).0 e)))
  where
    eq_zero : (a : ℤ) → a ≡ pos 0 → int_eq a (pos 0) ≡ true
    eq_zero a e = (Decides-int_eq a (pos 0)).1 e

    from_neg : (a : ℤ) → neg_ℤ a ≡ pos 0 → a ≡ pos 0
    from_neg a e = omega (arith, ints)

    to_neg : (a : ℤ) → a ≡ pos 0 → neg_ℤ a ≡ pos 0
    to_neg a e = omega (arith, ints)

-- a turned move is none if the move is none
stays_turned : (o : Orientation) (c : Cell) → stays_by (turned_cell o c) ≡ stays_by c
stays_turned O0 c = refl
stays_turned O1 c =
    ap (λ b. b && int_eq c.column (pos 0)) (neg_zero c.row) ∙ and_swap (int_eq c.row (pos 0)) (int_eq c.column (pos 0))
stays_turned O2 c = λ i. neg_zero c.column i && neg_zero c.row i
stays_turned O3 c =
    ap (λ b. int_eq c.row (pos 0) && b) (neg_zero c.column) ∙ and_swap (int_eq c.row (pos 0)) (int_eq c.column (pos 0))
stays_turned O4 c = ap (λ b. b && int_eq c.row (pos 0)) (neg_zero c.column)
stays_turned O5 c = ap (λ b. int_eq c.column (pos 0) && b) (neg_zero c.row)
stays_turned O6 c = and_swap (int_eq c.row (pos 0)) (int_eq c.column (pos 0))
stays_turned O7 c =
    (λ i. neg_zero c.row i && neg_zero c.column i) ∙ and_swap (int_eq c.row (pos 0)) (int_eq c.column (pos 0))

-- what a search for the first period up to n found
abbrev pub Found : RuleSets → Cells → ℕ → Option ℕ → Type 0
Found r X n o =
    MatchOption o ((q : ℕ) → 1 ≤ q → q < 1 + n → returns r X q ≡ false)
    (λ x. (1 ≤ x) × (x < 1 + n) × (returns r X x ≡ true) × ((q : ℕ) → 1 ≤ q → q < x → returns r X q ≡ false))

module _ (r : RuleSets) where
  one_phase : (X Y : Cells) (p : ℕ) (v : Cell) → 1 ≤ p → Returns r Y p v.column v.row → Taken r X Y
      → p ≡ 1 → set.len X ≡ set.len Y
  one_phase X Y p v h e taken one =
      let near = taken_below r X Y p v h e taken in
      let t = near.0 in
      ap set.len (sym t.3) ∙ len-placed t.1 t.2 (generation_of r Y t.0)
      ∙ ap (λ k. set.len (generation_of r Y k)) (let below = near.1 in let z : t.0 ≡ 0 = omega arith in z)

  -- sets taken to one another have one code
  pub code_taken : (X Y : Cells) → X ≢ set.empty → Y ≢ set.empty → (n : ℕ) (v : Cell) → 1 ≤ n
      → Returns r Y n v.column v.row → Taken r X Y → (limit : ℕ) → code_of r X limit ≡ code_of r Y limit
  code_taken X Y some also n v from back taken limit =
      code_by_period r X limit some
      ∙ ap (λ o. code_by_kind r X (kind_at r X o)) same_period
      ∙ by (period_of r Y limit) (find_from (returns r Y) 1 limit)
      ∙ sym (code_by_period r Y limit also)
    where
      alike : (q : ℕ) → returns r X q ≡ returns r Y q
      alike q = return_alike r X Y n v from back taken q

      same_period : period_of r X limit ≡ period_of r Y limit
      same_period = λ i. find (λ q. alike q i) (range_with_len 1 limit)

      by : (o : Option ℕ) → Found r Y limit o → code_by_kind r X (kind_at r X o) ≡ code_by_kind r Y (kind_at r Y o)
      by None none = refl
      by (Some p) (start, below, passes, before) =
          let u = move_at r X p in
          let w = move_at r Y p in
          let y_back : Returns r Y p w.column w.row = move_at-Returns r Y p passes in
          let x_back : Returns r X p u.column u.row = move_at-Returns r X p (alike p ∙ passes) in
          let turned_back : Returns r X p (turned_cell taken.1 w).column (turned_cell taken.1 w).row =
          subst (λ Z. Returns r Z p (turned_cell taken.1 w).column (turned_cell taken.1 w).row) taken.3
          (return_of_placed r (generation_of r Y taken.0) p w taken.1 taken.2
          (return_of_phase r Y p w taken.0 y_back)) in
          let cell = has_cell_of X some in
          let move : u ≡ turned_cell taken.1 w =
          one_move X cell.0 cell.1 u (turned_cell taken.1 w) (sym x_back ∙ turned_back) in
          code_of_move r X p u
          ∙ ap (λ b. coded b p (set.len X) (least_text (candidates r X p))) (ap stays_by move ∙ stays_turned taken.1 w)
          ∙ ap (λ b. coded (stays_by w) p (set.len X) b) (least_taken r X Y p u w start x_back y_back taken)
          ∙ coded_alike (stays_by w) p (set.len X) (set.len Y) (least_text (candidates r Y p))
          (one_phase X Y p w start y_back taken)
          ∙ sym (code_of_move r Y p w)

-- ---- the parts of a code

-- a code is a front without a mark, the mark, and a candidate of the period
abbrev pub CodeParts : RuleSets → Cells → List ℕ → Type 0
CodeParts r X t =
    (p : ℕ) × (v : Cell) × (HasPeriod r X p v.column v.row) × (front : List ℕ) × (best : List ℕ)
    × (NoMark front) × (t ≡ front ++ 95 ∷ best) × (In best (candidates r X p))

prefix_parts : (prefix : List ℕ) (n : ℕ) (ts : List (List ℕ)) (t : List ℕ)
    → NoMark prefix → with_prefix prefix n (least_text ts) ≡ Some t
    → (front : List ℕ) × (best : List ℕ) × (NoMark front) × (t ≡ front ++ 95 ∷ best) × (In best ts)
prefix_parts prefix n ts t h e = by (least_text ts) (least_is ts) e
  where
    by : (o : Option (List ℕ)) → MatchOption o (ts ≡ [])
        (λ u. In u ts × ((v : List ℕ) → In v ts → is_gt (text_cmp u v) ≡ false)) → with_prefix prefix n o ≡ Some t
        → (front : List ℕ) × (best : List ℕ) × (NoMark front) × (t ≡ front ++ 95 ∷ best) × (In best ts)
    by None none e = absurd (cc)
    by (Some best) has e = (
      prefix ++ decimal n,
      best,
      both_unmarked prefix (decimal n) h (decimal_unmarked n),
      (let q : (prefix ++ decimal n) ++ 95 ∷ best ≡ t = cc in sym q),
      has.0,
    )

coded_parts : (stays : Bool) (p n : ℕ) (ts : List (List ℕ)) (t : List ℕ) → coded stays p n (least_text ts) ≡ Some t
    → (front : List ℕ) × (best : List ℕ) × (NoMark front) × (t ≡ front ++ 95 ∷ best) × (In best ts)
coded_parts false p n ts t e = prefix_parts (codes "xq") p ts t unmarked_xq e
coded_parts true p n ts t e =
    elim (nat_eq p 1)
    as (λ b. cond b (with_prefix (codes "xs") n (least_text ts)) (with_prefix (codes "xp") p (least_text ts)) ≡ Some t
    → (front : List ℕ) × (best : List ℕ) × (NoMark front) × (t ≡ front ++ 95 ∷ best) × (In best ts)) [
      | true ↦ λ e. prefix_parts (codes "xs") n ts t unmarked_xs e
      | false ↦ λ e. prefix_parts (codes "xp") p ts t unmarked_xp e
    ] e

pub none_some : (t : List ℕ) → None ≡ Some t → ⊥
none_some t e = cc

-- only a set with a cell has a code
pub code_cells : (r : RuleSets) (X : Cells) (limit : ℕ) (t : List ℕ) → code_of r X limit ≡ Some t → X ≢ set.empty
unfolding code_of kind_of
code_cells r X limit t e empty =
    let zero_len : set.len X ≡ 0 = ap set.len empty ∙ set.len-empty cell_cmp in
    let none : code_by_kind r X (cond (nat_eq (set.len X) 0) Empty (kind_at r X (period_of r X limit)))
    ≡ None = ap (code_by_kind r X)
    (cond-true (nat_eq (set.len X) 0) Empty (kind_at r X (period_of r X limit)) (eq-eqb (set.len X) 0 zero_len)) in
    none_some t (sym none ∙ e)

-- the period that a search found is one
pub found_period : (r : RuleSets) (X : Cells) (p : ℕ) → 1 ≤ p → returns r X p ≡ true
    → ((q : ℕ) → 1 ≤ q → q < p → returns r X q ≡ false) → HasPeriod r X p (move_at r X p).column (move_at r X p).row
found_period r X p from passes before = (
  from,
  move_at-Returns r X p passes,
  λ q start end ex ey back. no_return r X q (before q start end) (cell_at (ex, ey)) back,
)

pub code_parts : (r : RuleSets) (X : Cells) (limit : ℕ) (t : List ℕ) → code_of r X limit ≡ Some t → CodeParts r X t
code_parts r X limit t e =
    by (period_of r X limit) (find_from (returns r X) 1 limit)
    (sym (code_by_period r X limit (code_cells r X limit t e)) ∙ e)
  where
    by : (o : Option ℕ) → Found r X limit o → code_by_kind r X (kind_at r X o) ≡ Some t → CodeParts r X t
    by None none e = absurd (none_some t e)
    by (Some p) (from, below, passes, before) e =
        let parts = coded_parts (stays_by (move_at r X p)) p (set.len X) (candidates r X p) t
        (sym (code_of_move r X p (move_at r X p)) ∙ e) in
        (p, move_at r X p, found_period r X p from passes before, parts.0, parts.1, parts.2, parts.3, parts.4)

-- ---- one object

module _ (r : RuleSets) where
  -- sets with one code are taken to one another
  pub taken_codes : (X Y : Cells) (limit other : ℕ) (t : List ℕ) → code_of r X limit ≡ Some t
      → code_of r Y other ≡ Some t → Taken r X Y
  taken_codes X Y limit other t e h =
      let x = code_parts r X limit t e in
      let y = code_parts r Y other t h in
      let best : x.4 ≡ y.4 = behind_mark x.3 y.3 x.4 y.4 x.5 y.5 (sym x.6 ∙ y.6) in
      let a = in_candidates r X x.0 x.4 x.7 in
      let b = in_candidates r Y y.0 y.4 y.7 in
      shapes_taken r X Y x.0 x.1 x.2.0 x.2.1 a.0 b.0 a.2 b.2
      (text_one (image (turned_cell a.2) (generation_of r X a.0))
      (image (turned_cell b.2) (generation_of r Y b.0)) a.3 b.3 (a.4 ∙ best ∙ sym b.4))

  same_from_taken : (X Y : Cells) → X ≢ set.empty → Y ≢ set.empty → (p : ℕ) (v : Cell) → HasPeriod r Y p v.column v.row
      → Taken r X Y → Same r X Y
  same_from_taken X Y some also p v is taken =
      let near = taken_below r X Y p v is.0 is.1 taken in
      record {
        first = record {
          cells = some;
          period = p;
          dx = (turned_cell taken.1 v).column;
          dy = (turned_cell taken.1 v).row;
          has_period = period_taken r X Y p v is taken;
        };
        second = record { cells = also; period = p; dx = v.column; dy = v.row; has_period = is };
        phase = near.0.0;
        below = near.1;
        orientation = near.0.1;
        dx = near.0.2.column;
        dy = near.0.2.row;
        taken = image-placed near.0.1 near.0.2 (generation_of r Y near.0.0) ∙ near.0.3;
      }

  taken_from_same : (X Y : Cells) → Same r X Y → Taken r X Y
  taken_from_same X Y s = (
    s.phase,
    s.orientation,
    cell_at (s.dx, s.dy),
    sym (image-placed s.orientation (cell_at (s.dx, s.dy)) (generation_of r Y s.phase)) ∙ s.taken,
  )

  same_itself : (X : Cells) → IsPeriodic r X → Same r X X
  same_itself X is =
      same_from_taken X X is.cells is.cells is.period (cell_at (is.dx, is.dy)) is.has_period (taken_itself r X)

  same_back : (X Y : Cells) → Same r X Y → Same r Y X
  same_back X Y s =
      same_from_taken Y X s.second.cells s.first.cells s.first.period
      (cell_at (s.first.dx, s.first.dy)) s.first.has_period
      (taken_back r X Y s.second.period (cell_at (s.second.dx, s.second.dy)) s.second.has_period.0 s.second.has_period.1
      (taken_from_same X Y s))

  same_on : (X Y Z : Cells) → Same r X Y → Same r Y Z → Same r X Z
  same_on X Y Z s t =
      same_from_taken X Z s.first.cells t.second.cells t.second.period
      (cell_at (t.second.dx, t.second.dy)) t.second.has_period
      (taken_on r X Y Z (taken_from_same X Y s) (taken_from_same Y Z t))

  -- sets that are one object have one code, or none both
  pub code_same : (X Y : Cells) → Same r X Y → (limit : ℕ) → code_of r X limit ≡ code_of r Y limit
  code_same X Y s limit =
      code_taken r X Y s.first.cells s.second.cells s.second.period
      (cell_at (s.second.dx, s.second.dy)) s.second.has_period.0 s.second.has_period.1 (taken_from_same X Y s) limit

  -- sets with one code are one object
  pub same_codes : (X Y : Cells) (limit other : ℕ) (t : List ℕ) → code_of r X limit ≡ Some t
      → code_of r Y other ≡ Some t → Same r X Y
  same_codes X Y limit other t e h =
      let y = code_parts r Y other t h in
      same_from_taken X Y (code_cells r X limit t e) (code_cells r Y other t h) y.0 y.1 y.2
      (taken_codes X Y limit other t e h)

-- the limit under which a code was found plays no part
same_found : (r : RuleSets) (X : Cells) (m n : ℕ) (a b : Option ℕ) (s t : List ℕ) → Found r X m a
    → Found r X n b → code_by_kind r X (kind_at r X a) ≡ Some s → code_by_kind r X (kind_at r X b) ≡ Some t → a ≡ b
same_found r X m n None b s t f g e h = absurd (none_some s e)
same_found r X m n (Some p) None s t f g e h = absurd (none_some t h)
same_found r X m n (Some p) (Some q) s t (from, below, passes, before) (start, end, also, earlier) e h =
    ⊎_elim (λ k. absurd (true≢false (sym passes ∙ earlier p from k)))
    (λ k. ⊎_elim (λ l. absurd (true≢false (sym also ∙ before q start l)))
    (λ l. ap (λ z. Some z) (let w : p ≡ q = omega arith in w)) (cases_lt q p))
    (cases_lt p q)

some_one : (s t : List ℕ) → Some s ≡ Some t → s ≡ t
some_one s t e = cc

code_limits : (r : RuleSets) (X : Cells) (limit other : ℕ) (s t : List ℕ) → code_of r X limit ≡ Some s
    → code_of r X other ≡ Some t → s ≡ t
code_limits r X limit other s t e h =
    let a = sym (code_by_period r X limit (code_cells r X limit s e)) ∙ e in
    let b = sym (code_by_period r X other (code_cells r X other t h)) ∙ h in
    let same = same_found r X limit other (period_of r X limit) (period_of r X other) s t
    (find_from (returns r X) 1 limit) (find_from (returns r X) 1 other) a b in
    some_one s t (sym a ∙ ap (λ o. code_by_kind r X (kind_at r X o)) same ∙ b)

pub same_is_equivalence : SameIsEquivalence
same_is_equivalence r = (same_itself r, same_back r, same_on r)

pub code_is_invariant : CodeIsInvariant
code_is_invariant r X Y limit same = code_same r X Y same limit

pub code_is_complete : CodeIsComplete
code_is_complete r X Y limit other s t e h = (
  (λ same. same_codes r X Y limit other t (e ∙ ap (λ z. Some z) same) h),
  (λ same. sym (code_limits r Y other limit t s h (sym (code_same r X Y same limit) ∙ e))),
)

-- ---- greater limits

-- a kind but `Unresolved` is the kind under each greater limit
kind_stays : (r : RuleSets) (X : Cells) (limit other : ℕ) → limit ≤ other → (k : Kind) → k ≢ Unresolved
    → kind_of r X limit ≡ k → kind_of r X other ≡ k
kind_stays r X limit other more k resolved is =
    kind_one r X other k (on k resolved (subst (HasKind r X limit) is (kind_is r X limit)))
  where
    within : (p : ℕ) → p ≤ limit → p ≤ other
    within p below = omega (arith, more, below)

    on : (k : Kind) → k ≢ Unresolved → HasKind r X limit k → HasKind r X other k
    on Empty resolved h = h
    on Still resolved (some, below, is) = (some, within 1 below, is)
    on (Oscillator p) resolved (some, below, from, is) = (some, within p below, from, is)
    on (Ship p dx dy) resolved (some, below, goes, is) = (some, within p below, goes, is)
    on Unresolved resolved h = absurd (resolved refl)

pub code_stays : CodeStays
unfolding code_of
code_stays r X limit other text more is =
    ap (code_by_kind r X) (kind_stays r X limit other more (kind_of r X limit)
    (λ e. none_some text (sym (ap (code_by_kind r X) e) ∙ is)) refl) ∙ is
