-- Take a rule with a birth at two neighbours and none at fewer. A pair in the first row gives a pair above it in the
-- next generation. A set with such pairs in its first and last row grows in both directions, and never returns.
use Rattle.std.specs.Prelude.{◌≡◌, ℕ, zero, suc, ◌+◌, ◌≤◌, ℤ, pos, negsuc, ◌+ℤ◌, ◌-ℤ◌, neg_ℤ, ◌≤ℤ◌, ◌<ℤ◌, Bool, true}
use Rattle.std.specs.Prelude.{false, cond, ◌||◌, List, [], ◌∷◌, ◌++◌, count_by, refl}
use Rattle.std.specs.List.{list_any}
use Rattle.std.proofs.Common.{sym, ap, subst, ◌∙◌, ⊎_elim, zero-add, arith, true≢false}
use Rattle.std.proofs.lemmas.Bool.{cases_Bool, or_parts}
use Rattle.std.proofs.lemmas.Int.{ints, by_lt_z}
use Rattle.std.proofs.lemmas.List.Sums.{sum_by-cons}
use Rattle.std.specs.FinSet as set
use Rattle.life_core.specs.declared.cell.Cell.{Cell}
use Rattle.life_core.specs.declared.orientation.Orientation.TheVariants.{O0, O2}
use Rattle.life_core.specs.Cell.{cell_at, moved_cell, around}
use Rattle.life_core.specs.Generations.{neighbour_count, next, generation_of}
use Rattle.life_core.specs.Orientation.{turned_cell}
use Rattle.life_core.specs.Pattern.{Cells, IsBox}
use Rattle.life_core.specs.Rule.{RuleSets}
use Rattle.life_core.proofs.CellLemmas.{same_coordinates}
use Rattle.life_core.proofs.GenerationsLaws.{contains-next, none_counted}
use Rattle.life_core.proofs.PatternCorners.{Has}
use Rattle.life_core.proofs.Placements.{origin, minus, plus, placed, contains-placed}
use Rattle.life_code.specs.Growing.{HasPair, LiesInRows}
use Rattle.life_code.specs.CodeLaws.{PairsNeverReturn}
use Rattle.life_code.specs.Period.{Returns}
use Rattle.life_code.specs.PeriodState.{NeverReturns}
use Rattle.life_code.proofs.PeriodLemmas.{return_of_placed}

-- whether the cell at column x of row y is live
abbrev at : Cells → ℤ → ℤ → Bool
at X x y = set.contains X (cell_at (x, y))

-- how many of three are true
abbrev three : Bool → Bool → Bool → ℕ
three a b c = cond a 1 0 + (cond b 1 0 + cond c 1 0)

-- dead cells at the head of a list count nothing
dead_first : (p : Cell → Bool) (cs rest : List Cell) → list_any p cs ≡ false → count_by p (cs ++ rest) ≡ count_by p rest
dead_first p [] rest none = refl
dead_first p (c ∷ cs) rest none =
    let parts = or_parts (p c) (list_any p cs) none in
    sum_by-cons (λ d. cond (p d) 1 0) c (cs ++ rest) ∙ ap (λ b. cond b 1 0 + count_by p (cs ++ rest)) parts.0
    ∙ zero-add _ ∙ dead_first p cs rest parts.1

three_counted : (p : Cell → Bool) (c d e : Cell) → count_by p (c ∷ d ∷ e ∷ []) ≡ three (p c) (p d) (p e)
three_counted p c d e = sums (cond (p c) 1 0) (cond (p d) 1 0) (cond (p e) 1 0)
  where
    sums : (k m n : ℕ) → 0 + k + m + n ≡ k + (m + n)
    sums k m n = omega arith

-- no cell of X lies in a row before y
abbrev FirstRow : Cells → ℤ → Type 0
FirstRow X y = (c : Cell) → Has X c → y ≤ℤ c.row

module _ (X : Cells) (y : ℤ) (low : FirstRow X y) where
  dead : (c : Cell) → (c.row +ℤ pos 1) ≤ℤ y → set.contains X c ≡ false
  dead c less =
      ⊎_elim (λ live. absurd (let under = low c live in let no : ⊥ = omega (arith, ints) in no))
      (λ e. e) (cases_Bool (set.contains X c))

  -- the cell above row y at column x, and the cells round it that lie above row y
  abbrev above : ℤ → Cell
  above x = cell_at (x, y +ℤ negsuc 0)

  abbrev five : ℤ → List Cell
  five x =
      moved_cell (negsuc 0) (negsuc 0) (above x) ∷ moved_cell (pos 0) (negsuc 0) (above x)
      ∷ moved_cell (pos 1) (negsuc 0) (above x)
      ∷ moved_cell (negsuc 0) (pos 0) (above x) ∷ moved_cell (pos 1) (pos 0) (above x) ∷ []

  -- the other three
  abbrev beneath : ℤ → List Cell
  beneath x =
      moved_cell (negsuc 0) (pos 1) (above x) ∷ moved_cell (pos 0) (pos 1) (above x)
      ∷ moved_cell (pos 1) (pos 1) (above x) ∷ []

  five_dead : (x : ℤ) → list_any (set.contains X) (five x) ≡ false
  five_dead x =
      λ i. dead (moved_cell (negsuc 0) (negsuc 0) (above x)) (omega (arith, ints)) i
      || (dead (moved_cell (pos 0) (negsuc 0) (above x)) (omega (arith, ints)) i
      || (dead (moved_cell (pos 1) (negsuc 0) (above x)) (omega (arith, ints)) i
      || (dead (moved_cell (negsuc 0) (pos 0) (above x)) (omega (arith, ints)) i
      || (dead (moved_cell (pos 1) (pos 0) (above x)) (omega (arith, ints)) i || false))))

  below_at : (x z : ℤ) (dx : ℤ) → x +ℤ dx ≡ z → set.contains X (moved_cell dx (pos 1) (above x)) ≡ at X z y
  below_at x z dx e =
      ap (set.contains X) (same_coordinates (moved_cell dx (pos 1) (above x)) (cell_at (z, y)) (omega (arith, ints)) e)

  count_above : (x l r : ℤ) → x +ℤ negsuc 0 ≡ l → x +ℤ pos 1 ≡ r
      → neighbour_count X (above x) ≡ three (at X l y) (at X x y) (at X r y)
  count_above x l r e f =
      dead_first (set.contains X) (five x) (beneath x) (five_dead x)
      ∙ three_counted (set.contains X) (moved_cell (negsuc 0) (pos 1) (above x)) (moved_cell (pos 0) (pos 1) (above x))
      (moved_cell (pos 1) (pos 1) (above x))
      ∙ (λ i. three (below_at x l (negsuc 0) e i)
      (below_at x x (pos 0) (let g : x +ℤ pos 0 ≡ x = omega (arith, ints) in g) i) (below_at x r (pos 1) f i))

  module _ (r : RuleSets) (quiet : set.contains r.birth 0 ≡ false) where
    -- what lives above row y one generation later
    next_above : (x a b : ℤ) → x +ℤ negsuc 0 ≡ a → x +ℤ pos 1 ≡ b
        → at (next r X) x (y +ℤ negsuc 0) ≡ set.contains r.birth (three (at X a y) (at X x y) (at X b y))
    next_above x a b e f =
        contains-next r X (above x) quiet
        ∙ (λ i. cond (dead (above x) (omega (arith, ints)) i) (set.contains r.survival (neighbour_count X (above x)))
        (set.contains r.birth (count_above x a b e f i)))

    -- nothing lives further above
    first_next : FirstRow (next r X) (y +ℤ negsuc 0)
    first_next c lives =
        by_lt_z c.row (y +ℤ negsuc 0) (λ far. absurd (true≢false (sym lives ∙ nothing far))) (λ near. near)
      where
        nothing : c.row <ℤ (y +ℤ negsuc 0) → set.contains (next r X) c ≡ false
        nothing far =
            let round : list_any (set.contains X) (around c) ≡ false =
            λ i. dead (moved_cell (negsuc 0) (negsuc 0) c) (omega (arith, ints)) i
            || (dead (moved_cell (pos 0) (negsuc 0) c) (omega (arith, ints)) i
            || (dead (moved_cell (pos 1) (negsuc 0) c) (omega (arith, ints)) i
            || (dead (moved_cell (negsuc 0) (pos 0) c) (omega (arith, ints)) i
            || (dead (moved_cell (pos 1) (pos 0) c) (omega (arith, ints)) i
            || (dead (moved_cell (negsuc 0) (pos 1) c) (omega (arith, ints)) i
            || (dead (moved_cell (pos 0) (pos 1) c) (omega (arith, ints)) i
            || (dead (moved_cell (pos 1) (pos 1) c) (omega (arith, ints)) i || false))))))) in
            contains-next r X c quiet
            ∙ (λ i. cond (dead c (omega (arith, ints)) i) (set.contains r.survival (neighbour_count X c))
            (set.contains r.birth (none_counted (set.contains X) (around c) round i)))
            ∙ quiet

module _ (r : RuleSets) (quiet : set.contains r.birth 0 ≡ false) (one : set.contains r.birth 1 ≡ false)
    (two : set.contains r.birth 2 ≡ true) where
  -- two live cells side by side and a third, which lives only if three neighbours give a birth
  born_left : (a : Bool) → (set.contains r.birth 3 ≡ false → a ≡ false)
      → set.contains r.birth (three a true true) ≡ true
  born_left false h = two
  born_left true h = ⊎_elim (λ e. e) (λ e. absurd (true≢false (h e))) (cases_Bool (set.contains r.birth 3))

  born_right : (a : Bool) → (set.contains r.birth 3 ≡ false → a ≡ false)
      → set.contains r.birth (three true true a) ≡ true
  born_right false h = two
  born_right true h = ⊎_elim (λ e. e) (λ e. absurd (true≢false (h e))) (cases_Bool (set.contains r.birth 3))

  -- at most one live cell
  few_left : (a : Bool) → set.contains r.birth (three a false false) ≡ false
  few_left false = quiet
  few_left true = one

  few_right : (a : Bool) → set.contains r.birth (three false false a) ≡ false
  few_right false = quiet
  few_right true = one

  pair_next : (X : Cells) (x y : ℤ) → FirstRow X y → HasPair r X x y → HasPair r (next r X) x (y +ℤ negsuc 0)
  pair_next X x y low pair = record {
    left =
        up x (x -ℤ pos 1) (x +ℤ pos 1) (omega (arith, ints)) refl
        ∙ (λ i. set.contains r.birth (three (at X (x -ℤ pos 1) y) (pair.left i) (pair.right i)))
        ∙ born_left _ (λ e. (pair.alone e).left);
    right =
        up (x +ℤ pos 1) x (x +ℤ pos 2) (omega (arith, ints)) (omega (arith, ints))
        ∙ (λ i. set.contains r.birth (three (pair.left i) (pair.right i) (at X (x +ℤ pos 2) y)))
        ∙ born_right _ (λ e. (pair.alone e).right);
    alone = λ e.
        let sides = pair.alone e in
        record {
          second_left =
              up (x -ℤ pos 2) (x -ℤ pos 3) (x -ℤ pos 1) (omega (arith, ints)) (omega (arith, ints))
              ∙ (λ i. set.contains r.birth (three (at X (x -ℤ pos 3) y) (sides.second_left i) (sides.left i)))
              ∙ few_left _;
          left =
              up (x -ℤ pos 1) (x -ℤ pos 2) x (omega (arith, ints)) (omega (arith, ints))
              ∙ (λ i. set.contains r.birth (three (sides.second_left i) (sides.left i) (pair.left i))) ∙ one;
          right =
              up (x +ℤ pos 2) (x +ℤ pos 1) (x +ℤ pos 3) (omega (arith, ints)) (omega (arith, ints))
              ∙ (λ i. set.contains r.birth (three (pair.right i) (sides.right i) (sides.second_right i))) ∙ one;
          second_right =
              up (x +ℤ pos 3) (x +ℤ pos 2) (x +ℤ pos 4) (omega (arith, ints)) (omega (arith, ints))
              ∙ (λ i. set.contains r.birth (three (sides.right i) (sides.second_right i) (at X (x +ℤ pos 4) y)))
              ∙ few_right _;
        };
  }
    where
      up : (x a b : ℤ) → x +ℤ negsuc 0 ≡ a → x +ℤ pos 1 ≡ b
          → at (next r X) x (y +ℤ negsuc 0) ≡ set.contains r.birth (three (at X a y) (at X x y) (at X b y))
      up x a b e f = next_above X y low r quiet x a b e f

  -- the pair of generation n lies n rows above that of X
  pair_at : (X : Cells) (x y : ℤ) → FirstRow X y → HasPair r X x y → (n : ℕ)
      → FirstRow (generation_of r X n) (y -ℤ pos n) × HasPair r (generation_of r X n) x (y -ℤ pos n)
  pair_at X x y low pair zero =
      subst (λ z. FirstRow X z × HasPair r X x z) (let e : y ≡ y -ℤ pos 0 = omega (arith, ints) in e) (low, pair)
  pair_at X x y low pair (suc n) =
      let before = pair_at X x y low pair n in
      let Y = generation_of r X n in
      subst (λ z. FirstRow (next r Y) z × HasPair r (next r Y) x z)
      (let e : (y -ℤ pos n) +ℤ negsuc 0 ≡ y -ℤ pos (suc n) = omega (arith, ints) in e)
      (first_next Y (y -ℤ pos n) before.0 r quiet, pair_next Y x (y -ℤ pos n) before.0 before.1)

  -- where X comes back it has moved up by a row in each generation
  moves_up : (X : Cells) (x y : ℤ) → FirstRow X y → HasPair r X x y → (p : ℕ) (v : Cell) → Returns r X p v.column v.row
      → (v.row +ℤ pos p) ≤ℤ pos 0
  moves_up X x y low pair p v back =
      let d = cell_at (x, y -ℤ pos p) in
      let there = (pair_at X x y low pair p).1.left in
      let under = low (plus d (minus v)) (sym (contains-placed O0 v X d) ∙ subst (λ Y. Has Y d) back there) in
      omega (arith, ints)

  turned_at : (X : Cells) (x y a b : ℤ) → neg_ℤ x ≡ a → neg_ℤ y ≡ b → at (placed O2 origin X) x y ≡ at X a b
  turned_at X x y a b e f =
      contains-placed O2 origin X (cell_at (x, y))
      ∙ ap (set.contains X) (same_coordinates _ (cell_at (a, b)) (omega (arith, ints, f)) (omega (arith, ints, e)))

  -- a pair of X lies in X turned by half a turn
  pair_turned : (X : Cells) (x y : ℤ) → HasPair r X x y → HasPair r (placed O2 origin X) (neg_ℤ (x +ℤ pos 1)) (neg_ℤ y)
  pair_turned X x y pair =
      let z = neg_ℤ (x +ℤ pos 1) in
      let w = neg_ℤ y in
      record {
        left = turned_at X z w (x +ℤ pos 1) y (omega (arith, ints)) (omega (arith, ints)) ∙ pair.right;
        right = turned_at X (z +ℤ pos 1) w x y (omega (arith, ints)) (omega (arith, ints)) ∙ pair.left;
        alone = λ e.
            let sides = pair.alone e in
            record {
              second_left =
                  turned_at X (z -ℤ pos 2) w (x +ℤ pos 3) y (omega (arith, ints)) (omega (arith, ints))
                  ∙ sides.second_right;
              left =
                  turned_at X (z -ℤ pos 1) w (x +ℤ pos 2) y (omega (arith, ints)) (omega (arith, ints)) ∙ sides.right;
              right =
                  turned_at X (z +ℤ pos 2) w (x -ℤ pos 1) y (omega (arith, ints)) (omega (arith, ints)) ∙ sides.left;
              second_right =
                  turned_at X (z +ℤ pos 3) w (x -ℤ pos 2) y (omega (arith, ints)) (omega (arith, ints))
                  ∙ sides.second_left;
            };
      }

  first_turned : (X : Cells) (top bottom : ℤ) → LiesInRows X top bottom → FirstRow (placed O2 origin X) (neg_ℤ bottom)
  first_turned X top bottom rows c has =
      let d = cell_at (neg_ℤ c.column, neg_ℤ c.row) in
      let under = (rows d (sym (turned_at X c.column c.row (neg_ℤ c.column) (neg_ℤ c.row) refl refl) ∙ has)).1 in
      omega (arith, ints)

  never : (X : Cells) (x z top bottom : ℤ) → LiesInRows X top bottom → HasPair r X x top → HasPair r X z bottom
      → (p : ℕ) → 1 ≤ p → (v : Cell) → ¬ Returns r X p v.column v.row
  never X x z top bottom rows first last p from v back =
      let up = moves_up X x top (λ c has. (rows c has).0) first p v back in
      let down = moves_up (placed O2 origin X) (neg_ℤ (z +ℤ pos 1)) (neg_ℤ bottom) (first_turned X top bottom rows)
      (pair_turned X z bottom last) p (turned_cell O2 v) (return_of_placed r X p v O2 origin back) in
      omega (arith, ints)

pub pairs_never_return : PairsNeverReturn
pairs_never_return r X x z top bottom p dx dy quiet one two rows first last from back =
    never r quiet one two X x z top bottom rows first last p from (cell_at (dx, dy)) back

-- a set with a pair in the first and in the last row of its box
pub pairs_of_box : (r : RuleSets) (X : Cells) (left top bottom : ℤ) (width height : ℕ) → IsBox X left top width height
    → bottom ≡ (top +ℤ pos height) -ℤ pos 1 →
    set.contains r.birth 0 ≡ false → set.contains r.birth 1 ≡ false → set.contains r.birth 2 ≡ true →
    (x : ℤ) × HasPair r X x top → (z : ℤ) × HasPair r X z bottom → NeverReturns r X
pairs_of_box r X left top bottom width height box last quiet one two (x, first) (z, end) n from dx dy back =
    pairs_never_return r X x z top bottom n dx dy quiet one two
    (λ c has. (box.from_row.below c has, subst (λ b. c.row ≤ℤ b) (sym last) (box.to_row.above c has)))
    first end from back
