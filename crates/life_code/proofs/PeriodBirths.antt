-- Under a rule with a birth at one neighbour no set with a cell returns. Take the cells furthest along a diagonal. The
-- cell diagonally beyond has one live neighbour and is born, so each generation is longer at both ends of the
-- diagonal.
use Rattle.std.specs.Prelude.{◌≡◌, ◌≢◌, ℕ, zero, suc, ◌+◌, ◌≤◌, ℤ, pos, negsuc, ◌+ℤ◌, ◌-ℤ◌, ◌≤ℤ◌, Bool, true, false}
use Rattle.std.specs.Prelude.{cond, ◌||◌, List, [], ◌∷◌, ◌++◌, count_by, refl}
use Rattle.std.specs.List.{list_any}
use Rattle.std.proofs.Common.{sym, ap, subst, ◌∙◌, ⊎_elim, zero-add, arith}
use Rattle.std.proofs.lemmas.Bool.{cases_Bool, or_parts}
use Rattle.std.proofs.lemmas.Int.{ints}
use Rattle.std.proofs.lemmas.List.Sums.{sum_by-cons}
use Rattle.std.specs.FinSet as set
use Rattle.life_core.specs.declared.cell.Cell.{Cell}
use Rattle.life_core.specs.declared.orientation.Orientation.TheVariants.{O0, O2}
use Rattle.life_core.specs.Cell.{cell_at, moved_cell}
use Rattle.life_core.specs.Generations.{neighbour_count, next, generation_of}
use Rattle.life_core.specs.Orientation.{turned_cell}
use Rattle.life_core.specs.Pattern.{Cells, least}
use Rattle.life_core.specs.Rule.{RuleSets}
use Rattle.life_core.proofs.GenerationsLaws.{contains-next, move_back}
use Rattle.life_core.proofs.PatternCorners.{Has, has_cell_of, least-IsLeast}
use Rattle.life_core.proofs.Placements.{origin, minus, plus, place, placed, contains-placed, undo-place}
use Rattle.life_code.specs.CodeLaws.{BirthAtOneNeverReturns}
use Rattle.life_code.specs.Period.{Returns}
use Rattle.life_code.proofs.PeriodLemmas.{return_of_placed}

-- how far a cell lies along the diagonal
abbrev along : Cell → ℤ
along c = c.row +ℤ c.column

-- the cell diagonally before c
abbrev before : Cell → Cell
before c = moved_cell (negsuc 0) (negsuc 0) c

-- one of a list, the last, is counted
one_counted : (p : Cell → Bool) (cs : List Cell) (last : Cell) → list_any p cs ≡ false → p last ≡ true
    → count_by p (cs ++ last ∷ []) ≡ 1
one_counted p [] last none here = sum_by-cons (λ c. cond (p c) 1 0) last [] ∙ ap (λ b. cond b 1 0 + 0) here
one_counted p (c ∷ cs) last none here =
    let parts = or_parts (p c) (list_any p cs) none in
    sum_by-cons (λ d. cond (p d) 1 0) c (cs ++ last ∷ []) ∙ ap (λ b. cond b 1 0 + count_by p (cs ++ last ∷ [])) parts.0
    ∙ zero-add _ ∙ one_counted p cs last parts.1 here

module _ (X : Cells) (c : Cell) (low : (d : Cell) → Has X d → along c ≤ℤ along d) where
  -- what lies before a first cell of X isn't in X
  dead : (d : Cell) → (along d +ℤ pos 1) ≤ℤ along c → set.contains X d ≡ false
  dead d less =
      ⊎_elim (λ live. absurd (let under = low d live in let no : ⊥ = omega (arith, ints) in no))
      (λ e. e) (cases_Bool (set.contains X d))

  -- all cells round the one before it but itself
  abbrev seven : List Cell
  seven =
      let b = before c in
      moved_cell (negsuc 0) (negsuc 0) b ∷ moved_cell (pos 0) (negsuc 0) b ∷ moved_cell (pos 1) (negsuc 0) b
      ∷ moved_cell (negsuc 0) (pos 0) b ∷ moved_cell (pos 1) (pos 0) b
      ∷ moved_cell (negsuc 0) (pos 1) b ∷ moved_cell (pos 0) (pos 1) b ∷ []

  seven_dead : list_any (set.contains X) seven ≡ false
  seven_dead =
      let b = before c in
      λ i. dead (moved_cell (negsuc 0) (negsuc 0) b) (omega (arith, ints)) i
      || (dead (moved_cell (pos 0) (negsuc 0) b) (omega (arith, ints)) i
      || (dead (moved_cell (pos 1) (negsuc 0) b) (omega (arith, ints)) i
      || (dead (moved_cell (negsuc 0) (pos 0) b) (omega (arith, ints)) i
      || (dead (moved_cell (pos 1) (pos 0) b) (omega (arith, ints)) i
      || (dead (moved_cell (negsuc 0) (pos 1) b) (omega (arith, ints)) i
      || (dead (moved_cell (pos 0) (pos 1) b) (omega (arith, ints)) i || false))))))

  one_neighbour : Has X c → neighbour_count X (before c) ≡ 1
  one_neighbour has =
      one_counted (set.contains X) seven (moved_cell (pos 1) (pos 1) (before c)) seven_dead
      (ap (set.contains X) (move_back (pos 1) (pos 1) (negsuc 0) (negsuc 0) refl refl c) ∙ has)

  -- the cell before it is born
  born : (r : RuleSets) → set.contains r.birth 0 ≡ false → set.contains r.birth 1 ≡ true → Has X c
      → Has (next r X) (before c)
  born r quiet one has =
      contains-next r X (before c) quiet
      ∙ (λ i. cond (dead (before c) (omega (arith, ints)) i) (set.contains r.survival (neighbour_count X (before c)))
      (set.contains r.birth (one_neighbour has i)))
      ∙ one

-- a cell of X lies at m or before
abbrev Reaches : Cells → ℤ → Type 0
Reaches X m = (c : Cell) × Has X c × (along c ≤ℤ m)

module _ (r : RuleSets) (quiet : set.contains r.birth 0 ≡ false) (one : set.contains r.birth 1 ≡ true) where
  reaches_next : (X : Cells) (m : ℤ) → Reaches X m → Reaches (next r X) (m -ℤ pos 2)
  reaches_next X m (d, has, at) =
      let low = least-IsLeast along X d has in
      let c = low.reached.0 in
      let first : (e : Cell) → Has X e
      → along c ≤ℤ along e = λ e h. let under = low.below e h in let same = low.reached.2 in omega (arith, ints) in
      let under = first d has in
      (before c, born X c first r quiet one low.reached.1, omega (arith, ints))

  reaches_at : (X : Cells) (m : ℤ) → Reaches X m → (n : ℕ) → Reaches (generation_of r X n) (m -ℤ pos (n + n))
  reaches_at X m there zero = let far = there.2 in (there.0, there.1, omega (arith, ints))
  reaches_at X m there (suc n) =
      let further = reaches_next (generation_of r X n) (m -ℤ pos (n + n)) (reaches_at X m there n) in
      let far = further.2 in
      (further.0, further.1, omega (arith, ints))

  -- where X comes back it has moved before
  moves_before : (X : Cells) (c : Cell) → Has X c → (p : ℕ) (v : Cell) → Returns r X p v.column v.row
      → (along v +ℤ pos (p + p)) ≤ℤ pos 0
  moves_before X c has p v back =
      let low = least-IsLeast along X c has in
      let same = low.reached.2 in
      let there = reaches_at X (least along X) (low.reached.0, low.reached.1, omega (arith, ints)) p in
      let d = there.0 in
      let far = there.2 in
      let under = low.below (plus d (minus v)) (sym (contains-placed O0 v X d) ∙ subst (λ Y. Has Y d) back there.1) in
      omega (arith, ints)

  never_returns : (X : Cells) → X ≢ set.empty → (p : ℕ) → 1 ≤ p → (v : Cell) → ¬ Returns r X p v.column v.row
  never_returns X some p from v back =
      let cell = has_cell_of X some in
      let there = moves_before X cell.0 cell.1 p v back in
      let turned = placed O2 origin X in
      let here = moves_before turned (place O2 origin cell.0) (contains-placed O2 origin X (place O2 origin cell.0)
      ∙ ap (set.contains X) (undo-place O2 origin cell.0) ∙ cell.1) p (turned_cell O2 v)
      (return_of_placed r X p v O2 origin back) in
      omega (arith, ints)

pub birth_at_one_never_returns : BirthAtOneNeverReturns
birth_at_one_never_returns r X p dx dy quiet one some from back =
    never_returns r quiet one X some p from (cell_at (dx, dy)) back
