-- One generation of rows of words one after the other, whose first and last columns are dead: each place has its
-- neighbours where the list has them, even across the ends of rows.
use Rattle.std.specs.Prelude.{◌≡◌, ℕ, ℤ, pos, negsuc, ◌+◌, ◌-◌, ◌*◌, ◌<◌, ◌≤◌, ◌+ℤ◌, zero, suc, Bool, true, false, cond}
use Rattle.std.specs.Prelude.{nat_eq, List, [], ◌∷◌, length, count_by, refl}
use Rattle.std.proofs.Common.{sym, ap, ◌∙◌, inl, inr, arith}
use Rattle.std.proofs.lemmas.Int.{ints}
use Rattle.std.proofs.lemmas.List.Sums.{sum_by-cons}
use Rattle.std.proofs.lemmas.Bool.{cases_lt}
use Rattle.std.specs.FinSet as set
use Rattle.life_core.specs.declared.cell.Cell.{Cell}
use Rattle.life_core.specs.declared.packed.frame.Frame.{Frame}
use Rattle.life_core.specs.Cell.{moved_cell}
use Rattle.life_core.specs.Rule.{RuleSets, lives_at}
use Rattle.life_core.specs.Generations.{neighbour_count, next}
use Rattle.life_core.specs.PackedRow.{one_if, place}
use Rattle.life_core.specs.PackedFrameState.{cell_in, framed}
use Rattle.life_core.proofs.CellLemmas.{same_coordinates}
use Rattle.life_core.proofs.PackedCells.{place_is_live, live_in}
use Rattle.life_core.proofs.GenerationsLaws.{contains-next}
use Rattle.life_core.specs.PackedBlocksState.{flat_count, flat_next}
use Rattle.life_core.proofs.LanePlaces.{place-lt}

-- rows whose first and last column is dead
pub record HasDeadEdges (W height : ℕ) (rows : List ℕ) : Type 0 where
  pub first : (y : ℕ) → y < height → place rows (y * W) ≡ 0
  pub last : (y : ℕ) → y < height → place rows (y * W + (W - 1)) ≡ 0

counted_cons : (p : Cell → Bool) (x : Cell) (xs : List Cell) → count_by p (x ∷ xs) ≡ one_if (p x) + count_by p xs
counted_cons p x xs = sum_by-cons (λ y. cond (p y) 1 0) x xs

counted_eight : (p : Cell → Bool) (a b c d e f g h : Cell)
    → count_by p (a ∷ b ∷ c ∷ d ∷ e ∷ f ∷ g ∷ h ∷ []) ≡ (one_if (p a) + (one_if (p b) + one_if (p c)))
    + ((one_if (p d) + one_if (p e)) + (one_if (p f) + (one_if (p g) + one_if (p h))))
counted_eight p a b c d e f g h = omega (
  arith,
  counted_cons p a (b ∷ c ∷ d ∷ e ∷ f ∷ g ∷ h ∷ []),
  counted_cons p b (c ∷ d ∷ e ∷ f ∷ g ∷ h ∷ []),
  counted_cons p c (d ∷ e ∷ f ∷ g ∷ h ∷ []),
  counted_cons p d (e ∷ f ∷ g ∷ h ∷ []),
  counted_cons p e (f ∷ g ∷ h ∷ []),
  counted_cons p f (g ∷ h ∷ []),
  counted_cons p g (h ∷ []),
  counted_cons p h [],
)

bit_is : (b : ℕ) → b < 2 → one_if (nat_eq b 1) ≡ b
bit_is zero lt = refl
bit_is (suc zero) lt = refl
bit_is (suc (suc b)) lt = absurd (omega arith)

none_of : (b : Bool) → (b ≡ true → ⊥) → one_if b ≡ 0
none_of true never = absurd (never refl)
none_of false never = refl

module _ (f : Frame) (rows : List ℕ) (wide : 0 < f.words) (size : f.height * f.words ≡ length rows)
    (dead : HasDeadEdges (64 * f.words) f.height rows) where
  -- whether a cell is live, as a number
  lives : Cell → ℕ
  lives c = one_if (set.contains (framed f rows) c)

  inside : (c : Cell) (x y : ℕ) → x < 64 * f.words → y < f.height → c.column ≡ f.left +ℤ pos x
      → c.row ≡ f.top +ℤ pos y → one_if (set.contains (framed f rows) c) ≡ place rows (y * (64 * f.words) + x)
  inside c x y narrow low column row =
      ap (λ d. one_if (set.contains (framed f rows) d)) (same_coordinates c (cell_in f.left f.top x y) row column)
      ∙ ap one_if (place_is_live f rows wide size x y narrow low)
      ∙ bit_is (place rows (y * (64 * f.words) + x)) (place-lt rows (y * (64 * f.words) + x))

  left_of : (c : Cell) (x y : ℕ) → x < 64 * f.words → 1 ≤ y → y < f.height → (c.column +ℤ pos 1) ≡ f.left +ℤ pos x
      → c.row ≡ f.top +ℤ pos y → one_if (set.contains (framed f rows) c) ≡ place rows (y * (64 * f.words) + x - 1)
  left_of c zero y narrow later low column row =
      let out : one_if (set.contains (framed f rows) c) ≡ 0 =
      none_of _ (λ h. let i = live_in f rows wide size c h in omega (arith, ints, i.from_left, column)) in
      let before : (y - 1) * (64 * f.words) + (64 * f.words - 1) ≡ y * (64 * f.words) + 0 - 1 =
      (let up : (y - 1) * (64 * f.words) + (64 * f.words) ≡ y * (64 * f.words) = (let one : (y - 1) + 1 ≡ y =
      omega arith in omega (arith, ap (λ (m : ℕ). m * (64 * f.words)) one)) in omega (arith, up, wide)) in
      out ∙ sym (ap (place rows) (sym before) ∙ dead.last (y - 1) (omega arith))
  left_of c (suc x) y narrow later low column row =
      let at : y * (64 * f.words) + x ≡ y * (64 * f.words) + suc x - 1 = omega arith in
      inside c x y (omega arith) low (omega (arith, ints, column)) row ∙ ap (place rows) at

  right_of : (c : Cell) (x y : ℕ) → x < 64 * f.words → y + 1 < f.height → c.column ≡ f.left +ℤ pos (x + 1)
      → c.row ≡ f.top +ℤ pos y → one_if (set.contains (framed f rows) c) ≡ place rows (y * (64 * f.words) + x + 1)
  right_of c x y narrow low column row = elim (cases_lt (x + 1) (64 * f.words)) [
    | inl more ↦
        let at : y * (64 * f.words) + (x + 1) ≡ y * (64 * f.words) + x + 1 = omega arith in
        inside c (x + 1) y more (omega arith) column row ∙ ap (place rows) at
    | inr past ↦
        let out : one_if (set.contains (framed f rows) c) ≡ 0 =
        none_of _ (λ h. let i = live_in f rows wide size c h in omega (arith, ints, i.to_right, column, past)) in
        let after : (y + 1) * (64 * f.words) ≡ y * (64 * f.words) + x + 1 = omega (arith, past, narrow) in
        out ∙ sym (ap (place rows) (sym after) ∙ dead.first (y + 1) low)
  ]

  -- what the list's neighbours make of a place is the next set's
  pub flat_is : (r : RuleSets) → set.contains r.birth 0 ≡ false → (x y : ℕ) → x < 64 * f.words
      → 2 ≤ y → y + 2 < f.height
      → flat_next r rows (64 * f.words) (y * (64 * f.words) + x)
      ≡ one_if (set.contains (next r (framed f rows)) (cell_in f.left f.top x y))
  flat_is r quiet x y narrow later low =
      let S = framed f rows in
      let W : ℕ = 64 * f.words in
      let c : Cell = cell_in f.left f.top x y in
      let q : ℕ = y * W + x in
      let up : (y - 1) * W + W ≡ y * W =
      (let one : (y - 1) + 1 ≡ y = omega arith in omega (arith, ap (λ (m : ℕ). m * W) one)) in
      let down : (y + 1) * W ≡ y * W + W = omega arith in
      let a0 : (y - 1) * W + x - 1 ≡ q - W - 1 = omega (arith, up) in
      let a1 : (y - 1) * W + x ≡ q - W = omega (arith, up) in
      let a2 : (y - 1) * W + x + 1 ≡ q - W + 1 = omega (arith, up) in
      let b0 : (y + 1) * W + x - 1 ≡ q + W - 1 = omega (arith, down) in
      let b1 : (y + 1) * W + x ≡ q + W = omega (arith, down) in
      let b2 : (y + 1) * W + x + 1 ≡ q + W + 1 = omega (arith, down) in
      let d = λ (dx dy : ℤ). moved_cell dx dy c in
      let count : neighbour_count S c ≡ flat_count rows W q =
      counted_eight (λ e. set.contains S e) (d (negsuc 0) (negsuc 0)) (d (pos 0) (negsuc 0)) (d (pos 1) (negsuc 0))
      (d (negsuc 0) (pos 0)) (d (pos 1) (pos 0)) (d (negsuc 0) (pos 1)) (d (pos 0) (pos 1)) (d (pos 1) (pos 1))
      ∙ (λ t.
      (left_of (d (negsuc 0) (negsuc 0)) x (y - 1) narrow (omega arith) (omega arith) (omega (arith, ints))
      (omega (arith, ints)) t
      + (inside (d (pos 0) (negsuc 0)) x (y - 1) narrow (omega arith) (omega (arith, ints)) (omega (arith, ints)) t
      + right_of (d (pos 1) (negsuc 0)) x (y - 1) narrow (omega arith) (omega (arith, ints)) (omega (arith, ints)) t))
      + ((left_of (d (negsuc 0) (pos 0)) x y narrow (omega arith) (omega arith) (omega (arith, ints))
      (omega (arith, ints)) t
      + right_of (d (pos 1) (pos 0)) x y narrow (omega arith) (omega (arith, ints)) (omega (arith, ints)) t)
      + (left_of (d (negsuc 0) (pos 1)) x (y + 1) narrow (omega arith) (omega arith) (omega (arith, ints))
      (omega (arith, ints)) t
      + (inside (d (pos 0) (pos 1)) x (y + 1) narrow (omega arith) (omega (arith, ints)) (omega (arith, ints)) t
      + right_of (d (pos 1) (pos 1)) x (y + 1) narrow (omega arith) (omega (arith, ints)) (omega (arith, ints)) t))))
      ∙ (λ t. (place rows (a0 t) + (place rows (a1 t) + place rows (a2 t)))
      + ((place rows (q - 1) + place rows (q + 1)) + (place rows (b0 t) + (place rows (b1 t) + place rows (b2 t))))) in
      let live : nat_eq (place rows q) 1 ≡ set.contains S c =
      sym (place_is_live f rows wide size x y narrow (omega arith)) in
      (λ t. one_if (lives_at r (live t) (sym count t))) ∙ ap one_if (sym (contains-next r S c quiet))
