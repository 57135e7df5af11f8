-- The text of a set spells its cells, so different normal sets have different texts.
use Rattle.std.proofs.Common.{◌≡◌, ℕ, zero, suc, ◌+◌, ◌-◌, ◌*◌, ◌/◌, ◌%◌, ◌^◌, ◌<◌, ◌≤◌, Bool, true, false, cond, List}
use Rattle.std.proofs.Common.{[], ◌∷◌, ◌++◌, map, get_or, ℤ, pos, negsuc, nat_abs, ◌≤ℤ◌, refl, sym, ap, ◌∙◌, arith}
use Rattle.std.proofs.Common.{⊎_elim, append-nil, add-zero}
use Rattle.std.specs.Prelude.{codes, nat_eq, nat_le}
use Rattle.std.specs.List.{range_with_len, join_with_byte}
use Rattle.std.specs.FinSet as set
use Rattle.std.proofs.lemmas.Bool.{le-ltb, lt-ltb, cond-true, cond-false, cases_lt, leb-true, and_parts}
use Rattle.std.proofs.lemmas.Bool.{false_from_ne_true}
use Rattle.std.proofs.lemmas.Int.{ints}
use Rattle.std.proofs.lemmas.List.{get_or_past}
use Rattle.std.proofs.lemmas.List.FromFn.{get_or-map-range_with_len, length-map-range_with_len}
use Rattle.life_core.specs.declared.cell.Cell.{Cell}
use Rattle.life_core.specs.Pattern.{Cells, normal}
use Rattle.life_core.proofs.PatternMembers.{cells_by_members}
use Rattle.life_core.proofs.PatternCorners.{Has, normal_low}
use Rattle.life_core.proofs.PatternExtents.{within_past}
use Rattle.life_code.specs.Wechsler.{width, height, spelled, column_value, strip, wechsler}
use Rattle.life_code.specs.Codes.{fits}
use Rattle.life_code.specs.DecodeState.{spells_cell, has_bit}
use Rattle.life_code.specs.CodeLaws.{TextsTellApart}
use Rattle.life_code.proofs.WechslerReading.{AllColumns, read_spelled, read_spelled_other, bit_zero, read_end}
use Rattle.life_code.proofs.WechslerReading.{read_strip_end}

-- the cell in column x and row y
abbrev pub cell : ℕ → ℕ → Cell
cell x y = record { row = pos y; column = pos x }

-- ---- the bits of a column

small_bit : (b : Bool) → cond b 1 0 ≤ 1
small_bit true = omega arith
small_bit false = omega arith

bits : (a b c d e : ℕ) → a ≤ 1 → b ≤ 1 → c ≤ 1 → d ≤ 1 → e ≤ 1 →
    (((a + 2 * b + 4 * c + 8 * d + 16 * e) / 2 ^ 0) % 2 ≡ a)
    × (((a + 2 * b + 4 * c + 8 * d + 16 * e) / 2 ^ 1) % 2 ≡ b)
    × (((a + 2 * b + 4 * c + 8 * d + 16 * e) / 2 ^ 2) % 2 ≡ c)
    × (((a + 2 * b + 4 * c + 8 * d + 16 * e) / 2 ^ 3) % 2 ≡ d)
    × (((a + 2 * b + 4 * c + 8 * d + 16 * e) / 2 ^ 4) % 2 ≡ e)
bits a b c d e p q r s t = (omega arith, omega arith, omega arith, omega arith, omega arith)

bit_is : (b : Bool) → nat_eq (cond b 1 0) 1 ≡ b
bit_is true = refl
bit_is false = refl

column_small : (X : Cells) (s x : ℕ) → column_value X s x < 32
unfolding column_value
column_small X s x =
    let a = small_bit (set.contains X (cell x (5 * s))) in
    let b = small_bit (set.contains X (cell x (5 * s + 1))) in
    let c = small_bit (set.contains X (cell x (5 * s + 2))) in
    let d = small_bit (set.contains X (cell x (5 * s + 3))) in
    let e = small_bit (set.contains X (cell x (5 * s + 4))) in
    omega arith

module _ (f : ℕ → Bool) (s : ℕ) where
  abbrev sum5 : ℕ
  sum5 =
      cond (f (5 * s)) 1 0 + 2 * cond (f (5 * s + 1)) 1 0 + 4 * cond (f (5 * s + 2)) 1 0 + 8
      * cond (f (5 * s + 3)) 1 0 + 16 * cond (f (5 * s + 4)) 1 0

  each_bit : (sum5 / 2 ^ 0 % 2 ≡ cond (f (5 * s)) 1 0) × (sum5 / 2 ^ 1 % 2 ≡ cond (f (5 * s + 1)) 1 0)
      × (sum5 / 2 ^ 2 % 2 ≡ cond (f (5 * s + 2)) 1 0) × (sum5 / 2 ^ 3 % 2 ≡ cond (f (5 * s + 3)) 1 0)
      × (sum5 / 2 ^ 4 % 2 ≡ cond (f (5 * s + 4)) 1 0)
  each_bit =
      bits _ _ _ _ _ (small_bit (f (5 * s))) (small_bit (f (5 * s + 1))) (small_bit (f (5 * s + 2)))
      (small_bit (f (5 * s + 3))) (small_bit (f (5 * s + 4)))

  bit_at : (y : ℕ) → y < 5 → has_bit y sum5 ≡ f (5 * s + y)
  bit_at zero below = ap (λ n. nat_eq n 1) each_bit.0 ∙ bit_is (f (5 * s)) ∙ ap f (sym (add-zero (5 * s)))
  bit_at (suc zero) below = ap (λ n. nat_eq n 1) each_bit.1 ∙ bit_is (f (5 * s + 1))
  bit_at (suc (suc zero)) below = ap (λ n. nat_eq n 1) each_bit.2 ∙ bit_is (f (5 * s + 2))
  bit_at (suc (suc (suc zero))) below = ap (λ n. nat_eq n 1) each_bit.3 ∙ bit_is (f (5 * s + 3))
  bit_at (suc (suc (suc (suc zero)))) below = ap (λ n. nat_eq n 1) each_bit.4 ∙ bit_is (f (5 * s + 4))
  bit_at (suc (suc (suc (suc (suc y))))) below = absurd (omega arith)

column_bit : (X : Cells) (s x y : ℕ) → y < 5 → has_bit y (column_value X s x) ≡ set.contains X (cell x (5 * s + y))
unfolding column_value
column_bit X s x y below = bit_at (λ t. set.contains X (cell x t)) s y below

-- ---- the box

pub within_width : (X : Cells) (c : Cell) → Has X c → nat_abs c.column < width X
unfolding width
within_width X c has = within_past (λ (c : Cell). c.column) X c has

pub within_height : (X : Cells) (c : Cell) → Has X c → nat_abs c.row < height X
unfolding height
within_height X c has = within_past (λ (c : Cell). c.row) X c has

-- ---- strips

pub columns_small : (X : Cells) (s a n : ℕ) → AllColumns (map (column_value X s) (range_with_len a n))
columns_small X s a zero = tt
columns_small X s a (suc n) = (column_small X s a, columns_small X s (a + 1) n)

column_of : (X : Cells) (s x y : ℕ) → y < 5
    → has_bit y (get_or (map (column_value X s) (range_with_len 0 (width X))) x 0) ≡ set.contains X (cell x (5 * s + y))
column_of X s x y below = ⊎_elim
    (λ h. ap (has_bit y) (get_or-map-range_with_len (column_value X s) 0 (width X) x x 0 h (omega arith))
    ∙ column_bit X s x y below)
    (λ h.
    let e : get_or (map (column_value X s) (range_with_len 0 (width X))) x 0 ≡ 0 =
    get_or_past _ x 0 (let e = length-map-range_with_len (column_value X s) 0 (width X) in omega arith) in
    ap (has_bit y) e ∙ bit_zero y ∙ sym
    (false_from_ne_true _ (λ has. let g = within_width X (cell x (5 * s + y)) has in omega arith)))
    (cases_lt x (width X))

strips : Cells → ℕ → ℕ → List ℕ
strips X a n = join_with_byte 122 (map (strip X) (range_with_len a n))

strip_past : (X : Cells) → width X ≤ 40 → (s k : ℕ) (text : List ℕ) (x y : ℕ) (r : Bool) → 5 ≤ y
    → ((m : ℕ) → spells_cell m false text x y ≡ r) → spells_cell k false (strip X s ++ text) x y ≡ r
unfolding strip
strip_past X narrow s k text x y r from rest =
    read_spelled_other (map (column_value X s) (range_with_len 0 (width X))) 0 k text x y r
    (columns_small X s 0 (width X))
    (let e = length-map-range_with_len (column_value X s) 0 (width X) in omega arith) from rest

strip_in : (X : Cells) → width X ≤ 40 → (s : ℕ) (text : List ℕ) (x y : ℕ)
    → y < 5 → ((m : ℕ) → spells_cell m false text x y ≡ false)
    → spells_cell 0 false (strip X s ++ text) x y ≡ set.contains X (cell x (5 * s + y))
unfolding strip
strip_in X narrow s text x y below rest =
    read_spelled (map (column_value X s) (range_with_len 0 (width X))) 0 0 text x y x (columns_small X s 0 (width X))
    (let e = length-map-range_with_len (column_value X s) 0 (width X) in omega arith) below (omega arith) rest
    ∙ column_of X s x y below

read_strips : (X : Cells) → width X ≤ 40 → (n a x y : ℕ) → y < 5 * n
    → spells_cell 0 false (strips X a n) x y ≡ set.contains X (cell x (5 * a + y))
unfolding strips
read_strips X narrow zero a x y h = absurd (omega arith)
read_strips X narrow (suc zero) a x y h =
    ap (λ s. spells_cell 0 false s x y) (sym (append-nil (strip X a)))
    ∙ strip_in X narrow a [] x y (omega arith) (λ m. read_end m x y)
read_strips X narrow (suc (suc n)) a x y h = ⊎_elim
    (λ below. strip_in X narrow a _ x y below (λ m. read_strip_end m _ x y ∙ cond-true _ _ _ (lt-ltb y 5 below)))
    (λ from.
    strip_past X narrow a 0 _ x y _ from (λ m. read_strip_end m _ x y ∙ cond-false _ _ _ (le-ltb y 5 from))
    ∙ read_strips X narrow (suc n) (a + 1) x (y - 5) (omega arith)
    ∙ ap (λ t. set.contains X (cell x t)) (let e : 5 * (a + 1) + (y - 5) ≡ 5 * a + y = omega arith in e))
    (cases_lt y 5)

read_past : (X : Cells) → width X ≤ 40 → (n a x y : ℕ) → 5 * n ≤ y → spells_cell 0 false (strips X a n) x y ≡ false
unfolding strips
read_past X narrow zero a x y h = read_end 0 x y
read_past X narrow (suc zero) a x y h =
    ap (λ s. spells_cell 0 false s x y) (sym (append-nil (strip X a)))
    ∙ strip_past X narrow a 0 [] x y false (omega arith) (λ m. read_end m x y)
read_past X narrow (suc (suc n)) a x y h =
    strip_past X narrow a 0 _ x y _ (omega arith)
    (λ m. read_strip_end m _ x y ∙ cond-false _ _ _ (le-ltb y 5 (omega arith)))
    ∙ read_past X narrow (suc n) (a + 1) x (y - 5) (omega arith)

-- the text of a set spells its cells in columns and rows from 0 on
pub read_wechsler : (X : Cells) → width X ≤ 40 → (x y : ℕ)
    → spells_cell 0 false (wechsler X) x y ≡ set.contains X (cell x y)
unfolding wechsler strips
read_wechsler X narrow x y = ⊎_elim
    (λ h. read_strips X narrow ((height X + 4) / 5) 0 x y h
    ∙ ap (λ t. set.contains X (cell x t)) (let e : 5 * 0 + y ≡ y = omega arith in e))
    (λ h. read_past X narrow ((height X + 4) / 5) 0 x y h
    ∙ sym (false_from_ne_true _ (λ has. let g = within_height X (cell x y) has in omega arith)))
    (cases_lt y (5 * ((height X + 4) / 5)))

pub negative : (n : ℕ) → pos 0 ≤ℤ negsuc n → ⊥
negative n h = omega (arith, ints)

-- the bounds of a box that fits
pub narrow : (X : Cells) → fits X ≡ true → width X ≤ 40
narrow X e = leb-true (width X) 40 (and_parts (nat_le (width X) 40) (nat_le (height X) 40) e).0

pub low : (X : Cells) → fits X ≡ true → height X ≤ 40
low X e = leb-true (height X) 40 (and_parts (nat_le (width X) 40) (nat_le (height X) 40) e).1

-- two normal sets with the same cells in columns and rows from 0 on are one
same_from_origin : (X Y : Cells) → ((x y : ℕ) → set.contains (normal X) (cell x y) ≡ set.contains (normal Y) (cell x y))
    → normal X ≡ normal Y
same_from_origin X Y same = cells_by_members (normal X) (normal Y) (λ c. each c.row c.column)
  where
    none_above : (Z : Cells) (n : ℕ) (b : ℤ) → set.contains (normal Z) (record { row = negsuc n; column = b }) ≡ false
    none_above Z n b =
        false_from_ne_true _ (λ has. negative n (normal_low Z (record { row = negsuc n; column = b }) has).1)

    none_left : (Z : Cells) (a : ℤ) (n : ℕ) → set.contains (normal Z) (record { row = a; column = negsuc n }) ≡ false
    none_left Z a n =
        false_from_ne_true _ (λ has. negative n (normal_low Z (record { row = a; column = negsuc n }) has).0)

    each : (row column : ℤ) → set.contains (normal X) (record { row = row; column = column })
        ≡ set.contains (normal Y) (record { row = row; column = column })
    each (pos y) (pos x) = same x y
    each (negsuc y) b = none_above X y b ∙ sym (none_above Y y b)
    each (pos y) (negsuc x) = none_left X (pos y) x ∙ sym (none_left Y (pos y) x)

-- two normal sets with one text are one
pub text_one : (X Y : Cells) → fits (normal X) ≡ true → fits (normal Y) ≡ true
    → wechsler (normal X) ≡ wechsler (normal Y) → normal X ≡ normal Y
text_one X Y f g e = same_from_origin X Y (λ x y.
    sym (read_wechsler (normal X) (narrow (normal X) f) x y) ∙ ap (λ t. spells_cell 0 false t x y) e
    ∙ read_wechsler (normal Y) (narrow (normal Y) g) x y)

-- two normal sets of at most 40 by 40 have two texts
pub texts_tell_apart : TextsTellApart
texts_tell_apart X Y x_normal y_normal f g e =
    sym x_normal
    ∙ text_one X Y (ap fits x_normal ∙ f) (ap fits y_normal ∙ g) (ap wechsler x_normal ∙ e ∙ sym (ap wechsler y_normal))
    ∙ y_normal

-- ---- examples

spelled_252 : spelled 0 (2 ∷ 5 ∷ 2 ∷ []) ≡ codes "252"
unfolding spelled
spelled_252 = refl

spelled_33y133 : spelled 0 (3 ∷ 3 ∷ 0 ∷ 0 ∷ 0 ∷ 0 ∷ 0 ∷ 3 ∷ 3 ∷ []) ≡ codes "33y133"
unfolding spelled
spelled_33y133 = refl

spelled_no_end : spelled 0 (12 ∷ 0 ∷ 24 ∷ 0 ∷ 0 ∷ 31 ∷ 0 ∷ 0 ∷ 0 ∷ 1 ∷ 0 ∷ 0 ∷ []) ≡ codes "c0owvx1"
unfolding spelled
spelled_no_end = refl
