-- Steps of reading a text once, for all cells.
use Rattle.std.proofs.Common.{◌≡◌, ◌≢◌, ℕ, ◌+◌, ◌-◌, ◌*◌, ◌/◌, ◌%◌, ◌<◌, ◌≤◌, Bool, true, false, cond, ◌&&◌, ◌||◌, List}
use Rattle.std.proofs.Common.{[], ◌∷◌, length, get_or, replicate, refl, sym, ap, ◌∙◌, arith, ◌⊎◌, inl, inr, ⊎_elim}
use Rattle.std.specs.Prelude.{nat_eq, nat_lt, nat_le, set}
use Rattle.std.proofs.lemmas.Bool.{le-ltb, lt-ltb, le-leb, lt-leb, ne_eqb, eq-eqb, cond-true, cond-false, cases_lt}
use Rattle.std.proofs.lemmas.Bool.{cases_eq, and_left, and_right, and_from}
use Rattle.std.proofs.Math.Bool.{or-false}
use Rattle.std.proofs.lemmas.List.{get_or-set_same, get_or-set_other, get_or-replicate}
use Rattle.life_code.specs.Wechsler.{value_of}
use Rattle.life_code.specs.DecodeState.{has_bit, spells_cell, is_live, awaited_cell, AreBlank}
use Rattle.life_code.proofs.WechslerReading.{bit_zero}

-- both branches of a test come to the same
either_way : (b : Bool) (p q r : Bool) → p ≡ r → q ≡ r → cond b p q ≡ r
either_way true p q r e f = e
either_way false p q r e f = f

-- a column that the text has passed is not live
spells_past : (text : List ℕ) (k : ℕ) (after_y : Bool) (x y : ℕ) → x < k → y < 5
    → spells_cell k after_y text x y ≡ false
unfolding spells_cell
spells_past [] k true x y before below = refl
spells_past [] k false x y before below = refl
spells_past (c ∷ text) k true x y before below =
    spells_past text (k + 4 + value_of c) false x y (further (value_of c)) below
  where
    further : (n : ℕ) → x < k + 4 + n
    further n = omega arith
spells_past (c ∷ text) k false x y before below =
    either_way _ _ _ _ (cond-true (nat_lt y 5) _ _ (lt-ltb y 5 below))
    (either_way _ _ _ _ (spells_past text (k + 1) false x y (omega arith) below)
    (either_way _ _ _ _ (spells_past text (k + 2) false x y (omega arith) below)
    (either_way _ _ _ _ (spells_past text (k + 3) false x y (omega arith) below)
    (either_way _ _ _ _ (spells_past text k true x y before below)
    (cond-false _ _ _ (and_left (nat_eq k x) (nat_lt y 5) (ne_eqb k x (λ e. omega arith)))
    ∙ spells_past text (k + 1) false x y (omega arith) below)))))

-- a `z` leads to the next strip
pub next_strip : (columns : List ℕ) (s k : ℕ) (text : List ℕ) (x y : ℕ)
    → awaited_cell columns (s + 1) 0 false text x y ≡ awaited_cell columns s k false (122 ∷ text) x y
unfolding spells_cell
next_strip columns s k text x y = ap (λ b. is_live columns x y || b) (sym same)
  where
    same : (nat_le (5 * s) y && cond (nat_lt (y - 5 * s) 5) false (spells_cell 0 false text x (y - 5 * s - 5)))
        ≡ (nat_le (5 * (s + 1)) y && spells_cell 0 false text x (y - 5 * (s + 1)))
    same = ⊎_elim
        (λ below.
        and_right (nat_le (5 * s) y) _ (cond-true _ _ _ (lt-ltb (y - 5 * s) 5 (omega arith)))
        ∙ sym (and_left (nat_le (5 * (s + 1)) y) (spells_cell 0 false text x (y - 5 * (s + 1)))
        (lt-leb (5 * (s + 1)) y below)))
        (λ from.
        ap (λ b. b && cond (nat_lt (y - 5 * s) 5) false (spells_cell 0 false text x (y - 5 * s - 5)))
        (le-leb (5 * s) y (omega arith))
        ∙ cond-false (nat_lt (y - 5 * s) 5) _ _ (le-ltb (y - 5 * s) 5 (omega arith))
        ∙ ap (spells_cell 0 false text x) (let e : y - 5 * s - 5 ≡ y - 5 * (s + 1) = omega arith in e)
        ∙ sym (ap (λ b. b && spells_cell 0 false text x (y - 5 * (s + 1))) (le-leb (5 * (s + 1)) y from)))
        (cases_lt y (5 * (s + 1)))

-- nothing is left to read
pub nothing_left : (columns : List ℕ) (s k : ℕ) (after_y : Bool) (x y : ℕ)
    → awaited_cell columns s k after_y [] x y ≡ is_live columns x y
unfolding spells_cell
nothing_left columns s k true x y =
    ap (λ b. is_live columns x y || b) (and_right (nat_le (5 * s) y) _ refl) ∙ or-false _
nothing_left columns s k false x y =
    ap (λ b. is_live columns x y || b) (and_right (nat_le (5 * s) y) _ refl) ∙ or-false _

-- ---- a character of a column

-- it stands for a column, and not for the end of a strip or for columns of zero
pub record IsColumn (c : ℕ) : Type 0 where
  pub not_0 : c ≢ 48
  pub not_w : c ≢ 119
  pub not_x : c ≢ 120
  pub not_y : c ≢ 121
  pub not_z : c ≢ 122

module _ (c : ℕ) (is_column : IsColumn c) (s k : ℕ) (text : List ℕ) (x y : ℕ) where
  read_column : (r : ℕ) → spells_cell k false (c ∷ text) x r
      ≡ cond (nat_eq k x && nat_lt r 5) (has_bit r (value_of c)) (spells_cell (k + 1) false text x r)
  unfolding spells_cell
  read_column r =
      cond-false _ _ _ (ne_eqb c 122 is_column.not_z)
      ∙ cond-false _ _ _ (ne_eqb c 48 is_column.not_0)
      ∙ cond-false _ _ _ (ne_eqb c 119 is_column.not_w)
      ∙ cond-false _ _ _ (ne_eqb c 120 is_column.not_x)
      ∙ cond-false _ _ _ (ne_eqb c 121 is_column.not_y)

  -- what is left to read of another column or strip
  left_elsewhere : (x ≢ k) ⊎ (y / 5 ≢ s) → (nat_le (5 * s) y && spells_cell (k + 1) false text x (y - 5 * s))
      ≡ (nat_le (5 * s) y && spells_cell k false (c ∷ text) x (y - 5 * s))
  left_elsewhere other = ⊎_elim
      (λ above. and_left (nat_le (5 * s) y) _ (lt-leb (5 * s) y above)
      ∙ sym (and_left (nat_le (5 * s) y) _ (lt-leb (5 * s) y above)))
      (λ from. ap (λ b. nat_le (5 * s) y && b) (sym (read_column (y - 5 * s) ∙ cond-false _ _ _ (is_other from))))
      (cases_lt y (5 * s))
    where
      is_other : 5 * s ≤ y → (nat_eq k x && nat_lt (y - 5 * s) 5) ≡ false
      is_other from = ⊎_elim
          (λ ne. and_left (nat_eq k x) (nat_lt (y - 5 * s) 5) (ne_eqb k x (λ e. ne (sym e))))
          (λ ne. and_right (nat_eq k x) _ (le-ltb (y - 5 * s) 5 (let h : y / 5 ≢ s = ne in omega arith)))
          other

  -- it isn't a column of the box
  pub column_outside : (columns : List ℕ) → x < 40 → y < 40 → (8 ≤ s) ⊎ (40 ≤ k)
      → awaited_cell columns s (k + 1) false text x y ≡ awaited_cell columns s k false (c ∷ text) x y
  column_outside columns in_row in_column far =
      ap (λ b. is_live columns x y || b)
      (left_elsewhere (⊎_elim (λ h. inr (λ e. omega arith)) (λ h. inl (λ e. omega arith)) far))

  -- it is a column of the box, and kept
  pub column_kept : (columns : List ℕ) → length columns ≡ 320 → AreBlank columns s k → x < 40
      → y < 40 → s < 8 → k < 40 → awaited_cell (set columns (40 * s + k) (value_of c)) s (k + 1) false text x y
      ≡ awaited_cell columns s k false (c ∷ text) x y
  column_kept columns long blank in_row in_column low near =
      ⊎_elim (λ ex. ⊎_elim (λ es. here ex es) (λ ns. elsewhere (inr ns)) (cases_eq (y / 5) s))
      (λ nx. elsewhere (inl nx)) (cases_eq x k)
    where
      elsewhere : (x ≢ k) ⊎ (y / 5 ≢ s) → awaited_cell (set columns (40 * s + k) (value_of c)) s (k + 1) false text x y
          ≡ awaited_cell columns s k false (c ∷ text) x y
      elsewhere other =
          ap (λ n. has_bit (y % 5) n || (nat_le (5 * s) y && spells_cell (k + 1) false text x (y - 5 * s)))
          (get_or-set_other columns (40 * s + k) (40 * (y / 5) + x) (value_of c) 0
          (λ e. ⊎_elim (λ ne. ne (omega arith)) (λ ne. ne (omega arith)) other))
          ∙ ap (λ b. is_live columns x y || b) (left_elsewhere other)

      at : x ≡ k → y / 5 ≡ s → 40 * (y / 5) + x ≡ 40 * s + k
      at ex es = omega arith

      within : y / 5 ≡ s → (5 * s ≤ y) × (y - 5 * s ≡ y % 5)
      within es = (omega arith, omega arith)

      here : x ≡ k → y / 5 ≡ s → awaited_cell (set columns (40 * s + k) (value_of c)) s (k + 1) false text x y
          ≡ awaited_cell columns s k false (c ∷ text) x y
      here ex es =
          let inside = within es in
          ap (λ n. has_bit (y % 5) n || (nat_le (5 * s) y && spells_cell (k + 1) false text x (y - 5 * s)))
          (ap (λ i. get_or (set columns (40 * s + k) (value_of c)) i 0) (at ex es)
          ∙ get_or-set_same columns (40 * s + k) (value_of c) 0 (omega arith))
          ∙ ap (λ b. has_bit (y % 5) (value_of c) || b) (and_right (nat_le (5 * s) y) _
          (spells_past text (k + 1) false x (y - 5 * s) (omega arith) (let e = inside.1 in omega arith)))
          ∙ or-false _
          ∙ sym (
          ap (λ n. has_bit (y % 5) n || (nat_le (5 * s) y && spells_cell k false (c ∷ text) x (y - 5 * s)))
          (ap (λ i. get_or columns i 0) (at ex es) ∙ blank k s near low (omega arith) (λ e. omega arith))
          ∙ ap (λ b. b || (nat_le (5 * s) y && spells_cell k false (c ∷ text) x (y - 5 * s))) (bit_zero (y % 5))
          ∙ ap (λ b. b && spells_cell k false (c ∷ text) x (y - 5 * s)) (le-leb (5 * s) y inside.0)
          ∙ read_column (y - 5 * s)
          ∙ cond-true _ _ _ (and_from (nat_eq k x) (nat_lt (y - 5 * s) 5) (eq-eqb k x (sym ex))
          (lt-ltb (y - 5 * s) 5 (let e = inside.1 in omega arith)))
          ∙ ap (λ r. has_bit r (value_of c)) inside.1
          )

-- ---- the start

pub start_blank : AreBlank (replicate 320 0) 0 0
start_blank x t in_row low from after = get_or-replicate 320 (40 * t + x) 0 0 (omega arith)

pub start_cells : (text : List ℕ) (x y : ℕ) → x < 40 → y < 40
    → awaited_cell (replicate 320 0) 0 0 false text x y ≡ spells_cell 0 false text x y
start_cells text x y in_row in_column =
    ap (λ n. has_bit (y % 5) n || (nat_le (5 * 0) y && spells_cell 0 false text x (y - 5 * 0)))
    (get_or-replicate 320 (40 * (y / 5) + x) 0 0 (omega arith))
    ∙ ap (λ b. b || (nat_le (5 * 0) y && spells_cell 0 false text x (y - 5 * 0))) (bit_zero (y % 5))
    ∙ ap (λ b. b && spells_cell 0 false text x (y - 5 * 0)) (le-leb 0 y (omega arith))
    ∙ ap (spells_cell 0 false text x) (let e : y - 5 * 0 ≡ y = omega arith in e)
