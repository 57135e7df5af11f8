-- The cells that a text spells byte by byte, and the cells of a strip's text.
use Rattle.std.proofs.Common.{◌≡◌, ℕ, zero, suc, ◌+◌, ◌-◌, ◌/◌, ◌%◌, ◌^◌, ◌<◌, ◌≤◌, Bool, false, cond, ◌&&◌, List, []}
use Rattle.std.proofs.Common.{◌∷◌, ◌++◌, length, get_or, refl, sym, ap, ◌∙◌, subst, arith, ◌⊎◌, inl, inr, ⊎_elim}
use Rattle.std.proofs.Common.{append_assoc, add-zero}
use Rattle.std.specs.Prelude.{nat_eq, nat_lt}
use Rattle.std.specs.List.{AllByRecursion}
use Rattle.std.proofs.lemmas.Bool.{le-ltb, lt-ltb, ne_eqb, eq-eqb, cond-true, cond-false, cases_lt, cases_eq, and_left}
use Rattle.std.proofs.lemmas.Bool.{and_right, and_from}
use Rattle.std.proofs.lemmas.Bool.Decides.{nat_tests}
use Rattle.life_code.specs.DecodeState.{has_bit, spells_cell}
use Rattle.life_code.specs.Wechsler.{value_of}
use Rattle.life_code.specs.Wechsler.{character, zero_run, spelled}

pub read_end : (k x y : ℕ) → spells_cell k false [] x y ≡ false
unfolding spells_cell
read_end k x y = refl

pub read_strip_end : (k : ℕ) (text : List ℕ) (x y : ℕ)
    → spells_cell k false (122 ∷ text) x y ≡ cond (nat_lt y 5) false (spells_cell 0 false text x (y - 5))
unfolding spells_cell
read_strip_end k text x y = refl

read_0 : (k : ℕ) (text : List ℕ) (x y : ℕ) → spells_cell k false (48 ∷ text) x y ≡ spells_cell (k + 1) false text x y
unfolding spells_cell
read_0 k text x y = refl

read_w : (k : ℕ) (text : List ℕ) (x y : ℕ) → spells_cell k false (119 ∷ text) x y ≡ spells_cell (k + 2) false text x y
unfolding spells_cell
read_w k text x y = refl

read_x : (k : ℕ) (text : List ℕ) (x y : ℕ) → spells_cell k false (120 ∷ text) x y ≡ spells_cell (k + 3) false text x y
unfolding spells_cell
read_x k text x y = refl

read_y : (k c : ℕ) (text : List ℕ) (x y : ℕ)
    → spells_cell k false (121 ∷ c ∷ text) x y ≡ spells_cell (k + 4 + value_of c) false text x y
unfolding spells_cell
read_y k c text x y = refl

pub value-char : (n : ℕ) → n < 36 → value_of (character n) ≡ n
value-char n h = grind (arith, nat_tests)

-- the character of a column that is not zero
char_range : (v : ℕ) → 1 ≤ v → v < 32
    → ((49 ≤ character v) × (character v ≤ 57)) ⊎ ((97 ≤ character v) × (character v ≤ 118))
char_range v from below = ⊎_elim
    (λ h. inl (let e : character v ≡ 48 + v = cond-true (nat_lt v 10) (48 + v) (87 + v) (lt-ltb v 10 h) in
    (omega arith, omega arith)))
    (λ h. inr (let e : character v ≡ 87 + v = cond-false (nat_lt v 10) (48 + v) (87 + v) (le-ltb v 10 h) in
    (omega arith, omega arith)))
    (cases_lt v 10)

pub not_char : (v d : ℕ) → 1 ≤ v → v < 32 → (d ≡ 48) ⊎ (119 ≤ d) → nat_eq (character v) d ≡ false
not_char v d from below which =
    ne_eqb (character v) d (λ e. ⊎_elim (λ r. ⊎_elim (λ q. omega arith) (λ q. omega arith) which)
    (λ r. ⊎_elim (λ q. omega arith) (λ q. omega arith) which) (char_range v from below))

read_column : (k v : ℕ) (text : List ℕ) (x y : ℕ) → 1 ≤ v → v < 32 → spells_cell k false (character v ∷ text) x y
    ≡ cond (nat_eq k x && nat_lt y 5) (has_bit y v) (spells_cell (k + 1) false text x y)
unfolding spells_cell
read_column k v text x y from below =
    cond-false _ _ _ (not_char v 122 from below (inr (omega arith)))
    ∙ cond-false _ _ _ (not_char v 48 from below (inl refl))
    ∙ cond-false _ _ _ (not_char v 119 from below (inr (omega arith)))
    ∙ cond-false _ _ _ (not_char v 120 from below (inr (omega arith)))
    ∙ cond-false _ _ _ (not_char v 121 from below (inr (omega arith)))
    ∙ ap (λ u. cond (nat_eq k x && nat_lt y 5) (has_bit y u) (spells_cell (k + 1) false text x y))
    (value-char v (omega arith))

pub bit_zero : (y : ℕ) → has_bit y 0 ≡ false
bit_zero y = ap (λ n. nat_eq (n % 2) 1) (zero_over (2 ^ y))
  where
    zero_over : (n : ℕ) → 0 / n ≡ 0
    zero_over n = grind arith

pub zero_run_long : (n : ℕ) → 4 ≤ n → zero_run n ≡ 121 ∷ character (n - 4) ∷ []
zero_run_long n h =
    cond-false (nat_eq n 0) _ _ (ne_eqb n 0 (λ e. omega arith))
    ∙ cond-false (nat_eq n 1) _ _ (ne_eqb n 1 (λ e. omega arith))
    ∙ cond-false (nat_eq n 2) _ _ (ne_eqb n 2 (λ e. omega arith))
    ∙ cond-false (nat_eq n 3) _ _ (ne_eqb n 3 (λ e. omega arith))

read_zero_run : (n k : ℕ) (text : List ℕ) (x y : ℕ) → n < 40
    → spells_cell k false (zero_run n ++ text) x y ≡ spells_cell (k + n) false text x y
read_zero_run n k text x y h =
    ⊎_elim (λ e. at 0 e (ap (λ m. spells_cell m false text x y) (sym (add-zero k)))) (λ n0.
    ⊎_elim (λ e. at 1 e (read_0 k text x y)) (λ n1.
    ⊎_elim (λ e. at 2 e (read_w k text x y)) (λ n2.
    ⊎_elim (λ e. at 3 e (read_x k text x y)) (λ n3. long (omega arith))
    (cases_eq n 3)) (cases_eq n 2)) (cases_eq n 1)) (cases_eq n 0)
  where
    at : (m : ℕ) → n ≡ m → spells_cell k false (zero_run m ++ text) x y ≡ spells_cell (k + m) false text x y
        → spells_cell k false (zero_run n ++ text) x y ≡ spells_cell (k + n) false text x y
    at m e here =
        subst (λ m. spells_cell k false (zero_run m ++ text) x y ≡ spells_cell (k + m) false text x y) (sym e) here

    long : 4 ≤ n → spells_cell k false (zero_run n ++ text) x y ≡ spells_cell (k + n) false text x y
    long from =
        ap (λ s. spells_cell k false (s ++ text) x y) (zero_run_long n from)
        ∙ read_y k (character (n - 4)) text x y
        ∙ ap (λ m. spells_cell m false text x y)
        (let e : value_of (character (n - 4)) ≡ n - 4 = value-char (n - 4) (omega arith) in omega arith)

abbrev pub AllColumns : List ℕ → Type 0
AllColumns columns = AllByRecursion (λ v. v < 32) columns

-- a strip's text leads on to what stands after it
pub read_spelled_other : (columns : List ℕ) (n k : ℕ) (text : List ℕ) (x y : ℕ) (r : Bool)
    → AllColumns columns → n + length columns ≤ 40 → 5 ≤ y → ((m : ℕ) → spells_cell m false text x y ≡ r)
    → spells_cell k false (spelled n columns ++ text) x y ≡ r
unfolding spelled
read_spelled_other [] n k text x y r all short from rest = rest k
read_spelled_other (v ∷ columns) n k text x y r all short from rest =
    ⊎_elim
    (λ e. ap (λ s. spells_cell k false (s ++ text) x y) (cond-true (nat_eq v 0) _ _ (eq-eqb v 0 e))
    ∙ read_spelled_other columns (n + 1) k text x y r all.1 (omega arith) from rest)
    (λ ne.
    ap (λ s. spells_cell k false (s ++ text) x y) (cond-false (nat_eq v 0) _ _ (ne_eqb v 0 ne))
    ∙ ap (λ s. spells_cell k false s x y) (append_assoc (zero_run n) (character v ∷ spelled 0 columns) text)
    ∙ read_zero_run n k (character v ∷ (spelled 0 columns ++ text)) x y (omega arith)
    ∙ read_column (k + n) v (spelled 0 columns ++ text) x y (omega arith) all.0
    ∙ cond-false _ _ _ (and_right (nat_eq (k + n) x) (nat_lt y 5) (le-ltb y 5 from))
    ∙ read_spelled_other columns 0 (k + n + 1) text x y r all.1 (omega arith) from rest)
    (cases_eq v 0)

-- a column before those that are spelled is not live
pub read_spelled_before : (columns : List ℕ) (n k : ℕ) (text : List ℕ) (x y : ℕ) → AllColumns columns
    → n + length columns ≤ 40 → y < 5 → x < k + n → ((m : ℕ) → spells_cell m false text x y ≡ false)
    → spells_cell k false (spelled n columns ++ text) x y ≡ false
unfolding spelled
read_spelled_before [] n k text x y all short below before rest = rest k
read_spelled_before (v ∷ columns) n k text x y all short below before rest =
    ⊎_elim
    (λ e. ap (λ s. spells_cell k false (s ++ text) x y) (cond-true (nat_eq v 0) _ _ (eq-eqb v 0 e))
    ∙ read_spelled_before columns (n + 1) k text x y all.1 (omega arith) below (omega arith) rest)
    (λ ne.
    ap (λ s. spells_cell k false (s ++ text) x y) (cond-false (nat_eq v 0) _ _ (ne_eqb v 0 ne))
    ∙ ap (λ s. spells_cell k false s x y) (append_assoc (zero_run n) (character v ∷ spelled 0 columns) text)
    ∙ read_zero_run n k (character v ∷ (spelled 0 columns ++ text)) x y (omega arith)
    ∙ read_column (k + n) v (spelled 0 columns ++ text) x y (omega arith) all.0
    ∙ cond-false _ _ _ (and_left (nat_eq (k + n) x) (nat_lt y 5) (ne_eqb (k + n) x (λ e. omega arith)))
    ∙ read_spelled_before columns 0 (k + n + 1) text x y all.1 (omega arith) below (omega arith) rest)
    (cases_eq v 0)

-- a column that is spelled is read
pub read_spelled : (columns : List ℕ) (n k : ℕ) (text : List ℕ) (x y m : ℕ) → AllColumns columns
    → n + length columns ≤ 40 → y < 5 → x ≡ k + n + m → ((m : ℕ) → spells_cell m false text x y ≡ false)
    → spells_cell k false (spelled n columns ++ text) x y ≡ has_bit y (get_or columns m 0)
unfolding spelled
read_spelled [] n k text x y m all short below is rest = rest k ∙ sym (bit_zero y)
read_spelled (v ∷ columns) n k text x y zero all short below is rest =
    ⊎_elim
    (λ e.
    ap (λ s. spells_cell k false (s ++ text) x y) (cond-true (nat_eq v 0) _ _ (eq-eqb v 0 e))
    ∙ read_spelled_before columns (n + 1) k text x y all.1 (omega arith) below (omega arith) rest
    ∙ sym (ap (has_bit y) e ∙ bit_zero y))
    (λ ne.
    ap (λ s. spells_cell k false (s ++ text) x y) (cond-false (nat_eq v 0) _ _ (ne_eqb v 0 ne))
    ∙ ap (λ s. spells_cell k false s x y) (append_assoc (zero_run n) (character v ∷ spelled 0 columns) text)
    ∙ read_zero_run n k (character v ∷ (spelled 0 columns ++ text)) x y (omega arith)
    ∙ read_column (k + n) v (spelled 0 columns ++ text) x y (omega arith) all.0
    ∙ cond-true _ _ _ (and_from (nat_eq (k + n) x) (nat_lt y 5) (eq-eqb (k + n) x (omega arith)) (lt-ltb y 5 below)))
    (cases_eq v 0)
read_spelled (v ∷ columns) n k text x y (suc m) all short below is rest =
    ⊎_elim
    (λ e. ap (λ s. spells_cell k false (s ++ text) x y) (cond-true (nat_eq v 0) _ _ (eq-eqb v 0 e))
    ∙ read_spelled columns (n + 1) k text x y m all.1 (omega arith) below (omega arith) rest)
    (λ ne.
    ap (λ s. spells_cell k false (s ++ text) x y) (cond-false (nat_eq v 0) _ _ (ne_eqb v 0 ne))
    ∙ ap (λ s. spells_cell k false s x y) (append_assoc (zero_run n) (character v ∷ spelled 0 columns) text)
    ∙ read_zero_run n k (character v ∷ (spelled 0 columns ++ text)) x y (omega arith)
    ∙ read_column (k + n) v (spelled 0 columns ++ text) x y (omega arith) all.0
    ∙ cond-false _ _ _ (and_left (nat_eq (k + n) x) (nat_lt y 5) (ne_eqb (k + n) x (λ e. omega arith)))
    ∙ read_spelled columns 0 (k + n + 1) text x y m all.1 (omega arith) below (omega arith) rest)
    (cases_eq v 0)
