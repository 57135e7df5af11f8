-- Near cells.
use Rattle.std.specs.Prelude.{◌≡◌, ℤ, pos, ◌+ℤ◌, ◌≤ℤ◌, true, int_le}
use Rattle.std.proofs.Common.{subst, sym, T, arith}
use Rattle.std.proofs.lemmas.Int.{ints}
use Rattle.std.proofs.lemmas.Bool.{and_parts, and_from, true_from_ne_false}
use Rattle.life_core.specs.declared.cell.Cell.{Cell}
use Rattle.life_core.proofs.PatternMembers.{same_answer}
use Rattle.life_code.specs.Apart.{within_two, near}

-- both coordinates differ by at most k
pub record AreWithin (k : ℤ) (c d : Cell) : Type 0 where
  pub rows_up : c.row ≤ℤ (d.row +ℤ k)
  pub rows_down : d.row ≤ℤ (c.row +ℤ k)
  pub columns_up : c.column ≤ℤ (d.column +ℤ k)
  pub columns_down : d.column ≤ℤ (c.column +ℤ k)

-- what the test says
pub near_within : (c d : Cell) → near c d ≡ true → AreWithin (pos 2) c d
unfolding near
near_within c d h =
    let both = and_parts (within_two c.row d.row) (within_two c.column d.column) h in
    let rows = and_parts _ _ both.0 in
    let columns = and_parts _ _ both.1 in
    record {
      rows_up = le_true rows.0;
      rows_down = le_true rows.1;
      columns_up = le_true columns.0;
      columns_down = le_true columns.1;
    }
  where
    le_true : {a b : ℤ} → int_le a b ≡ true → a ≤ℤ b
    le_true h = record { le = subst T (sym h) tt }

pub within_near : (c d : Cell) → AreWithin (pos 2) c d → near c d ≡ true
unfolding near
within_near c d h =
    and_from _ _ (and_from _ _ (le_from h.rows_up) (le_from h.rows_down))
    (and_from _ _ (le_from h.columns_up) (le_from h.columns_down))
  where
    le_from : {a b : ℤ} → a ≤ℤ b → int_le a b ≡ true
    le_from {a} {b} h = true_from_ne_false (int_le a b) (λ e. subst T e h.le)

pub near_symmetric : (c d : Cell) → near c d ≡ near d c
near_symmetric c d = same_answer _ _ (flip c d) (flip d c)
  where
    flip : (c d : Cell) → near c d ≡ true → near d c ≡ true
    flip c d h = let w = near_within c d h in within_near d c (record {
      rows_up = w.rows_down;
      rows_down = w.rows_up;
      columns_up = w.columns_down;
      columns_down = w.columns_up;
    })

pub near_self : (c : Cell) → near c c ≡ true
near_self c = within_near c c (record {
  rows_up = omega (arith, ints);
  rows_down = omega (arith, ints);
  columns_up = omega (arith, ints);
  columns_down = omega (arith, ints);
})
