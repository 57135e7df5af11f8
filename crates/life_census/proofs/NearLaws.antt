-- Near cells.
use Rattle.std.specs.Prelude.{◌≡◌, ℤ, pos, ◌+ℤ◌, ◌-ℤ◌, ◌≤ℤ◌, ◌<ℤ◌, true, int_le}
use Rattle.std.proofs.Common.{sym, subst, T, arith}
use Rattle.std.proofs.lemmas.Int.{ints}
use Rattle.std.proofs.lemmas.Bool.{and_parts, and_from, true_from_ne_false}
use Rattle.life_code.specs.Apart.{within_two}

pub two_apart : (a b : ℤ) → within_two a b ≡ true → (a ≤ℤ (b +ℤ pos 2)) × (b ≤ℤ (a +ℤ pos 2))
two_apart a b h =
    let both = and_parts _ _ h in (record { le = subst T (sym both.0) tt }, record { le = subst T (sym both.1) tt })

pub rows_near : (a b : ℤ) → (a -ℤ pos 2) ≤ℤ b → b <ℤ (a +ℤ pos 3) → within_two a b ≡ true
rows_near a b low high =
    let up : a ≤ℤ (b +ℤ pos 2) = omega (arith, ints) in
    let down : b ≤ℤ (a +ℤ pos 2) = omega (arith, ints) in
    and_from _ _ (le_from up) (le_from down)
  where
    le_from : {a b : ℤ} → a ≤ℤ b → int_le a b ≡ true
    le_from {a} {b} h = true_from_ne_false (int_le a b) (λ e. subst T e h.le)
