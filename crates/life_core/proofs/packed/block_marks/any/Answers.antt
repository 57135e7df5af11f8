use Rattle.std.specs.Prelude.{IsFalse}
use Rattle.std.proofs.Common.{◌≡◌, ℕ, ◌/◌, ◌%◌, max, not, nat_eq, bit_or, get_or, sym, ap, ◌∙◌, inl, inr, arith}
use Rattle.std.specs.Int.{bit_at}
use Rattle.std.proofs.lemmas.Bool.{cases_lt}
use Rattle.std.proofs.lemmas.Bool.Decides.{nat_tests}
use Rattle.std.proofs.lemmas.Nat.Bits.{bit_at_or, bit_at-zero}
use Rattle.life_core.proofs.packed.block_marks.any.Goals as goal

is_zero : (n : ℕ) → IsFalse (not (nat_eq n 0)) → n ≡ 0
is_zero n h = grind (arith, nat_tests)

pub returns : goal.returns
returns c h p lt =
    let v = get_or c.args.words 0 0 in
    let w = get_or c.args.words 1 0 in
    let i = p % 64 in
    let none : max (bit_at v i) (bit_at w i) ≡ 0 = sym (bit_at_or v w i) ∙ ap (λ n. bit_at n i) (is_zero (bit_or v w) h)
    ∙ bit_at-zero i in
    elim (cases_lt p 64) [
      | inl low ↦
          let at : p / 64 ≡ 0 = omega arith in
          ap (λ j. bit_at (get_or c.args.words j 0) i) at ∙ (let zero : bit_at v i ≡ 0 = omega (arith, none) in zero)
      | inr high ↦
          let at : p / 64 ≡ 1 = omega arith in
          ap (λ j. bit_at (get_or c.args.words j 0) i) at ∙ (let zero : bit_at w i ≡ 0 = omega (arith, none) in zero)
    ]
