use Rattle.std.proofs.Common.{◌∙◌, ℕ, false, get_or, if◌then◌else◌, lit<, nat_eq, ap}
use Rattle.std.specs.Int.{bit_at}
use Rattle.std.proofs.lemmas.Nat.Bits.{bit_at_xor, bit_at-lt}
use Rattle.life_core.specs.PackedRow.{one_if}
use Rattle.life_core.specs.PackedRuleFormState.{toggled_bit}
use Rattle.life_core.proofs.RuleForms.{toggled_to, eight_bit, picked_of_eight}
use Rattle.life_core.proofs.packed.rule_form.parts_of.Goals as goal

pub returns : goal.returns
returns c =
    let x = λ (n : ℕ). get_or c.parts_of_four-low.result n 0 in
    let y = λ (n : ℕ). get_or c.parts_of_four-high.result n 0 in
    let F = λ (n : ℕ). one_if (get_or c.args.flags.now n false) in
    record {
      counts = λ i o t f lt ol tl fl.
          (λ u. toggled_bit
          (toggled_bit (toggled_bit (bit_at (x 0) i) o (bit_at (x 1) i)) t
          (toggled_bit (bit_at (x 2) i) o (bit_at (x 3) i)))
          f
          (toggled_bit (toggled_bit (bit_at_xor (x 0) (y 0) i u) o (bit_at_xor (x 1) (y 1) i u)) t
          (toggled_bit (bit_at_xor (x 2) (y 2) i u) o (bit_at_xor (x 3) (y 3) i u))))
          ∙ eight_bit (bit_at (x 0) i) (bit_at (x 1) i) (bit_at (x 2) i) (bit_at (x 3) i) (bit_at (y 0) i)
          (bit_at (y 1) i) (bit_at (y 2) i) (bit_at (y 3) i) o t f
          (bit_at-lt (x 1) i) (bit_at-lt (x 3) i) (bit_at-lt (y 1) i) (bit_at-lt (y 3) i) ol tl fl
          ∙ (λ u. if nat_eq f 1 then c.parts_of_four-high.ensures i o t lt ol tl u
          else c.parts_of_four-low.ensures i o t lt ol tl u)
          ∙ picked_of_eight F o t f ol tl fl;
      eight = λ i lt.
          ap (toggled_bit (bit_at (x 0) i) 1) (bit_at_xor (x 0) c.mask.result i)
          ∙ toggled_to (bit_at (x 0) i) 1 (bit_at c.mask.result i) (bit_at-lt (x 0) i) (lit< tt)
          (bit_at-lt c.mask.result i)
          ∙ c.mask.ensures i lt;
    }
