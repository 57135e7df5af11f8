use Rattle.std.proofs.Common.{ap, ◌∙◌, if◌then◌else◌, nat_eq}
use Rattle.std.specs.Int.{bit_at}
use Rattle.std.proofs.lemmas.Nat.Bits.{bit_at_xor, bit_at-lt}
use Rattle.life_core.specs.PackedRuleFormState.{toggled_bit}
use Rattle.life_core.proofs.RuleForms.{toggled_to}
use Rattle.life_core.proofs.packed.rule_form.parts_of_two.Goals as goal

pub returns : goal.returns
returns c i o lt ol =
    let x = c.mask-zero.result in
    let y = c.mask.result in
    ap (toggled_bit (bit_at x i) o) (bit_at_xor x y i)
    ∙ toggled_to (bit_at x i) o (bit_at y i) (bit_at-lt x i) ol (bit_at-lt y i)
    ∙ (λ u. if nat_eq o 1 then c.mask.ensures i lt u else c.mask-zero.ensures i lt u)
