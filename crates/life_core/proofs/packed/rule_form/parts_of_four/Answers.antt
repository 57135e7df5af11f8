use Rattle.std.proofs.Common.{◌∙◌, get_or, if◌then◌else◌, nat_eq}
use Rattle.std.specs.Int.{bit_at}
use Rattle.std.proofs.lemmas.Nat.Bits.{bit_at_xor, bit_at-lt}
use Rattle.life_core.specs.PackedRuleFormState.{toggled_bit}
use Rattle.life_core.proofs.RuleForms.{four_bit}
use Rattle.life_core.proofs.packed.rule_form.parts_of_four.Goals as goal

pub returns : goal.returns
returns c i o t lt ol tl =
    let x = get_or c.parts_of_two-low.result 0 0 in
    let y = get_or c.parts_of_two-low.result 1 0 in
    let z = get_or c.parts_of_two-high.result 0 0 in
    let w = get_or c.parts_of_two-high.result 1 0 in
    (λ u. toggled_bit (toggled_bit (bit_at x i) o (bit_at y i)) t
    (toggled_bit (bit_at_xor x z i u) o (bit_at_xor y w i u)))
    ∙ four_bit (bit_at x i) (bit_at y i) (bit_at z i) (bit_at w i) o t (bit_at-lt y i) (bit_at-lt w i) ol tl
    ∙ (λ u. if nat_eq t 1 then c.parts_of_two-high.ensures i o lt ol u else c.parts_of_two-low.ensures i o lt ol u)
