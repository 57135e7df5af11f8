use Rattle.std.proofs.Common.{sym, ap, ◌∙◌}
use Rattle.std.proofs.lemmas.Nat.Bits.{bit_at_ones}
use Rattle.life_core.specs.PackedRow.{one_if}
use Rattle.life_core.proofs.packed.rule_form.mask.Goals as goal

pub returns-then-flag : goal.returns-then-flag
returns-then-flag c i lt = bit_at_ones 64 i lt ∙ ap one_if (sym c.if-flag.true)
