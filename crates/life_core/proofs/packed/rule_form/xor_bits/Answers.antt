use Rattle.std.proofs.Common.{arith}
use Rattle.life_core.proofs.LanePlaces.{place_xor}
use Rattle.life_core.proofs.packed.rule_form.xor_bits.Goals as goal

pub returns : goal.returns
returns g c p = place_xor c.args.a c.args.b (omega arith) p
