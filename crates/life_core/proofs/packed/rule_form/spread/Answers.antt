use Rattle.std.proofs.Common.{◌/◌, ◌%◌, ap, arith}
use Rattle.std.specs.Int.{bit_at}
use Rattle.std.proofs.lemmas.Simd.{get_or-replicate}
use Rattle.life_core.proofs.packed.rule_form.spread.Goals as goal

pub returns : goal.returns
returns g c p lt = ap (λ w. bit_at w (p % 64)) (get_or-replicate g.row.N (p / 64) c.args.word 0 (omega arith))
