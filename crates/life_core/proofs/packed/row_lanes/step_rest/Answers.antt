use Rattle.std.proofs.Common.{◌*◌, ◌/◌, length, arith}
use Rattle.life_core.specs.PackedRow.{next_place}
use Rattle.life_core.proofs.WordStretches.{stepped_more}
use Rattle.life_core.proofs.packed.row_lanes.step_rest.Goals as goal

pub loop-j-preserved : goal.loop-j-preserved
loop-j-preserved g c r is =
    stepped_more (next_place r c.args.above.now c.args.here.now c.args.below.now) (4 * (length c.args.out.now / 4))
    c.loop-j.j 1 c.args.out.now c.loop-j.out c.step_word.new.out (omega arith) (c.loop-j.invariant r is)
    c.step_word.ensures.long c.step_word.ensures.rest (λ p lt. c.step_word.ensures.next r p is lt)
