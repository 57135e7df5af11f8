use Rattle.std.proofs.Common.{arith}
use Rattle.life_core.proofs.RowLanes.{places_before}
use Rattle.life_core.proofs.packed.row_lanes.group_from_left.Goals as goal

pub returns : goal.returns
returns c p lt =
    places_before c.lanes_at-here.result c.words_before.result c.args.words.now c.args.k 4
    (omega arith) (omega arith) (λ i. (c.type_inv.words i).fits) c.lanes_at-here.ensures c.words_before.ensures p lt
