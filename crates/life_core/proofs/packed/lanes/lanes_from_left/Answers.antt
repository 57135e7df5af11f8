use Rattle.std.proofs.Common.{lit<, arith}
use Rattle.std.proofs.lemmas.Simd.{shifts_fit_splat}
use Rattle.life_core.proofs.LanePlaces.{places_up}
use Rattle.life_core.proofs.packed.lanes.lanes_from_left.Goals as goal

pub overflow_shl-result : goal.overflow_shl-result
overflow_shl-result g c = shifts_fit_splat 64 c.lanes_at.result g.row.N 1 (lit< tt)

pub overflow_shr-result : goal.overflow_shr-result
overflow_shr-result g c = shifts_fit_splat 64 c.lanes_at-2.result g.row.N 63 (lit< tt)

pub returns : goal.returns
returns g c p lt =
    places_up c.lanes_at.result c.lanes_at-2.result c.args.words.now c.args.k g.row.N c.requires.first
    (omega arith) (omega arith) (λ i. (c.type_inv.words i).fits) c.lanes_at.ensures c.lanes_at-2.ensures p lt
