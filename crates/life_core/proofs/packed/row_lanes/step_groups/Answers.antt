use Rattle.std.proofs.Common.{◌≡◌, ℕ, ◌+◌, ◌*◌, ◌/◌, length, subst, arith}
use Rattle.life_core.specs.PackedRow.{next_place}
use Rattle.life_core.specs.PackedRowState.{AreStepped}
use Rattle.life_core.proofs.RowLanes.{group_place}
use Rattle.life_core.proofs.WordStretches.{stepped_more}
use Rattle.life_core.proofs.packed.row_lanes.step_groups.Goals as goal

pub loop-group-preserved : goal.loop-group-preserved
loop-group-preserved g c r is =
    let n = c.loop-group.group in
    let above = c.args.above.now in
    let here = c.args.here.now in
    let below = c.args.below.now in
    let N = next_place r above here below in
    let new = c.wide_row-changed.new.out in
    let more : 4 * n + 4 ≡ 4 * (n + 1) = omega arith in
    subst (λ (k : ℕ). AreStepped N 0 k c.args.out.now new) more
    (stepped_more N 0 (4 * n) 4 c.args.out.now c.loop-group.out new (omega arith)
    (c.loop-group.invariant r is) c.wide_row-changed.ensures.long c.wide_row-changed.ensures.rest
    (λ p lt. group_place r above here below new (4 * n) p c.group_sums-sums_above.result c.group_sums-sums_here.result
    c.group_sums-sums_below.result c.group_sums-sums_above.ensures c.group_sums-sums_here.ensures
    c.group_sums-sums_below.ensures lt (c.wide_row-changed.ensures.next r p is lt)))

pub returns : goal.returns
returns g c r is =
    let end : c.loop-group.group ≡ length c.args.out.now / 4 = omega arith in
    subst (λ (k : ℕ). AreStepped (next_place r c.args.above.now c.args.here.now c.args.below.now) 0
    (4 * k) c.args.out.now c.loop-group.out) end (c.loop-group.invariant r is)
