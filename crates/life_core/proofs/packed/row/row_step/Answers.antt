use Rattle.life_core.specs.PackedRow.{next_place}
use Rattle.life_core.proofs.RowLanes.{stepped_whole}
use Rattle.life_core.proofs.packed.row.row_step.Goals as goal

pub returns-then-is_life : goal.returns-then-is_life
returns-then-is_life c p lt =
    let r = c.args.rule.now in
    let life = c.is_life.ensures.0 c.if-is_life.true in
    stepped_whole (next_place r c.args.above.now c.args.here.now c.args.below.now) c.args.out.now
    c.step_groups.new.out c.step_rest.new.out (c.step_groups.ensures r life) (c.step_rest.ensures r life) p lt

pub returns-else-is_life : goal.returns-else-is_life
returns-else-is_life c p lt =
    let r = c.args.rule.now in
    let form = c.of-form.ensures in
    stepped_whole (next_place r c.args.above.now c.args.here.now c.args.below.now) c.args.out.now
    c.step_groups-else-is_life.new.out c.step_rest-else-is_life.new.out (c.step_groups-else-is_life.ensures r form)
    (c.step_rest-else-is_life.ensures r form) p lt
