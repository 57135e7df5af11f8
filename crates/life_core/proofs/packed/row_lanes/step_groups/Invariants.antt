use Rattle.std.specs.Prelude.{◌*◌}
use Rattle.life_core.specs.PackedRow.{next_place}
use Rattle.life_core.specs.PackedRowState.{AreStepped}
use Rattle.life_core.specs.Rule.{RuleSets}
use Rattle.life_core.proofs.packed.row_lanes.step_groups.Given as goal

abbrev pub invariant-loop-group : goal.invariant-loop-group
invariant-loop-group g l =
    (r : RuleSets) → g.R.Evolves.is_of l.rule r
    → AreStepped (next_place r l.above l.here l.below) 0 (4 * l.group) l.fn.out l.out
