use Rattle.std.specs.Prelude.{◌*◌, ◌/◌, length}
use Rattle.life_core.specs.PackedRow.{next_place}
use Rattle.life_core.specs.PackedRowState.{AreStepped}
use Rattle.life_core.specs.Rule.{RuleSets}
use Rattle.life_core.proofs.packed.row_lanes.step_rest.Given as goal

abbrev pub invariant-loop-j : goal.invariant-loop-j
invariant-loop-j g l =
    (r : RuleSets) → g.R.Evolves.is_of l.rule r
    → AreStepped (next_place r l.above l.here l.below) (4 * (length l.fn.out / 4)) l.j l.fn.out l.out
