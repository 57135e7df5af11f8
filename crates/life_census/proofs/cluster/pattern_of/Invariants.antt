use Rattle.std.proofs.Common.{◌≡◌, take}
use Rattle.life_core.specs.Runs.{runs_cells}
use Rattle.life_census.proofs.cluster.pattern_of.Given as goal

abbrev pub invariant-loop-run : goal.invariant-loop-run
invariant-loop-run g l = l.cells ≡ runs_cells (take l.run-index l.run-items)
