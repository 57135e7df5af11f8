use Rattle.std.proofs.Common.{◌≡◌, ◌++◌, take}
use Rattle.life_core.specs.Runs.{runs_cells}
use Rattle.life_core.proofs.runs.list_runs.Given as goal

abbrev pub invariant-loop-run : goal.invariant-loop-run
invariant-loop-run g l = l.cells.items ≡ l.fn.cells.items ++ runs_cells (take l.run-index l.runs)
