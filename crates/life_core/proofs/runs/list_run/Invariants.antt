use Rattle.std.proofs.Common.{◌≡◌, ◌++◌}
use Rattle.life_core.specs.Runs.{cells_from}
use Rattle.life_core.proofs.runs.list_run.Given as goal

abbrev pub invariant-loop-i : goal.invariant-loop-i
invariant-loop-i g l = l.cells.items ≡ l.fn.cells.items ++ cells_from l.fn.run.row l.fn.run.first l.i
