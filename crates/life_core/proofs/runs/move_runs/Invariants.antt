use Rattle.std.proofs.Common.{◌≡◌, ◌++◌, map, take, drop}
use Rattle.life_core.specs.Runs.{moved_run}
use Rattle.life_core.proofs.runs.move_runs.Given as goal

abbrev pub invariant-loop-run : goal.invariant-loop-run
invariant-loop-run l =
    l.runs ≡ map (moved_run l.by.column l.by.row) (take l.run-index l.initial.runs) ++ drop l.run-index l.initial.runs
