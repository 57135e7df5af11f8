use Rattle.std.proofs.Common.{take}
use Rattle.life_core.specs.Runs.{runs_cells}
use Rattle.life_code.specs.CellMarksState.{Marks}
use Rattle.life_code.proofs.cell_marks.mark_runs.Given as goal

abbrev pub invariant-loop-run : goal.invariant-loop-run
invariant-loop-run l = Marks l.flags (runs_cells (take l.run-index l.runs))
