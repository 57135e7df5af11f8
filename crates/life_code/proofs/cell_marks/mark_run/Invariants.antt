use Rattle.std.proofs.Common.{◌++◌, List}
use Rattle.life_core.specs.declared.cell.Cell.{Cell}
use Rattle.life_core.specs.Runs.{cells_from}
use Rattle.life_code.specs.CellMarksState.{Marks}
use Rattle.life_code.proofs.cell_marks.mark_run.Given as goal

abbrev pub invariant-loop-i : goal.invariant-loop-i
invariant-loop-i l =
    (cells : List Cell) → Marks l.fn.flags cells → Marks l.flags (cells ++ cells_from l.fn.run.row l.fn.run.first l.i)
