use Rattle.std.proofs.Common.{◌++◌, List, subst}
use Rattle.life_core.specs.declared.cell.Cell.{Cell}
use Rattle.life_core.specs.Runs.{cells_from}
use Rattle.life_code.specs.CellMarksState.{Marks}
use Rattle.life_code.proofs.CellMarksLemmas.{run_more}
use Rattle.life_code.proofs.cell_marks.mark_run.Goals as goal

pub loop-i-preserved : goal.loop-i-preserved
loop-i-preserved c cells marks =
    subst (λ (cs : List Cell). Marks c.mark_cell.new.flags cs)
    (run_more cells c.args.run c.loop-i.i c.cell.result c.cell.ensures)
    (c.mark_cell.ensures (cells ++ cells_from c.args.run.row c.args.run.first c.loop-i.i)
    (c.loop-i.invariant cells marks))
