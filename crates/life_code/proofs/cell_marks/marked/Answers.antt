use Rattle.std.proofs.Common.{◌∙◌}
use Rattle.life_core.specs.Runs.{runs_cells}
use Rattle.life_code.proofs.CellMarksLemmas.{shows}
use Rattle.life_code.proofs.cell_marks.marked.Goals as goal

pub returns : goal.returns
returns g c =
    shows c.mark_runs.result (runs_cells c.runs.result.now) c.args.pattern.now
    (c.runs.ensures.cells ∙ c.cells.ensures.cells) c.mark_runs.ensures
