use Rattle.std.proofs.Common.{◌∙◌, List, ap, sym, subst, get_or, take, pos}
use Rattle.std.proofs.lemmas.List.{take_more}
use Rattle.life_core.specs.declared.cell.Cell.{Cell}
use Rattle.life_core.specs.declared.runs.Run.{Run}
use Rattle.life_core.specs.Runs.{runs_cells}
use Rattle.life_core.proofs.RunsLemmas.{push_cells}
use Rattle.life_code.specs.CellMarksState.{Marks}
use Rattle.life_code.proofs.CellMarksLemmas.{no_marks}
use Rattle.life_code.proofs.cell_marks.mark_runs.Goals as goal

abbrev none : Run
none = record { row = pos 0; first = pos 0; len = 0 }

pub loop-run-init : goal.loop-run-init
loop-run-init c = no_marks

pub loop-run-preserved : goal.loop-run-preserved
loop-run-preserved c =
    let runs = c.args.runs.now in
    let i = c.loop-run.run-index in
    subst (λ (cs : List Cell). Marks c.mark_run.new.flags cs) (sym (push_cells (take i runs) (get_or runs i none))
    ∙ ap runs_cells (sym (take_more runs i none c.loop-run-test.true)))
    (c.mark_run.ensures (runs_cells (take i runs)) c.loop-run.invariant)
