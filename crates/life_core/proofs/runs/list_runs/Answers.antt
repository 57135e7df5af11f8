use Rattle.std.proofs.Common.{◌∙◌, ◌++◌, List, ap, sym, append_assoc, append-nil, get_or, take, pos}
use Rattle.std.proofs.lemmas.List.{take_all, take_more}
use Rattle.life_core.specs.declared.cell.Cell.{Cell}
use Rattle.life_core.specs.declared.runs.Run.{Run}
use Rattle.life_core.specs.Runs.{runs_cells, run_cells, GainsBeginning}
use Rattle.std.proofs.lemmas.Result.{MatchResult-from_err}
use Rattle.life_core.proofs.RunsLemmas.{push_cells}
use Rattle.life_core.proofs.RunsLaws.{runs_begun}
use Rattle.life_core.proofs.runs.list_runs.Goals as goal

abbrev none : Run
none = record { row = pos 0; first = pos 0; len = 0 }

pub loop-run-init : goal.loop-run-init
loop-run-init g c = sym (append-nil c.args.cells.now.items)

pub loop-run-preserved : goal.loop-run-preserved
loop-run-preserved g c =
    let rs = c.args.runs.now in
    let i = c.loop-run.run-index in
    c.in_ok-list_run.ensures.cells ∙ ap (λ (cs : List Cell). cs ++ run_cells (get_or rs i none)) c.loop-run.invariant
    ∙ append_assoc c.args.cells.now.items (runs_cells (take i rs)) (run_cells (get_or rs i none))
    ∙ ap (λ (cs : List Cell). c.args.cells.now.items ++ cs)
    (sym (push_cells (take i rs) (get_or rs i none)) ∙ ap runs_cells (sym (take_more rs i none c.loop-run-test.true)))

pub returns-clause-cells : goal.returns-clause-cells
returns-clause-cells g c =
    c.loop-run.invariant ∙ ap (λ (rs : List Run). c.args.cells.now.items ++ runs_cells rs)
    (take_all c.loop-run.run-index c.args.runs.now c.loop-run-test.false)

pub returns-in_err-list_run-clause-begun : goal.returns-in_err-list_run-clause-begun
returns-in_err-list_run-clause-begun g c =
    MatchResult-from_err c.from_residual.result _ _ c.from_residual.ensures.0 (λ e. begun)
  where
    begun : GainsBeginning (runs_cells c.args.runs.now) c.args.cells.now.items c.list_run.new.cells.items
    begun =
        runs_begun c.args.cells.now.items c.loop-run.cells.items _ c.args.runs.now c.loop-run.run-index
        none c.loop-run-test.true c.loop-run.invariant c.in_err-list_run.ensures.begun
