use Rattle.std.proofs.Common.{◌∙◌, arith, sym, append-nil}
use Rattle.std.proofs.lemmas.Result.{MatchResult-from_err}
use Rattle.life_core.specs.Runs.{run_cells, GainsBeginning}
use Rattle.life_core.proofs.RunsLaws.{list_more, list_begun}
use Rattle.life_core.proofs.runs.list_run.Goals as goal

pub loop-i-init : goal.loop-i-init
loop-i-init g c = sym (append-nil c.args.cells.now.items)

pub loop-i-preserved : goal.loop-i-preserved
loop-i-preserved g c =
    list_more c.args.cells.now.items c.loop-i.cells.items _ c.args.run c.loop-i.i c.cell.result
    c.loop-i.invariant c.cell.ensures c.in_ok-push.ensures.items

pub returns-in_err-push-clause-begun : goal.returns-in_err-push-clause-begun
returns-in_err-push-clause-begun g c =
    MatchResult-from_err c.from_residual.result _ _ c.from_residual.ensures.0 (λ e. begun)
  where
    begun : GainsBeginning (run_cells c.args.run) c.args.cells.now.items c.push.new.self.items
    begun =
        list_begun c.args.cells.now.items _ c.args.run c.loop-i.i (omega (arith, c.loop-i-test.true))
        (c.in_err-push.ensures.items ∙ c.loop-i.invariant)
