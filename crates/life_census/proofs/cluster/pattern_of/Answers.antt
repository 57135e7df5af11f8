use Rattle.std.proofs.Common.{ap, sym, subst, ◌∙◌}
use Rattle.std.proofs.lemmas.List.{take_all}
use Rattle.std.proofs.lemmas.Result.{IfOk-weaker}
use Rattle.std.specs.List.Sorted.{IsPermutation}
use Rattle.life_core.specs.Pattern.{Cells, IsWithin}
use Rattle.life_core.specs.Runs.{runs_cells}
use Rattle.life_core.specs.declared.cell.TheConstants.{PLANE}
use Rattle.life_core.proofs.PatternMembers.{list_within}
use Rattle.life_census.proofs.ClusterSteps.{can_be_put, put_all}
use Rattle.life_census.proofs.cluster.pattern_of.Goals as goal

pub push_run-requires-clause-run : goal.push_run-requires-clause-run
push_run-requires-clause-run g c =
    let sorted = subst (IsPermutation c.args.runs.items)
    (sym c.deref-run-items.ensures.value) c.sort_unstable.ensures.permutation in
    (can_be_put c.args.runs.items c.deref-run-items.result.now sorted c.requires.filled c.requires.inside
    c.loop-run.run-index _ c.loop-run-test.true).run

pub push_run-requires-clause-end : goal.push_run-requires-clause-end
push_run-requires-clause-end g c =
    let sorted = subst (IsPermutation c.args.runs.items)
    (sym c.deref-run-items.ensures.value) c.sort_unstable.ensures.permutation in
    (can_be_put c.args.runs.items c.deref-run-items.result.now sorted c.requires.filled c.requires.inside
    c.loop-run.run-index _ c.loop-run-test.true).end

pub from_runs-requires : goal.from_runs-requires
from_runs-requires g c =
    let sorted = subst (IsPermutation c.args.runs.items)
    (sym c.deref-run-items.ensures.value) c.sort_unstable.ensures.permutation in
    let cells = c.loop-run.invariant
    ∙ ap runs_cells (take_all c.loop-run.run-index c.deref-run-items.result.now c.loop-run-test.false) in
    list_within PLANE c.loop-run.cells (subst (λ (X : Cells). IsWithin PLANE X)
    (sym (put_all c.args.runs.items c.deref-run-items.result.now c.loop-run.cells sorted cells)) c.requires.inside)

pub returns : goal.returns
returns g c =
    let sorted = subst (IsPermutation c.args.runs.items)
    (sym c.deref-run-items.ensures.value) c.sort_unstable.ensures.permutation in
    let cells = c.loop-run.invariant
    ∙ ap runs_cells (take_all c.loop-run.run-index c.deref-run-items.result.now c.loop-run-test.false) in
    IfOk-weaker c.from_runs.result _ _
    (λ X is. is ∙ put_all c.args.runs.items c.deref-run-items.result.now c.loop-run.cells sorted cells)
    c.from_runs.ensures
