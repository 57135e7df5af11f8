use Rattle.std.proofs.Common.{subst, sym, ◌∙◌}
use Rattle.std.proofs.lemmas.Result.{IfOk-weaker}
use Rattle.std.specs.List.Sorted.{IsStrictlySortedBy}
use Rattle.life_core.specs.declared.cell.TheConstants.{PLANE}
use Rattle.life_core.specs.Cell.{cell_cmp}
use Rattle.life_core.specs.Pattern.{Cells, IsWithin}
use Rattle.life_core.specs.Runs.{AreRunsInOrder}
use Rattle.life_core.proofs.PatternMembers.{within_from_list}
use Rattle.life_core.proofs.PatternOrder.{in_order-sorted, from_list_of}
use Rattle.life_core.proofs.RunsLaws.{runs_in_order}
use Rattle.life_census.specs.Cluster.{AreClustersOf}
use Rattle.life_census.proofs.ClusterSteps.{field_is}
use Rattle.life_census.proofs.cluster.clusters.Goals as goal

pub parted-requires-clause-order : goal.parted-requires-clause-order
parted-requires-clause-order g c =
    let sorted = subst (IsStrictlySortedBy cell_cmp) (sym (c.runs.ensures.cells ∙ c.cells.ensures.cells))
    (in_order-sorted c.args.pattern.now) in
    subst AreRunsInOrder (sym (c.deref_mut.ensures.value ∙ c.in_ok-left.ensures.items))
    (runs_in_order c.runs.result.now c.runs.ensures.longest sorted)

pub parted-requires-clause-inside : goal.parted-requires-clause-inside
parted-requires-clause-inside g c =
    let X = c.args.pattern.now in
    let whole = field_is X c.deref_mut.result.now c.runs.result.now
    (c.deref_mut.ensures.value ∙ c.in_ok-left.ensures.items) (c.runs.ensures.cells ∙ c.cells.ensures.cells) in
    let cells = within_from_list PLANE c.cells.result.now c.cells.ensures.inside in
    subst (λ (Y : Cells). IsWithin PLANE Y) (from_list_of X c.cells.result.now c.cells.ensures.cells ∙ sym whole) cells

pub returns : goal.returns
returns g c =
    let X = c.args.pattern.now in
    let whole = field_is X c.deref_mut.result.now c.runs.result.now
    (c.deref_mut.ensures.value ∙ c.in_ok-left.ensures.items) (c.runs.ensures.cells ∙ c.cells.ensures.cells) in
    IfOk-weaker c.parted.result _ _ (λ v are. subst (λ (Y : Cells). AreClustersOf Y v.items) whole are) c.parted.ensures
