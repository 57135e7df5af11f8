use Rattle.std.proofs.Common.{sym, ap, subst, ◌∙◌}
use Rattle.std.specs.FinSet as set
use Rattle.std.specs.List.Sorted.{IsStrictlySortedBy}
use Rattle.life_core.specs.Cell.{cell_cmp}
use Rattle.life_core.specs.Pattern.{Cells}
use Rattle.life_core.proofs.RunsLaws.{runs_in_order, set_of_runs}
use Rattle.life_core.proofs.pattern.Pattern.contains.Goals as goal

pub find_cell-requires : goal.find_cell-requires
find_cell-requires g c =
    runs_in_order c.runs.result.now c.runs.ensures.longest
    (subst (IsStrictlySortedBy cell_cmp) (sym c.runs.ensures.cells) c.self.invariant.sorted)

pub returns : goal.returns
returns g c =
    c.find_cell.ensures ∙ ap (λ (X : Cells). set.contains X c.args.cell)
    (sym (set_of_runs c.runs.result.now) ∙ ap set.from_list c.runs.ensures.cells ∙ c.self.view_is)
