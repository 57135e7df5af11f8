use Rattle.std.proofs.Common.{lit<, subst, sym, ap, ◌∙◌}
use Rattle.std.specs.FinSet as set
use Rattle.life_core.specs.declared.cell.TheConstants.{PLANE}
use Rattle.life_core.specs.Pattern.{Cells, IsWithin, normal}
use Rattle.life_rle.proofs.RecordCells.{cells_within, set_within}
use Rattle.life_rle.proofs.RecordPairs.{placed_back}
use Rattle.life_rle.proofs.line_reader.normal_of.Goals as goal

pub from_runs-requires : goal.from_runs-requires
from_runs-requires g c = cells_within PLANE (lit< tt) c.args.cells c.requires

pub into_normal-requires : goal.into_normal-requires
into_normal-requires g c =
    subst (λ (X : Cells). IsWithin 500000000 X) (sym c.in_ok-from_runs.ensures)
    (set_within 500000000 (lit< tt) c.args.cells c.requires)

pub returns : goal.returns
returns g c =
    c.into_normal.ensures ∙ ap normal c.in_ok-from_runs.ensures
    ∙ ap (λ cs. normal (set.from_list cs)) (sym (placed_back c.args.cells c.requires))
