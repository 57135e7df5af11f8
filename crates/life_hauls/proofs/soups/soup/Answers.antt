use Rattle.std.proofs.Common.{sym, subst, arith}
use Rattle.std.proofs.lemmas.Result.{IfOk-weaker}
use Rattle.std.specs.FinSet as set
use Rattle.life_core.specs.declared.cell.TheConstants.{PLANE}
use Rattle.life_core.specs.Pattern.{IsWithin}
use Rattle.life_core.proofs.GenerationsLaws.{within_more}
use Rattle.life_core.proofs.PatternMembers.{within_from_list, list_within}
use Rattle.life_hauls.proofs.SoupLemmas.{soup_is}
use Rattle.life_hauls.proofs.soups.soup.Goals as goal

pub from_list-requires : goal.from_list-requires
from_list-requires g c =
    let cells = c.in_ok-soup_cells.field-0.items in
    list_within PLANE cells (within_more 256 PLANE (set.from_list cells) (omega arith)
    (within_from_list 256 cells c.in_ok-soup_cells.ensures.inside))

pub returns-clause-cells : goal.returns-clause-cells
returns-clause-cells g c =
    IfOk-weaker c.from_list.result _ _
    (λ X is. soup_is c.args.symmetry c.args.root.now c.args.number c.digest_of-digest.result
    c.in_ok-soup_cells.field-0.items X c.digest_of-digest.ensures c.in_ok-soup_cells.ensures.cells is)
    c.from_list.ensures

pub returns-clause-inside : goal.returns-clause-inside
returns-clause-inside g c =
    IfOk-weaker c.from_list.result _ (IsWithin 256) (λ X is. subst (IsWithin 256) (sym is)
    (within_from_list 256 c.in_ok-soup_cells.field-0.items c.in_ok-soup_cells.ensures.inside)) c.from_list.ensures
