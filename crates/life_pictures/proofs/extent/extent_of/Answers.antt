use Rattle.std.proofs.Common.{◌∙◌, List, ap, sym, subst, map, arith}
use Rattle.std.specs.List.{All}
use Rattle.life_core.specs.declared.cell.Cell.{Cell}
use Rattle.life_rle.specs.Writer.{coordinates, width_of, height_of, IsQuarterCell}
use Rattle.life_rle.proofs.RunPairs.{quarter_runs}
use Rattle.life_pictures.proofs.ExtentLemmas.{width_bounded, height_bounded}
use Rattle.life_pictures.proofs.extent.extent_of.Goals as goal

pub size_of-width-requires : goal.size_of-width-requires
size_of-width-requires g c =
    quarter_runs c.runs.result.now c.runs.ensures.longest
    (subst (λ (cs : List Cell). All IsQuarterCell cs) (sym c.runs.ensures.cells) c.requires)

pub returns-clause-width : goal.returns-clause-width
returns-clause-width g c =
    c.size_of-width.ensures.width ∙ ap (λ (cs : List Cell). width_of (map coordinates cs)) c.runs.ensures.cells

pub returns-clause-height : goal.returns-clause-height
returns-clause-height g c =
    c.size_of-width.ensures.height ∙ ap (λ (cs : List Cell). height_of (map coordinates cs)) c.runs.ensures.cells

pub returns-clause-within : goal.returns-clause-within
returns-clause-within g c =
    let width = c.size_of-width.ensures.width
    ∙ ap (λ (cs : List Cell). width_of (map coordinates cs)) c.runs.ensures.cells in
    let height = c.size_of-width.ensures.height
    ∙ ap (λ (cs : List Cell). height_of (map coordinates cs)) c.runs.ensures.cells in (
      omega (arith, width, width_bounded c.args.cells.now c.requires),
      omega (arith, height, height_bounded c.args.cells.now c.requires),
    )
