use Rattle.std.proofs.Common.{◌≡◌, ◌++◌, List, map, pos, ap, sym, subst, ◌∙◌}
use Rattle.std.specs.List.{All, flat_map}
use Rattle.std.proofs.lemmas.List.{take_all}
use Rattle.life_core.specs.declared.cell.Cell.{Cell}
use Rattle.life_core.specs.declared.runs.Run.{Run as CellRun}
use Rattle.life_core.specs.Runs.{runs_cells, AreLongest}
use Rattle.life_rle.specs.Writer.{coordinates, IsQuarterCell, IsQuarterRun}
use Rattle.life_rle.proofs.RunPairs.{quarter_runs}
use Rattle.life_pictures.specs.PictureRuns.{run_path, runs_of}
use Rattle.life_pictures.specs.PictureRunsState.{drawn}
use Rattle.life_pictures.proofs.PictureRunsLemmas.{runs_are_drawn, one_more_run}
use Rattle.life_pictures.proofs.picture_runs.put_path.Goals as goal

abbrev none : CellRun
none = record { row = pos 0; first = pos 0; len = 0 }

-- the runs of cells of a quarter of the plane
quarters : (cells : List Cell) (rs : List CellRun) → All IsQuarterCell cells → runs_cells rs ≡ cells
    → AreLongest rs → All IsQuarterRun rs
quarters cells rs all same longest =
    quarter_runs rs longest (subst (λ (cs : List Cell). All IsQuarterCell cs) (sym same) all)

pub of-requires : goal.of-requires
of-requires g c =
    let rs = c.runs-run-items.result.now in
    quarters c.args.cells.now rs c.requires c.runs-run-items.ensures.cells c.runs-run-items.ensures.longest
    c.loop-run.run-index none c.loop-run-test.true

pub loop-run-preserved : goal.loop-run-preserved
loop-run-preserved g c =
    let rs = c.runs-run-items.result.now in
    one_more_run rs c.loop-run.run-index none c.args.out.now.items c.loop-run.out.items _ c.loop-run-test.true
    c.loop-run.invariant
    (c.in_ok-put_rectangle.ensures ∙ ap (λ r. c.loop-run.out.items ++ run_path r) c.of.ensures)

pub returns : goal.returns
returns g c =
    let rs = c.runs-run-items.result.now in
    let out = c.args.out.now.items in
    c.loop-run.invariant ∙ ap (λ (qs : List CellRun). out ++ flat_map run_path (map drawn qs))
    (take_all c.loop-run.run-index rs c.loop-run-test.false)
    ∙ ap (λ qs. out ++ flat_map run_path qs) (sym (runs_are_drawn rs c.runs-run-items.ensures.longest
    (quarters c.args.cells.now rs c.requires c.runs-run-items.ensures.cells c.runs-run-items.ensures.longest)))
    ∙ ap (λ (cs : List Cell). out ++ flat_map run_path (runs_of (map coordinates cs))) c.runs-run-items.ensures.cells
