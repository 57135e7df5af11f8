use Rattle.life_rle.proofs.RecordPairs.{quarter_cells}
use Rattle.life_rle.specs.Record.{Contents}
use Rattle.life_pictures.proofs.DocumentLemmas.{document}
use Rattle.life_pictures.proofs.document.svg.Goals as goal

pub extent_of-extent-requires : goal.extent_of-extent-requires
extent_of-extent-requires g c =
    quarter_cells c.record.inside.cells c.cells-cells.result.now c.record.invariant.cells c.cells-cells.ensures.cells
    c.cells-cells.ensures.inside

pub put_path-requires : goal.put_path-requires
put_path-requires g c =
    quarter_cells c.record.inside.cells c.cells-cells.result.now c.record.invariant.cells c.cells-cells.ensures.cells
    c.cells-cells.ensures.inside

pub returns : goal.returns
returns g c =
    let inside = c.record.inside in
    let r : Contents = record {
      name = inside.name;
      author = inside.author;
      comments = inside.comments;
      rule = inside.rule;
      cells = inside.cells;
    } in
    document r c.args.record.now c.cells-cells.result.now c.extent_of-extent.result.width
    c.extent_of-extent.result.height _ _ _ _ _
    c.new-out.ensures.items c.in_ok-put_front.ensures c.in_ok-extend_from_slice.ensures.items
    c.in_ok-put_path.ensures c.in_ok-extend_from_slice-2.ensures.items
    c.extent_of-extent.ensures.width c.extent_of-extent.ensures.height c.cells-cells.ensures.cells c.record.view_is
