use Rattle.std.proofs.Common.{◌≡◌, ◌++◌, ap, sym, ◌∙◌, arith}
use Rattle.life_core.specs.Pattern.{in_order}
use Rattle.life_rle.specs.Record.{Contents}
use Rattle.life_rle.proofs.RecordPairs.{quarter_cells}
use Rattle.life_pictures.specs.PictureLines.{line}
use Rattle.life_pictures.proofs.PictureLinesLemmas.{flat_map_range, text_of}
use Rattle.life_pictures.proofs.picture_lines.text.Goals as goal

pub extent_of-extent-requires : goal.extent_of-extent-requires
extent_of-extent-requires g c =
    quarter_cells c.record.inside.cells c.cells.result.now c.record.invariant.cells c.cells.ensures.cells
    c.cells.ensures.inside

pub loop-i-preserved : goal.loop-i-preserved
loop-i-preserved g c =
    let before = c.loop-i.out.items in
    let width = c.extent_of-extent.result.width in
    c.in_ok-put_line.ensures
    ∙ ap (λ (r : Contents). before ++ line r.cells width c.loop-i.i) c.record.view_is
    ∙ ap (λ out. out ++ line c.args.record.now.cells width c.loop-i.i) c.loop-i.invariant
    ∙ sym (flat_map_range (line c.args.record.now.cells width) c.loop-i.i)

pub returns : goal.returns
returns g c =
    let all : c.loop-i.i ≡ c.div_ceil-i-end.result = omega (arith, c.loop-i-test.false, c.loop-i.auto.i-end) in
    text_of c.args.record.now.cells c.cells.result.now c.extent_of-extent.result.width c.extent_of-extent.result.height
    c.loop-i.i c.loop-i.out.items
    c.loop-i.invariant (all ∙ c.div_ceil-i-end.ensures) c.extent_of-extent.ensures.width
    c.extent_of-extent.ensures.height
    (c.cells.ensures.cells ∙ ap (λ (r : Contents). in_order r.cells) c.record.view_is)
