use Rattle.std.proofs.Common.{ℕ, Bool, List, ◌++◌, ap, ◌∙◌}
use Rattle.std.specs.Char.{encode_utf8}
use Rattle.life_pictures.specs.PictureLines.{two_cells, half_block}
use Rattle.life_pictures.proofs.PictureLinesLemmas.{one_more}
use Rattle.life_pictures.proofs.picture_lines.put_line.Goals as goal

pub loop-column-preserved : goal.loop-column-preserved
loop-column-preserved g c =
    let shown : Bool × Bool → List ℕ = λ two. encode_utf8 (half_block two) in
    let column = c.loop-column.column in
    c.in_ok-extend_from_slice.ensures.items
    ∙ ap (λ text. c.loop-column.out.items ++ text)
    (c.as_bytes.ensures.value ∙ c.half_block.ensures ∙ ap shown c.two_cells-two.ensures)
    ∙ ap (λ out. out ++ shown (two_cells c.args.pattern.now c.args.i column)) c.loop-column.invariant
    ∙ one_more (two_cells c.args.pattern.now c.args.i) shown c.args.out.now.items column
