use Rattle.std.proofs.Common.{[], ◌∷◌, ◌++◌, take, ap, sym, ◌∙◌}
use Rattle.std.proofs.lemmas.List.{take_more, flat_map_more}
use Rattle.std.specs.List.{flat_map}
use Rattle.life_rle.specs.Writer.{comment_line}
use Rattle.life_rle.proofs.writer.comment_lines.Goals as goal

pub loop-text-preserved : goal.loop-text-preserved
loop-text-preserved g c =
    let before = c.args.out.now.items in
    let texts = c.args.texts.now in
    let i = c.loop-text.text-index in
    c.in_ok-comment_line.ensures
    ∙ ap (λ text. c.loop-text.out.items ++ comment_line text) c.as_bytes.ensures
    ∙ ap (λ out. out ++ comment_line c.text-item.result) c.loop-text.invariant
    ∙ flat_map_more comment_line before (take i texts) c.text-item.result
    ∙ ap (λ text. before ++ flat_map comment_line (take i texts ++ text ∷ [])) c.text-item.is
    ∙ ap (λ front. before ++ flat_map comment_line front)
    (sym (take_more texts i c.text-item.result c.loop-text-test.true))
