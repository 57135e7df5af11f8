use Rattle.std.proofs.Common.{◌∙◌, ◌∷◌, ◌++◌, ap, sym}
use Rattle.std.proofs.lemmas.List.{append_assoc}
use Rattle.life_rle.specs.RleLines.{lines_after}
use Rattle.life_rle.specs.FileReaderState.{awaited}
use Rattle.life_rle.specs.LineReaderState.{resumed}
use Rattle.life_rle.proofs.LinesLaws.{lines_on, lines_cut}
use Rattle.life_rle.proofs.file_reader.FileReader.take_all.Goals as goal

pub loop-line-preserved : goal.loop-line-preserved
loop-line-preserved g c bytes =
    let old = c.loop-line.self in
    let line = c.in-Some.line.now in
    let after = c.in-Some.after.now in
    c.in_ok-end_line.ensures (after ++ bytes)
    ∙ ap (resumed old.reader) (sym (lines_cut line old.line.items (after ++ bytes) c.in-Some.ensures.0))
    ∙ ap (λ rest. resumed old.reader (lines_after old.line.items rest)) (sym (append_assoc line (10 ∷ after) bytes))
    ∙ ap (λ rest. awaited old (rest ++ bytes)) (sym c.in-Some.ensures.1)
    ∙ c.loop-line.invariant bytes

pub returns : goal.returns
returns g c bytes =
    let old = c.loop-line.self in
    ap (λ line. resumed old.reader (lines_after line bytes)) c.in_ok-extend_from_slice.ensures.items
    ∙ ap (resumed old.reader) (sym (lines_on c.loop-line.rest.now old.line.items bytes c.in_default.ensures))
    ∙ c.loop-line.invariant bytes
