use Rattle.std.proofs.Common.{[], ◌∷◌, ◌∙◌, sym, ap}
use Rattle.life_rle.specs.RleLines.{lines_after}
use Rattle.life_rle.specs.LineReaderState.{resumed}
use Rattle.life_rle.proofs.file_reader.FileReader.finish.Goals as goal

pub finish-requires : goal.finish-requires
unfolding lines_after
finish-requires g c r read =
    c.requires [] r (ap (λ line. resumed c.args.self.reader (line ∷ [])) (sym c.deref.ensures.value)
    ∙ sym (c.in_ok-line.ensures []) ∙ read)
