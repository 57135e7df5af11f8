use Rattle.std.proofs.Common.{◌∙◌}
use Rattle.life_rle.proofs.LineReaderLaws.{header_more, header_fault}
use Rattle.life_rle.proofs.line_reader.LineReader.header.Goals as goal

pub returns-in-Ok : goal.returns-in-Ok
returns-in-Ok g c lines =
    header_more c.args.self.now c.new.result c.in-Ok.rule c.args.line.now c.deref.result.now lines
    c.requires.front c.requires.header (c.deref.ensures.value ∙ c.in_ok-text.ensures) c.new.ensures c.in-Ok.ensures

pub returns : goal.returns
returns g c lines =
    header_fault c.args.self.now c.in-Err.fault c.args.line.now c.deref.result.now lines c.requires.front
    c.requires.header (c.deref.ensures.value ∙ c.in_ok-text.ensures) c.in_default.not-Memory c.in-Err.ensures
