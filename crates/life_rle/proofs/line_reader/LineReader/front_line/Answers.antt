use Rattle.std.proofs.Common.{refl}
use Rattle.life_rle.proofs.LineReaderLaws.{front_more}
use Rattle.life_rle.proofs.line_reader.LineReader.front_line.Goals as goal

pub returns-in_ok-line-in_default : goal.returns-in_ok-line-in_default
returns-in_ok-line-in_default g c lines =
    let self = c.args.self.now in
    front_more self (record self { notes = c.line.new.self }) c.args.line.now lines c.requires refl c.line_kind.result
    c.line_kind.ensures c.in_default.not-Header c.in_ok-line-in_default.ensures
