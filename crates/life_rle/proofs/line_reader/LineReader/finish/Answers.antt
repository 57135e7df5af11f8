use Rattle.std.proofs.Common.{map}
use Rattle.life_rle.specs.Notes.{notes}
use Rattle.life_rle.specs.File.{contents}
use Rattle.life_rle.specs.Writer.{coordinates}
use Rattle.life_rle.proofs.LineReaderLaws.{body_end, is_record_with, is_inside_with}
use Rattle.life_rle.proofs.line_reader.LineReader.finish.Goals as goal

pub invariant_of-result : goal.invariant_of-result
invariant_of-result g c =
    let self = c.args.self in
    let pairs = map coordinates c.in_ok-finish-in-Body.field-0 in
    is_record_with (notes self.notes) self.rule pairs c.in_ok-cells-in-Body.cells c.in_ok-cells-in-Body.ensures
    (c.requires (contents (notes self.notes) self.rule pairs)
    (body_end self pairs c.in-Body.is c.in_ok-finish-in-Body.ensures.cells))

pub returns-clause-inside : goal.returns-clause-inside
returns-clause-inside g c =
    is_inside_with c.in_ok-finish-in-Body.field-0 c.in_ok-cells-in-Body.cells c.in_ok-cells-in-Body.ensures
    c.in_ok-finish-in-Body.ensures.inside
