use Rattle.std.proofs.Common.{ap, ◌+◌}
use Rattle.life_rle.proofs.WriterLemmas.{run_written}
use Rattle.life_rle.proofs.writer.BodyWriter.run.Goals as goal

pub returns-clause-text : goal.returns-clause-text
returns-clause-text g c cells items =
    let self = c.args.self.now in
    let x = c.start_of-x.result.0 in
    let y = c.start_of-x.result.1 in
    run_written c.gap.new.self.lines self.lines self.row self.column self.live x y _ c.from-self.result
    c.args.run cells items c.requires c.start_of-x.ensures.column c.start_of-x.ensures.row c.from-self.ensures
    (ap (λ n. n + c.from-self.result) c.from.ensures) c.in_ok-gap.ensures
