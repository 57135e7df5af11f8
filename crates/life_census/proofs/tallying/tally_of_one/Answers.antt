use Rattle.std.proofs.Common.{sym}
use Rattle.life_code.specs.Codes.{code_of}
use Rattle.life_census.proofs.tallying.tally_of_one.Goals as goal

pub returns : goal.returns
returns g c =
    c.in_ok-tally_of_code.ensures (λ P. code_of c.args.search.now.rule P c.args.search.now.limit) c.args.cluster.now
    (sym c.in_ok-code.ensures)
