use Rattle.std.proofs.Common.{◌+◌, arith}
use Rattle.life_core.proofs.GenerationsLaws.{within_more}
use Rattle.life_hauls.proofs.hauls.codes_of_soup.Goals as goal

pub codes-requires : goal.codes-requires
codes-requires g c = record {
  room =
      within_more (256 + c.args.question.now.n) 400000000 _ (omega (arith, c.requires))
      (c.in_ok-field.ensures.grown 256 c.in_ok-soup.ensures.inside);
}
