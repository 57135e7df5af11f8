use Rattle.std.proofs.Common.{arith}
use Rattle.life_core.proofs.GenerationsLaws.{within_more}
use Rattle.life_hauls.proofs.haul_jobs.soup_file.Goals as goal

pub into_plain-requires : goal.into_plain-requires
into_plain-requires c = within_more 256 500000000 _ (omega arith) c.in_ok-cells.ensures.inside
