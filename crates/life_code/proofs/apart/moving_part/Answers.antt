use Rattle.std.proofs.Common.{arith}
use Rattle.life_core.proofs.GenerationsLaws.{within_more}
use Rattle.life_core.proofs.PatternMembers.{list_within}
use Rattle.life_code.proofs.apart.moving_part.Goals as goal

pub from_list-requires : goal.from_list-requires
from_list-requires g c =
    list_within 1000000000 c.args.cells.items (within_more 500000000 1000000000 _ (omega arith) c.requires.room)
