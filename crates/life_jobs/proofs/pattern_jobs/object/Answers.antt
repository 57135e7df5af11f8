use Rattle.std.proofs.Common.{arith}
use Rattle.life_code.proofs.OpenCodeLemmas.{spelled_room}
use Rattle.life_jobs.proofs.pattern_jobs.object.Goals as goal

pub into_plain-requires : goal.into_plain-requires
into_plain-requires c = spelled_room _ _ 500000000 (omega arith) c.in_ok-pattern.ensures.opened.0

pub returns-clause-opened : goal.returns-clause-opened
returns-clause-opened c =
    (c.in_ok-pattern.pattern, c.in_ok-pattern.ensures.opened.0, c.in_ok-pattern.ensures.opened.1, c.into_plain.ensures)
