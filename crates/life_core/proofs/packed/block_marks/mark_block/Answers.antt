use Rattle.std.proofs.Common.{arith}
use Rattle.life_core.proofs.packed.block_marks.mark_block.Goals as goal

pub returns-then-not-any-clause-right : goal.returns-then-not-any-clause-right
returns-then-not-any-clause-right c set = absurd (omega (arith, set, c.any.ensures c.if-not-any.true 127 (omega arith)))
