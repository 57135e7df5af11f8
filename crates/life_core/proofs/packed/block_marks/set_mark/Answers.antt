use Rattle.std.proofs.Common.{arith}
use Rattle.life_core.proofs.BlockMarks.{set_is, set_keeps}
use Rattle.life_core.proofs.packed.block_marks.set_mark.Goals as goal

pub returns-clause-kept : goal.returns-clause-kept
returns-clause-kept c = set_keeps c.args.marks.now c.args.j (omega (arith, c.requires))

pub returns-clause-set : goal.returns-clause-set
returns-clause-set c = set_is c.args.marks.now c.args.j (omega (arith, c.requires))
