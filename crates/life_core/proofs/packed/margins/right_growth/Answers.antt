use Rattle.std.proofs.Common.{arith}
use Rattle.std.proofs.lemmas.Int.{ints}
use Rattle.life_core.proofs.PackedCells.{live_in}
use Rattle.life_core.proofs.packed.margins.right_growth.Goals as goal

pub returns-else-right_is_free-clause-free : goal.returns-else-right_is_free-clause-free
returns-else-right_is_free-clause-free c d live =
    let at = live_in c.args.frame c.args.rows.now c.requires.frame.wide c.requires.rows d live in
    omega (arith, ints, at.to_right)
