use Rattle.std.proofs.Common.{false, arith}
use Rattle.std.proofs.lemmas.List.{ext_get_or}
use Rattle.life_core.proofs.rule.are_same.Goals as goal

pub returns : goal.returns
returns c = (
  λ t. ext_get_or false c.args.left.now c.args.right.now (omega arith)
      (λ k inside. c.loop-count.invariant.all t k (omega (arith, inside, c.loop-count-test.false))),
  c.loop-count.invariant.kept,
)
