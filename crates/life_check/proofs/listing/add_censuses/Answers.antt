use Rattle.life_check.proofs.WalkLemmas.{calm_then}
use Rattle.life_check.proofs.listing.add_censuses.Goals as goal

pub loop-id-preserved : goal.loop-id-preserved
loop-id-preserved g c = (
  calm_then g.S.Store c.args.store.now c.loop-id.store c.pass_census.new.store c.loop-id.invariant.0
      c.pass_census.ensures.calm,
  c.pass_census.ensures.few,
  λ deposits before. c.pass_census.ensures.wrong deposits (c.loop-id.invariant.2 deposits before),
)

pub returns-clause-wrong : goal.returns-clause-wrong
returns-clause-wrong g c =
    λ deposits before. c.add_rows_left.ensures.wrong deposits (c.loop-id.invariant.2 deposits before)

pub returns-in_err-before-2-clause-wrong : goal.returns-in_err-before-2-clause-wrong
returns-in_err-before-2-clause-wrong g c =
    λ deposits before. c.pass_census.ensures.wrong deposits (c.loop-id.invariant.2 deposits before)
