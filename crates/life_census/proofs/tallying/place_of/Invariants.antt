use Rattle.life_census.specs.CountingState.{AreBelow}
use Rattle.life_census.proofs.tallying.place_of.Given as goal

abbrev pub invariant-loop-i : goal.invariant-loop-i
invariant-loop-i g l = AreBelow l.rows l.code l.i
