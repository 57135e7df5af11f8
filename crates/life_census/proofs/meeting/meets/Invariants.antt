use Rattle.std.proofs.Common.{take}
use Rattle.std.specs.List.{All}
use Rattle.life_census.specs.SteadyState.{KeepApart}
use Rattle.life_census.proofs.meeting.meets.Given as goal

abbrev pub invariant-loop-other : goal.invariant-loop-other
invariant-loop-other l = All (KeepApart l.visit) (take l.other-index l.others)
