use Rattle.std.proofs.Common.{◌≤◌, length}
use Rattle.life_census.proofs.SteadySweep.{AreBehind, AreRowsApartBefore}
use Rattle.life_census.proofs.meeting.are_rows_apart.Given as goal

abbrev pub invariant-loop-visit : goal.invariant-loop-visit
invariant-loop-visit l =
    (l.from ≤ length l.visits) × AreBehind l.rows l.visits l.from l.visit-index
    × AreRowsApartBefore l.rows l.visits l.visit-index
