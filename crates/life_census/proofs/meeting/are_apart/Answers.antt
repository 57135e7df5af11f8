use Rattle.life_census.proofs.SteadySweep.{all_apart, told_apart}
use Rattle.life_census.proofs.meeting.are_apart.Goals as goal

pub returns : goal.returns
returns c =
    told_apart c.are_rows_apart-3.result c.are_rows_apart-3.ensures
    (all_apart c.args.visits.now c.if-not-are_rows_apart.ensures c.if-not-are_rows_apart-2.ensures)
