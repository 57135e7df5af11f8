use Rattle.std.proofs.Common.{rules, pos, ℤ, SFits, w64, to_z, of_z, to_z-of_z, subst}
use Rattle.life_core.specs.Cell.{cell_at}
use Rattle.life_census.specs.declared.meeting.Visit.{Visit}
use Rattle.life_census.specs.SteadyState.{visit_of, AreRowsApart}
use Rattle.life_census.proofs.SteadySweep.{sorted_rest, rows_step, met, rows_apart}
use Rattle.life_census.proofs.meeting.are_rows_apart.Goals as goal

abbrev nowhere : Visit
nowhere = visit_of 0 (cell_at (pos 0, pos 0))

pub meets-requires : goal.meets-requires
meets-requires c =
    sorted_rest c.args.visits.now c.first_from-from.result c.first_from-from.ensures.bound c.requires.sorted

pub returns-then-meets : goal.returns-then-meets
returns-then-meets c =
    let w = c.if-meets.ensures in
    met c.args.visits.now c.first_from-from.result c.loop-visit.visit-index nowhere w.0 c.loop-visit-test.true
    c.first_from-from.ensures.bound w.1 w.2

pub loop-visit-preserved : goal.loop-visit-preserved
loop-visit-preserved c =
    let own : ℤ = to_z w64 (of_z w64 c.args.rows) in
    let step = rows_step own c.args.visits.now c.loop-visit.from c.first_from-from.result c.loop-visit.visit-index
    nowhere c.moved.result c.moved-in-loop-visit.result
    c.requires.sorted c.loop-visit-test.true c.first_from-from.ensures.bound
    c.moved.ensures c.moved-in-loop-visit.ensures c.loop-visit.invariant.1 c.loop-visit.invariant.2
    c.first_from-from.ensures.before c.if-meets.ensures in
    (c.first_from-from.ensures.bound, step.0, step.1)

pub returns : goal.returns
returns c =
    let fits : SFits w64 c.args.rows = search rules in
    subst (λ r. AreRowsApart r c.args.visits.now) (to_z-of_z fits) (rows_apart (to_z w64 (of_z w64 c.args.rows))
    c.args.visits.now c.loop-visit.visit-index c.loop-visit-test.false c.loop-visit.invariant.2)
