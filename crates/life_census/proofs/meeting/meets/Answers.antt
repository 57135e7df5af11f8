use Rattle.std.proofs.Common.{rules, ◌≤◌, pos, length, get_or, sym, arith}
use Rattle.std.proofs.lemmas.List.{take_all}
use Rattle.std.proofs.lemmas.List.Elements.{All-same, All-more}
use Rattle.life_core.specs.Cell.{cell_at}
use Rattle.life_census.specs.declared.meeting.Visit.{Visit}
use Rattle.life_census.specs.SteadyState.{visit_of, ComesBefore, KeepApart}
use Rattle.life_census.proofs.SteadySweep.{none_after, apart_up_to}
use Rattle.life_census.proofs.meeting.meets.Goals as goal
use Rattle.life_census.proofs.meeting.meets.Goals.{else-other-visit-via-then-other-visit+else-is_near}
use Rattle.life_census.proofs.meeting.meets.Goals.{else-other-visit-via-else-other-visit}

abbrev nowhere : Visit
nowhere = visit_of 0 (cell_at (pos 0, pos 0))

pub returns-then-lt : goal.returns-then-lt
returns-then-lt c =
    let after : ComesBefore c.args.last
    (get_or c.args.others.now c.loop-other.other-index nowhere).cell = search rules in
    none_after c.args.visit c.args.last c.args.others.now c.loop-other.other-index nowhere
    c.requires c.loop-other-test.true after c.loop-other.invariant

pub loop-other-preserved : goal.loop-other-preserved
loop-other-preserved c =
    All-more (KeepApart c.args.visit) c.args.others.now c.loop-other.other-index nowhere c.loop-other-test.true
    c.loop-other.invariant (elim c.else-other-visit.branch [
      | else-other-visit-via-then-other-visit+else-is_near w ↦ λ differ. sym w.if-is_near.ensures
      | else-other-visit-via-else-other-visit w ↦ λ differ. absurd (differ (sym w.if-other-visit.false))
    ])

pub returns : goal.returns
returns c =
    let end : length c.args.others.now ≤ c.loop-other.other-index = omega arith in
    apart_up_to c.args.visit c.args.last c.args.others.now (All-same (KeepApart c.args.visit) _ _
    (sym (take_all c.loop-other.other-index c.args.others.now end)) c.loop-other.invariant)
