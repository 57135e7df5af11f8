use Rattle.std.proofs.Common.{arith, rules}
use Rattle.std.proofs.lemmas.Grind.{common_steps}
use Rattle.life_desk.proofs.RequestRuns.{answered_none, answered_append}
use Rattle.life_desk.proofs.desk.answer_each.Goals as goal

pub loop-request-init : goal.loop-request-init
loop-request-init g c = record {
  can = tt;
  ends = tt;
  answered = rw c.in-Ok.ensures.items (answered_none _);
  room = search rules;
  count = search rules;
}

pub loop-request-preserved : goal.loop-request-preserved
loop-request-preserved g c = record {
  can = tt;
  ends = tt;
  answered =
      rw c.push_reserved.ensures.items
      (answered_append _ _ _ _ _ _ _ c.loop-request.invariant.answered c.answer.ensures.answered);
  room = omega arith;
  count = grind (arith, common_steps);
}
