use Rattle.std.proofs.Common.{◌≡◌, ◌≤◌, length, vec_len, vec_capacity}
use Rattle.life_desk.specs.Run.{Answered}
use Rattle.life_desk.proofs.desk.answer_each.Given as goal

abbrev pub invariant-loop-request : goal.invariant-loop-request
invariant-loop-request g l = record {
  can : (goal.iterator-loop-request g).can_next l.request-iterator;
  ends : (goal.iterator-loop-request g).is_finite l.request-iterator;
  answered : Answered g.S.Store l.fn.archive l.archive l.yielded l.replies.items;
  room : length l.fn.requests.items ≤ vec_capacity l.replies;
  count : vec_len l.replies ≡ length l.yielded;
}
