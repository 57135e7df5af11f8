use Rattle.std.proofs.Common.{arith, refl, ◌∙◌}
use Rattle.life_pages.proofs.ServingRunning.{served_to_then, served_to_ended, served_to_cut, served_to_none}
use Rattle.life_pages.proofs.serving.serve_held.Goals as goal

pub held-init : goal.held-init
held-init g c = record {
  went = served_to_none _ _ _ _;
  room = omega arith;
  buffers = c.requires.buffers;
  count = refl;
  below = c.requires.below;
}

pub held-preserved : goal.held-preserved
held-preserved g c =
    let s = rw c.in-Ok-Goes.field-0-is at c.in-Ok-Goes.ensures.step in
    let r = c.serve_one.ensures.room in
    record {
      went = served_to_then _ _ _ _ _ _ _ _ _ _ c.held.invariant.went s.0;
      room = omega arith;
      buffers = c.serve_one.ensures.buffers;
      count = c.in-Ok-Goes.ensures.count ∙ c.held.invariant.count;
      below = c.serve_one.ensures.below;
    }

pub held-smaller : goal.held-smaller
held-smaller g c = let s = rw c.in-Ok-Goes.field-0-is at c.in-Ok-Goes.ensures.step in s.1

pub returns-in-Ok-Wants-clause-served : goal.returns-in-Ok-Wants-clause-served
returns-in-Ok-Wants-clause-served g c =
    let s = rw c.in-Ok-Wants.field-0-is at c.in-Ok-Wants.ensures.step in
    (served_to_then _ _ _ _ _ _ _ _ _ _ c.held.invariant.went s.0, s.1)

pub returns-in-Ok-Ends-clause-served : goal.returns-in-Ok-Ends-clause-served
returns-in-Ok-Ends-clause-served g c =
    let s = rw c.in-Ok-Ends.field-0-is at c.in-Ok-Ends.ensures.step in
    served_to_ended _ _ _ _ _ _ _ _ _ c.held.invariant.went s

pub returns-in-Err-clause-served : goal.returns-in-Err-clause-served
returns-in-Err-clause-served g c = served_to_cut _ _ _ _ _ _ _ _ _ c.held.invariant.went c.in-Err.ensures.step
