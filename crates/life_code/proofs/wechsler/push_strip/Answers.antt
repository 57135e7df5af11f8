use Rattle.std.proofs.Common.{arith}
use Rattle.life_code.proofs.WechslerSteps.{step_zero, step_value, at_end}
use Rattle.life_code.proofs.wechsler.push_strip.Goals as goal
use Rattle.life_code.proofs.wechsler.push_strip.Goals.{then-value-eq0, else-value-eq0+in_ok-push_zero_run+in_ok-push}

pub loop-value-preserved : goal.loop-value-preserved
loop-value-preserved g c =
    elim c.if-value-eq0.branch [
      | then-value-eq0 w ↦ record {
        text =
            rw (w.text-is, w.run-is) (step_zero c.loop-value.text.items _ c.args.columns.now c.loop-value.value-index
            c.loop-value.run c.loop-value-test.true w.if-value-eq0.true c.loop-value.invariant.text);
        run = omega arith;
      }
      | else-value-eq0+in_ok-push_zero_run+in_ok-push w ↦ record {
        text =
            rw (w.text-is, w.run-is) (step_value c.loop-value.text.items _ _ _ c.args.columns.now
            c.loop-value.value-index c.loop-value.run _ c.loop-value-test.true w.if-value-eq0.false
            w.in_ok-push_zero_run.ensures w.character.ensures w.in_ok-push.ensures.items c.loop-value.invariant.text);
        run = omega arith;
      }
    ]

pub returns : goal.returns
returns g c =
    at_end c.loop-value.text.items _ c.args.columns.now c.loop-value.value-index c.loop-value.run
    (omega arith) c.loop-value.invariant.text
