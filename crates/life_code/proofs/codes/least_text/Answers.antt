use Rattle.std.proofs.Common.{◌≡◌, ◌+◌, ◌-◌, None, ap, ◌∙◌, arith}
use Rattle.life_core.specs.Generations.{generation_of}
use Rattle.life_code.specs.CodesState.{kept_least, bytes_of}
use Rattle.life_code.specs.Codes.{candidates}
use Rattle.life_code.proofs.TextLists.{keep_least}
use Rattle.life_code.proofs.CodesSteps.{keep_none, keep_more, phase_after, phase_at_first, phase_within}
use Rattle.life_code.proofs.codes.least_text.Goals as goal
use Rattle.life_code.proofs.codes.least_text.Goals.{then-i-gt0+in_ok-phase-2, else-i-gt0}

pub loop-i-init : goal.loop-i-init
loop-i-init g c = record { phase = c.in_ok-phase.ensures; best = keep_none c.args.rule.now c.args.pattern.now }

pub generation-requires : goal.generation-requires
generation-requires g c = record {
  few = omega arith;
  room =
      phase_within c.args.rule.now c.args.pattern.now _ (c.loop-i.i - 1) _ c.loop-i.invariant.phase c.requires.room
      (omega (arith, c.loop-i-test.true, c.requires.few));
}

pub keep_phase-requires : goal.keep_phase-requires
keep_phase-requires g c =
    let is : c.if-i-gt0.phase ≡ generation_of c.args.rule.now c.args.pattern.now c.loop-i.i = elim c.if-i-gt0.branch [
      | then-i-gt0+in_ok-phase-2 w ↦
          w.phase-is ∙ phase_after c.args.rule.now c.args.pattern.now c.loop-i.phase _ c.loop-i.i
          w.if-i-gt0.true c.loop-i.invariant.phase w.in_ok-phase-2.ensures.value
      | else-i-gt0 w ↦
          w.phase-is ∙ phase_at_first c.args.rule.now c.args.pattern.now c.loop-i.phase c.loop-i.i
          w.if-i-gt0.false c.loop-i.invariant.phase
    ] in
    phase_within c.args.rule.now c.args.pattern.now _ c.loop-i.i _ is c.requires.room
    (omega (arith, c.loop-i-test.true, c.requires.few))

pub loop-i-preserved : goal.loop-i-preserved
loop-i-preserved g c =
    let is : c.if-i-gt0.phase ≡ generation_of c.args.rule.now c.args.pattern.now c.loop-i.i = elim c.if-i-gt0.branch [
      | then-i-gt0+in_ok-phase-2 w ↦
          w.phase-is ∙ phase_after c.args.rule.now c.args.pattern.now c.loop-i.phase _ c.loop-i.i
          w.if-i-gt0.true c.loop-i.invariant.phase w.in_ok-phase-2.ensures.value
      | else-i-gt0 w ↦
          w.phase-is ∙ phase_at_first c.args.rule.now c.args.pattern.now c.loop-i.phase c.loop-i.i
          w.if-i-gt0.false c.loop-i.invariant.phase
    ] in
    record {
      phase =
          is ∙ ap (generation_of c.args.rule.now c.args.pattern.now)
          (let e : c.loop-i.i ≡ c.loop-i.i + 1 - 1 = omega arith in e);
      best =
          keep_more c.args.rule.now c.args.pattern.now c.if-i-gt0.phase c.loop-i.i (bytes_of c.loop-i.best)
          (bytes_of c.keep_phase.new.best) is c.loop-i.invariant.best c.in_ok-keep_phase.ensures;
    }

pub returns : goal.returns
returns g c =
    c.loop-i.invariant.best
    ∙ ap (λ n. kept_least None (candidates c.args.rule.now c.args.pattern.now n))
    (let e : c.loop-i.i ≡ c.args.period = omega (arith, c.loop-i-test.false, c.loop-i.auto.i-end) in e)
    ∙ keep_least _
