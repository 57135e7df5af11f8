use Rattle.std.proofs.Common.{arith}
use Rattle.life_pictures.proofs.PictureFramesLemmas.{next_one, roomy, in_plane, one_more_after}
use Rattle.life_pictures.proofs.picture_frames.generations_after.Goals as goal

pub step-requires : goal.step-requires
step-requires g c =
    in_plane c.loop-i.plane (roomy c.args.rule.now c.args.start.now c.loop-i.plane c.loop-i._i c.loop-i.invariant.plane
    (omega (arith, c.loop-i-test.true, c.requires.0)) c.requires.1)

pub loop-i-preserved : goal.loop-i-preserved
loop-i-preserved g c =
    let now = next_one c.args.rule.now c.args.start.now c.loop-i.plane c.step.new.self c.loop-i._i
    c.loop-i.invariant.plane c.in_ok-step.ensures.ok in
    record {
      later =
          one_more_after c.args.rule.now c.args.start.now c.step.new.self c.in_ok-to_pattern.field-0
          c.loop-i._i _ _ c.loop-i.invariant.later now c.in_ok-to_pattern.ensures c.in_ok-push.ensures.items;
      plane = now;
    }
