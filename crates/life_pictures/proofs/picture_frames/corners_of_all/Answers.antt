use Rattle.life_pictures.proofs.PictureFramesLemmas.{begun, with_next}
use Rattle.life_pictures.proofs.picture_frames.corners_of_all.Goals as goal

pub loop-pattern-init : goal.loop-pattern-init
loop-pattern-init g c = begun _ _ c.corners_of-corners.ensures

pub loop-pattern-preserved : goal.loop-pattern-preserved
loop-pattern-preserved g c =
    c.corners_of_both-corners.ensures _ _ _ c.loop-pattern.invariant c.corners_of.ensures
    (with_next c.args.start.now c.pattern-item.result c.args.later.now c.loop-pattern.pattern-index
    c.loop-pattern-test.true c.pattern-item.is)
