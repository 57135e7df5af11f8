use Rattle.std.proofs.Common.{sym, subst}
use Rattle.life_pictures.specs.PictureFramesState.{IsFrame}
use Rattle.life_pictures.proofs.PictureFramesLemmas.{one_more_frame}
use Rattle.life_pictures.proofs.picture_frames.put_frames.Goals as goal

pub put_frame-requires-clause-pattern : goal.put_frame-requires-clause-pattern
put_frame-requires-clause-pattern g c =
    (subst (IsFrame c.args.at) (sym c.pattern-item.is)
    (c.requires.frames c.loop-pattern.pattern-index c.pattern-item.result c.loop-pattern-test.true)).0

pub put_frame-requires-clause-first : goal.put_frame-requires-clause-first
put_frame-requires-clause-first g c =
    (subst (IsFrame c.args.at) (sym c.pattern-item.is)
    (c.requires.frames c.loop-pattern.pattern-index c.pattern-item.result c.loop-pattern-test.true)).1

pub loop-pattern-preserved : goal.loop-pattern-preserved
loop-pattern-preserved g c =
    one_more_frame c.args.at c.pattern-item.result c.args.patterns.now c.loop-pattern.pattern-index
    _ _ _ _ c.loop-pattern-test.true c.pattern-item.is c.loop-pattern.invariant
    c.in_ok-extend_from_slice.ensures.items c.in_ok-put_frame.ensures
