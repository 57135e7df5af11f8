use Rattle.std.proofs.Common.{◌≡◌}
use Rattle.life_core.specs.Generations.{generation_of}
use Rattle.life_pictures.specs.PictureFramesState.{generations_after}
use Rattle.life_pictures.proofs.picture_frames.generations_after.Given as goal

abbrev pub invariant-loop-i : goal.invariant-loop-i
invariant-loop-i g l = record {
  later : l.later.items ≡ generations_after l.rule l.start l._i;
  plane : l.plane ≡ generation_of l.rule l.start l._i;
}
