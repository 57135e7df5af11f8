use Rattle.std.proofs.Common.{◌∷◌, take}
use Rattle.life_pictures.specs.Corners.{HasCorners}
use Rattle.life_pictures.specs.PictureFramesState.{all_cells}
use Rattle.life_pictures.proofs.picture_frames.corners_of_all.Given as goal

abbrev pub invariant-loop-pattern : goal.invariant-loop-pattern
invariant-loop-pattern g l = HasCorners (all_cells (l.start ∷ take l.pattern-index l.later)) l.corners
