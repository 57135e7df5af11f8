use Rattle.std.proofs.Common.{subst}
use Rattle.life_pictures.specs.Corners.{HasCorners}
use Rattle.life_pictures.proofs.CornersLemmas.{corners_together, corners_left, corners_right}
use Rattle.life_pictures.proofs.corners.corners_of_both.Goals as goal

pub returns-in-Some-Some : goal.returns-in-Some-Some
returns-in-Some-Some c = λ X Y Z own new both.
    corners_together X Y Z _ _ _ both (subst (HasCorners X) c.in-Some-Some.is-0 own)
    (subst (HasCorners Y) c.in-Some-Some.is-1 new)
    c.joined.ensures.left c.joined.ensures.top c.joined.ensures.right c.joined.ensures.bottom

pub returns-in-Some-None : goal.returns-in-Some-None
returns-in-Some-None c = λ X Y Z own new both.
    corners_left X Y Z _ both (subst (HasCorners X) c.in-Some-None.is-0 own)
    (subst (HasCorners Y) c.in-Some-None.is-1 new)

pub returns-in-None-default : goal.returns-in-None-default
returns-in-None-default c =
    λ X Y Z own new both. corners_right X Y Z _ both (subst (HasCorners X) c.in-None-default.is-0 own) new
