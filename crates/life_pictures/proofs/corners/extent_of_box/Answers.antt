use Rattle.std.proofs.Common.{subst}
use Rattle.life_pictures.specs.Corners.{HasCorners}
use Rattle.life_pictures.proofs.CornersLemmas.{box_is_extent, no_width, no_height}
use Rattle.life_pictures.proofs.corners.extent_of_box.Goals as goal

pub returns-in-Some-clause-width : goal.returns-in-Some-clause-width
returns-in-Some-clause-width c =
    λ X has.
    (box_is_extent X _ _ _ (subst (HasCorners X) c.in-Some.is has) c.extent.ensures.width c.extent.ensures.height).0

pub returns-in-Some-clause-height : goal.returns-in-Some-clause-height
returns-in-Some-clause-height c =
    λ X has.
    (box_is_extent X _ _ _ (subst (HasCorners X) c.in-Some.is has) c.extent.ensures.width c.extent.ensures.height).1

pub returns-in-None-clause-width : goal.returns-in-None-clause-width
returns-in-None-clause-width c = λ X has. no_width X (subst (HasCorners X) c.in-None.is has)

pub returns-in-None-clause-height : goal.returns-in-None-clause-height
returns-in-None-clause-height c = λ X has. no_height X (subst (HasCorners X) c.in-None.is has)
