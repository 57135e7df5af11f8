use Rattle.std.proofs.Common.{subst}
use Rattle.life_pictures.specs.Corners.{HasCorners}
use Rattle.life_pictures.proofs.CornersLemmas.{first_is, first_of_none}
use Rattle.life_pictures.proofs.corners.first_cell.Goals as goal

pub returns-in-Some : goal.returns-in-Some
returns-in-Some c = λ X has. first_is X _ (subst (HasCorners X) c.in-Some.is has)

pub returns-in-None : goal.returns-in-None
returns-in-None c = λ X has. first_of_none X (subst (HasCorners X) c.in-None.is has)
