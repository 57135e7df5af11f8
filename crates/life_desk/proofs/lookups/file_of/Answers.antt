use Rattle.life_desk.proofs.Representing.{looks_as}
use Rattle.life_desk.specs.Represents.{kept_of}
use Rattle.life_desk.proofs.lookups.file_of.Goals as goal

pub returns : goal.returns
returns g c =
    looks_as _ _ _ c.file_of.ensures.transition c.file_of.ensures.healthy c.file_of.ensures.same
    (λ A up held. c.file_of.ensures.value (kept_of A) up held)
