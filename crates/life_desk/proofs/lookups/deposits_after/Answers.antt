use Rattle.life_desk.proofs.Representing.{looks_as}
use Rattle.life_desk.specs.Represents.{kept_of}
use Rattle.life_desk.proofs.lookups.deposits_after.Goals as goal

pub returns : goal.returns
returns g c =
    looks_as _ _ _ c.deposits_after.ensures.transition c.deposits_after.ensures.healthy c.deposits_after.ensures.same
    (λ A up held. c.deposits_after.ensures.value (kept_of A) up held)
