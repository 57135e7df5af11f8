use Rattle.life_desk.proofs.Representing.{looks_as}
use Rattle.life_desk.specs.Represents.{kept_of}
use Rattle.life_desk.proofs.lookups.count_deposits.Goals as goal

pub returns : goal.returns
returns g c =
    looks_as _ _ _ c.count_deposits.ensures.transition c.count_deposits.ensures.healthy c.count_deposits.ensures.same
    (λ A up held. c.count_deposits.ensures.value (kept_of A) up held)
