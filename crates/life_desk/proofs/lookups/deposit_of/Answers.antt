use Rattle.life_desk.proofs.Representing.{looks_as}
use Rattle.life_desk.specs.Represents.{kept_of}
use Rattle.life_desk.proofs.lookups.deposit_of.Goals as goal

pub returns-clause-looks : goal.returns-clause-looks
returns-clause-looks g c =
    looks_as _ _ _ c.deposit_of.ensures.transition c.deposit_of.ensures.healthy c.deposit_of.ensures.same
    (λ A up held. c.deposit_of.ensures.value (kept_of A) up held)
