use Rattle.life_desk.proofs.Representing.{looks_as, numbered_tallied}
use Rattle.life_desk.specs.Represents.{kept_of}
use Rattle.life_desk.proofs.lookups.census_of.Goals as goal

pub returns : goal.returns
returns g c =
    looks_as _ _ _ c.census_of.ensures.transition c.census_of.ensures.healthy c.census_of.ensures.same (λ A up held.
    rw (← numbered_tallied A.deposits A.censuses c.args.id) (c.census_of.ensures.value (kept_of A) up held))
