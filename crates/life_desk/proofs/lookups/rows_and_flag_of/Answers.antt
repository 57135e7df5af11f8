use Rattle.life_desk.proofs.Representing.{looks_as, numbered_tallied}
use Rattle.life_desk.specs.Represents.{kept_of}
use Rattle.life_desk.proofs.lookups.rows_and_flag_of.Goals as goal

pub returns : goal.returns
returns g c =
    looks_as _ _ _ c.rows_and_flag_of.ensures.transition c.rows_and_flag_of.ensures.healthy
    c.rows_and_flag_of.ensures.same (λ A up held. rw (← numbered_tallied A.deposits A.censuses c.args.id)
    (c.rows_and_flag_of.ensures.value (kept_of A) up held))
