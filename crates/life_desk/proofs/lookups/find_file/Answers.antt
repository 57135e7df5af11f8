use Rattle.life_desk.proofs.Representing.{looks_as}
use Rattle.life_desk.specs.Represents.{kept_of}
use Rattle.life_desk.proofs.lookups.find_file.Goals as goal

pub returns : goal.returns
returns g c =
    looks_as _ _ _ c.find_file.ensures.transition c.find_file.ensures.healthy c.find_file.ensures.same
    (λ A up held. rw (c.as_bytes.ensures, c.as_bytes-2.ensures) at (c.find_file.ensures.value (kept_of A) up held))
