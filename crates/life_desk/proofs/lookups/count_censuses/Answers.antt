use Rattle.std.proofs.Common.{◌≡◌, subst, IfOk}
use Rattle.life_desk.proofs.Representing.{looks_as, length_tallied}
use Rattle.life_desk.specs.Represents.{kept_of}
use Rattle.life_desk.proofs.lookups.count_censuses.Goals as goal

pub returns : goal.returns
returns g c =
    looks_as _ _ _ c.count_censuses.ensures.transition c.count_censuses.ensures.healthy c.count_censuses.ensures.same
    (λ A up held. subst (λ k. IfOk c.count_censuses.result (λ n. n ≡ k)) (length_tallied A.deposits A.censuses)
    (c.count_censuses.ensures.value (kept_of A) up held))
