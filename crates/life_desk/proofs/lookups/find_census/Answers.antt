use Rattle.std.proofs.Common.{◌≡◌, IfOk, subst}
use Rattle.life_store.specs.Kept.{census_by}
use Rattle.life_desk.proofs.Representing.{looks_as, censuses_back}
use Rattle.life_desk.specs.Represents.{kept_of}
use Rattle.life_desk.proofs.lookups.find_census.Goals as goal

pub returns : goal.returns
returns g c =
    looks_as _ _ _ c.find_census.ensures.transition c.find_census.ensures.healthy c.find_census.ensures.same
    (λ A up held. subst (λ cs. IfOk c.find_census.result
    (λ o. o ≡ census_by c.args.census.now.member c.args.census.now.token cs)) (censuses_back A.deposits A.censuses)
    (rw (c.as_bytes.ensures, c.as_bytes-2.ensures) at (c.find_census.ensures.value (kept_of A) up held)))
