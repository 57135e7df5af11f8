use Rattle.std.proofs.Common.{◌≡◌, ◌+◌, subst, IfOk}
use Rattle.life_store.proofs.LastingLemmas.{goes_as}
use Rattle.life_desk.proofs.Representing.{holds_of, length_tallied, trees_census, census_ok, err_still}
use Rattle.life_desk.specs.Represents.{kept_of}
use Rattle.life_desk.proofs.lookups.add_census.Goals as goal

pub returns-clause-value : goal.returns-clause-value
returns-clause-value g c =
    λ A healthy m. subst (λ k. IfOk c.add_census.result (λ n. n ≡ k + 1)) (length_tallied A.deposits A.censuses)
    (c.add_census.ensures.value (kept_of A) healthy (holds_of _ A m))

pub returns-clause-ok : goal.returns-clause-ok
returns-clause-ok g c =
    census_ok _ _ c.args.census.now c.args.tally.now c.args.steady _ c.add_census.ensures.transition
    c.add_census.ensures.ok

pub returns-clause-err : goal.returns-clause-err
returns-clause-err g c = err_still _ _ _ c.add_census.ensures.transition c.add_census.ensures.err

pub returns-clause-transition : goal.returns-clause-transition
returns-clause-transition g c =
    goes_as _ _ (λ clean. trees_census c.args.archive.now c.args.census.now c.args.tally.now c.args.steady)
    c.add_census.ensures.transition
