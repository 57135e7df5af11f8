use Rattle.life_store.proofs.LastingLemmas.{goes_as}
use Rattle.life_desk.proofs.Representing.{holds_of, trees_deposit, deposit_ok, err_still}
use Rattle.life_desk.specs.Represents.{kept_of}
use Rattle.life_desk.proofs.lookups.add_deposit.Goals as goal

pub returns-clause-value : goal.returns-clause-value
returns-clause-value g c = λ A healthy m. c.add_deposit.ensures.value (kept_of A) healthy (holds_of _ A m)

pub returns-clause-ok : goal.returns-clause-ok
returns-clause-ok g c = deposit_ok _ _ c.args.deposit.now _ c.add_deposit.ensures.transition c.add_deposit.ensures.ok

pub returns-clause-err : goal.returns-clause-err
returns-clause-err g c = err_still _ _ _ c.add_deposit.ensures.transition c.add_deposit.ensures.err

pub returns-clause-transition : goal.returns-clause-transition
returns-clause-transition g c =
    goes_as _ _ (λ clean. trees_deposit c.args.archive.now c.args.deposit.now) c.add_deposit.ensures.transition
