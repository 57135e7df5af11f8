use Rattle.life_store.proofs.LastingLemmas.{goes_none}
use Rattle.life_desk.proofs.desk.total.Goals as goal

pub returns-clause-effect : goal.returns-clause-effect
returns-clause-effect g c = λ A healthy m.
    let summed = c.in_ok-counts_of.ensures in
    ((c.in-Ok.field-0, c.in-Ok.ensures.opened.1, summed.value A healthy m), summed.same A healthy m)

pub returns-in-Err-Memory-clause-transition : goal.returns-in-Err-Memory-clause-transition
returns-in-Err-Memory-clause-transition g c = goes_none _

pub returns-in-Err-clause-transition : goal.returns-in-Err-clause-transition
returns-in-Err-clause-transition g c = goes_none _
