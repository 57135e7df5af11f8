use Rattle.life_store.proofs.LastingLemmas.{goes_none}
use Rattle.life_desk.proofs.desk.add_counted.Goals as goal

pub returns-in_err-tally-clause-transition : goal.returns-in_err-tally-clause-transition
returns-in_err-tally-clause-transition g c = goes_none _
