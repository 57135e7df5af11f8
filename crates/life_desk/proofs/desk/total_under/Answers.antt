use Rattle.life_store.proofs.LastingLemmas.{goes_none}
use Rattle.life_desk.proofs.desk.total_under.Goals as goal

pub returns-in-Err-clause-transition : goal.returns-in-Err-clause-transition
returns-in-Err-clause-transition g c = goes_none _
