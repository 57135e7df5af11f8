use Rattle.life_store.proofs.LastingLemmas.{goes_none}
use Rattle.life_store.proofs.archive.Archive.rows_kept.Goals as goal

pub returns-in_default-clause-transition : goal.returns-in_default-clause-transition
returns-in_default-clause-transition g c = goes_none _
