use Rattle.life_store.proofs.LastingLemmas.{goes_none}
use Rattle.life_store.proofs.archive.Archive.counts_of.Goals as goal

pub returns-in_err-text-clause-transition : goal.returns-in_err-text-clause-transition
returns-in_err-text-clause-transition g c = goes_none _
