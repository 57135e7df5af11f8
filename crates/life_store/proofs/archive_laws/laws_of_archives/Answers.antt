use Rattle.life_store.proofs.BlankLemmas.{blank_lists_nothing}
use Rattle.life_store.proofs.RepresentingLemmas.{one_meaning, first_meaning}
use Rattle.life_store.proofs.archive_laws.laws_of_archives.Goals as goal

pub returns-clause-blank : goal.returns-clause-blank
returns-clause-blank c = blank_lists_nothing

pub returns-clause-one : goal.returns-clause-one
returns-clause-one c = one_meaning

pub returns-clause-first : goal.returns-clause-first
returns-clause-first c = first_meaning
