use Rattle.life_check.proofs.TokenLemmas.{deposit_found, census_found}
use Rattle.life_check.proofs.archive_check.law_of_unique_tokens.Goals as goal

pub returns-clause-deposits : goal.returns-clause-deposits
returns-clause-deposits c = deposit_found

pub returns-clause-censuses : goal.returns-clause-censuses
returns-clause-censuses c = census_found
