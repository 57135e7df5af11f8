use Rattle.std.proofs.Common.{rules}
use Rattle.life_store.proofs.StatementLemmas.{withstands_none}
use Rattle.life_store.proofs.deposits.add.Goals as goal

pub returns-in_err-values : goal.returns-in_err-values
returns-in_err-values g c = record {
  lost = search rules;
  up = search rules;
  withstands = withstands_none _;
  ok = search rules;
  err = search rules;
}
