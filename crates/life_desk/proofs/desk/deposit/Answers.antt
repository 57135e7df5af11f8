use Rattle.std.proofs.Common.{inr, rules}
use Rattle.life_store.proofs.LastingLemmas.{goes_none}
use Rattle.life_desk.proofs.desk.deposit.Goals as goal

pub returns-in-Err-Memory-clause-transition : goal.returns-in-Err-Memory-clause-transition
returns-in-Err-Memory-clause-transition g c = goes_none _

pub returns : goal.returns
returns g c = record {
  transition = goes_none _;
  promised = λ kept. absurd cc;
  healthy = inr (λ A. (search (rules), search (rules)));
  effect = search rules;
}
