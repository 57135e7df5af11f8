use Rattle.std.proofs.Common.{rules, inr}
use Rattle.life_archive.proofs.DepositCrashes.{deposit_safe}
use Rattle.life_archive.proofs.deposit.run_deposit.Goals as goal

pub returns-clause-crash : goal.returns-clause-crash
returns-clause-crash g c =
    deposit_safe g.S.Store _ _ _ _ _ _ _ _ c.law_of_crashes.ensures
    (inr (record {
      file = c.in-Ok.file.items;
      reply = c.reply_of.result;
      taken = search rules;
      answered = rw c.in-Ok-deposit_request.ensures at c.reply_of.ensures;
      puts = search rules;
    }))
