use Rattle.std.proofs.Common.{rules}
use Rattle.life_check.proofs.CountLemmas.{there_if, gone_if}
use Rattle.life_check.proofs.checked_censuses.has_deposit.Goals as goal

pub returns-clause-there : goal.returns-clause-there
returns-clause-there g c clean =
    there_if (g.S.Store.view c.args.store.now).trees c.args.id c.get.result c.get.new.row clean
    (c.get.ensures.ok c.args.id (search rules))

pub returns-clause-other : goal.returns-clause-other
returns-clause-other g c clean =
    gone_if (g.S.Store.view c.args.store.now).trees c.args.id c.get.result c.get.new.row clean
    (c.get.ensures.ok c.args.id (search rules))
