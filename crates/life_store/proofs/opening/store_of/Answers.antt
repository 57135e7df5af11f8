use Rattle.std.proofs.Common.{subst}
use Rattle.sqlite_trees.specs.View.{IsQuiet}
use Rattle.life_store.proofs.RecoverableLemmas.{open_below}
use Rattle.life_store.proofs.opening.store_of.Goals as goal

pub returns-clause-quiet : goal.returns-clause-quiet
returns-clause-quiet g c =
    subst (λ s. IsQuiet g.S.Store.view g.S.Store.faults g.S.Store.recovers g.S.Store.is_shielded s c.into_store.result)
    c.into_connection.ensures.store c.into_store.ensures.quiet

pub returns-clause-was_open : goal.returns-clause-was_open
returns-clause-was_open g c healthy =
    open_below g.S.Store c.into_connection.result c.args.archive.tables c.args.archive.store
    c.into_connection.ensures.tables c.into_connection.ensures.store healthy
