use Rattle.std.proofs.Common.{refl, rules, subst}
use Rattle.sqlite_trees.specs.View.{IsQuiet}
use Rattle.life_store.proofs.RecoverableLemmas.{open_below}
use Rattle.life_store.proofs.opening.idle_connection.Goals as goal

pub returns-clause-ok : goal.returns-clause-ok
returns-clause-ok g c =
    record { tables = search rules; live = search rules; settled = c.if-not-is_autocommit.ensures.settled refl }

pub returns-then-not-is_autocommit-clause-quiet : goal.returns-then-not-is_autocommit-clause-quiet
returns-then-not-is_autocommit-clause-quiet g c =
    subst (λ s. IsQuiet g.S.Store.view g.S.Store.faults g.S.Store.recovers g.S.Store.is_shielded s c.into_store.result)
    c.into_connection-conn.ensures.store c.into_store.ensures.quiet

pub returns-then-not-is_autocommit-clause-was_open : goal.returns-then-not-is_autocommit-clause-was_open
returns-then-not-is_autocommit-clause-was_open g c healthy =
    open_below g.S.Store c.into_connection-conn.result c.args.archive.tables c.args.archive.store
    c.into_connection-conn.ensures.tables c.into_connection-conn.ensures.store healthy
