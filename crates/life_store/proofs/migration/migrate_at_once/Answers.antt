use Rattle.std.proofs.Common.{rules, arith}
use Rattle.std.specs.Prelude.{IsTrue}
use Rattle.sqlite.specs.State.{HasCleanDisk}
use Rattle.sqlite.specs.Held.{state}
use Rattle.life_store.specs.Crash.{CrashLeaves}
use Rattle.life_store.specs.MigrationState.{HoldsFirstParts, IsMigrated, IsCarriedOver}
use Rattle.life_store.proofs.CommitLemmas.{carried_committed, crash_dropped}
use Rattle.life_store.proofs.MigrationLemmas.{migrated_committed}
use Rattle.life_store.proofs.migration.migrate_at_once.Goals as goal

pub returns-in-Ok-commit-clause-migrated : goal.returns-in-Ok-commit-clause-migrated
returns-in-Ok-commit-clause-migrated g c clean p filed first named =
    let begun = c.transaction-tx.ensures.begun in
    let start = state g.S.Store c.transaction-tx.result.conn.now in
    let last = state g.S.Store c.migrate_all.new.tx.conn.now in
    let clean_3 : HasCleanDisk (state g.S.Store c.commit.new.self.0) = search (rules, clean) in
    let clean_2 : HasCleanDisk last = omega (arith, c.commit.ensures.survives.clean, clean_3) in
    let inside : IsTrue c.transaction-tx.result.conn.now.in_transaction = search (rules, begun) in
    let shows = (c.in-Ok-commit.ensures.ok clean_3).1 in
    let stands : HoldsFirstParts start.now p = search (rules, begun, first) in
    let it : IsMigrated p last.now = (c.in-Ok.ensures.migrated clean_2 inside p filed stands named).0 in
    let done = migrated_committed last (state g.S.Store c.commit.new.self.0) p shows it in
    search (rules, done)

pub returns-in-Ok-commit-clause-crash : goal.returns-in-Ok-commit-clause-crash
returns-in-Ok-commit-clause-crash g c =
    let done : CrashLeaves g.S.Store
    (IsCarriedOver (state g.S.Store c.args.conn.now).now) c.args.conn.now.store c.commit.new.self.0.store =
    carried_committed g.S.Store c.args.conn.now c.transaction-tx.result.conn.now c.migrate_all.new.tx.conn.now
    c.commit.new.self.0 c.transaction-tx.ensures.begun c.migrate_all.ensures.stays.crash c.commit.ensures.survives
    c.in-Ok.ensures.migrated in
    search (rules, done)

pub returns-in-Err-commit-clause-crash : goal.returns-in-Err-commit-clause-crash
returns-in-Err-commit-clause-crash g c =
    let done : CrashLeaves g.S.Store
    (IsCarriedOver (state g.S.Store c.args.conn.now).now) c.args.conn.now.store c.commit.new.self.0.store =
    carried_committed g.S.Store c.args.conn.now c.transaction-tx.result.conn.now c.migrate_all.new.tx.conn.now
    c.commit.new.self.0 c.transaction-tx.ensures.begun c.migrate_all.ensures.stays.crash c.commit.ensures.survives
    c.in-Ok.ensures.migrated in
    search (rules, done)

pub returns-in-Err-clause-crash : goal.returns-in-Err-clause-crash
returns-in-Err-clause-crash g c =
    let done : CrashLeaves g.S.Store
    (IsCarriedOver (state g.S.Store c.args.conn.now).now) c.args.conn.now.store c.drop-tx.new.self.0.store =
    crash_dropped g.S.Store c.args.conn.now c.transaction-tx.result.conn.now c.migrate_all.new.tx.conn.now
    c.drop-tx.new.self.0 c.transaction-tx.ensures.begun c.migrate_all.ensures.stays.crash c.drop-tx.ensures.survives in
    search (rules, done)
