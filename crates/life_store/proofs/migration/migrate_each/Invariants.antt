use Rattle.std.proofs.Common.{◌≡◌, ◌≤◌}
use Rattle.std.specs.Prelude.{IsTrue}
use Rattle.sqlite_trees.specs.View.{doubt}
use Rattle.sqlite.specs.State.{HasCleanDisk}
use Rattle.sqlite.specs.Held.{state}
use Rattle.life_store.specs.Crash.{NothingNew, CrashLeaves}
use Rattle.life_store.proofs.MigrationLemmas.{HasMigrated}
use Rattle.life_store.proofs.migration.migrate_each.Given as goal

abbrev pub invariant-loop-i : goal.invariant-loop-i
invariant-loop-i g l =
    (l.tx.conn.ghost_name ≡ l.fn.tx.conn.ghost_name)
    × (doubt (state g.S.Store l.fn.tx.conn.now).is_clean ≤ doubt (state g.S.Store l.tx.conn.now).is_clean)
    × CrashLeaves g.S.Store NothingNew l.fn.tx.conn.now.store l.tx.conn.now.store
    × (HasCleanDisk (state g.S.Store l.tx.conn.now) → IsTrue (state g.S.Store l.fn.tx.conn.now).in_transaction
    → HasMigrated (state g.S.Store l.fn.tx.conn.now) (state g.S.Store l.tx.conn.now) l.i)
