use Rattle.std.proofs.Common.{rules}
use Rattle.sqlite.specs.Held.{state}
use Rattle.life_store.proofs.MigrationLemmas.{shown_keeps, query_keeps}
use Rattle.life_store.proofs.CrashLemmas.{crash_by}
use Rattle.life_store.proofs.executing.query_inside.Goals as goal

pub returns-in_err-query_all-clause-stays : goal.returns-in_err-query_all-clause-stays
returns-in_err-query_all-clause-stays g c =
    let old = state g.S.Store c.args.tx.now.conn.now in
    let new = state g.S.Store c.query_all.new.self.conn.now in
    record {
      same_reference = c.query_all.ensures.same_reference;
      inside = search rules;
      kept =
          λ clean. query_keeps c.args.sql.now _ old new c.query_all.result (c.query_all.ensures.ok clean)
          (c.query_all.ensures.err clean);
      clean = c.query_all.ensures.survives.clean;
      crash = crash_by g.S.Store c.args.tx.now.conn.now c.query_all.new.self.conn.now _ c.query_all.ensures.survives;
    }

pub returns-clause-stays : goal.returns-clause-stays
returns-clause-stays g c =
    let old = state g.S.Store c.args.tx.now.conn.now in
    let new = state g.S.Store c.query_all.new.self.conn.now in
    record {
      same_reference = c.query_all.ensures.same_reference;
      inside = λ clean inside. (shown_keeps c.args.sql.now _ old new _ inside (c.in_ok-query_all.ensures.ok clean)).0;
      kept =
          λ clean. query_keeps c.args.sql.now _ old new c.query_all.result (c.query_all.ensures.ok clean)
          (c.query_all.ensures.err clean);
      clean = c.query_all.ensures.survives.clean;
      crash = crash_by g.S.Store c.args.tx.now.conn.now c.query_all.new.self.conn.now _ c.query_all.ensures.survives;
    }
