use Rattle.std.proofs.Common.{◌≡◌, rules, false, refl}
use Rattle.sqlite.specs.Held.{state}
use Rattle.life_store.proofs.KeepLemmas.{seen_unwritten, ran, open_when_run}
use Rattle.life_store.proofs.StatementLemmas.{withstands_none, withstands_by}
use Rattle.life_store.proofs.executing.write.Goals as goal

pub returns-clause-refused : goal.returns-clause-refused
returns-clause-refused g c clean =
    seen_unwritten c.args.sql.now _ (state g.S.Store c.args.conn.now) (state g.S.Store c.execute.new.self)
    c.execute.result (c.if-not-is_autocommit.ensures.settled refl) (c.execute.ensures.runs clean)

pub returns-clause-ran : goal.returns-clause-ran
returns-clause-ran g c clean =
    ran c.args.sql.now _ (state g.S.Store c.args.conn.now) (state g.S.Store c.execute.new.self) c.execute.result
    (c.execute.ensures.runs clean)

pub returns-clause-withstands : goal.returns-clause-withstands
returns-clause-withstands g c = withstands_by g.S.Store c.args.conn.now c.execute.new.self _ c.execute.ensures.survives

pub returns-then-not-is_autocommit-clause-withstands : goal.returns-then-not-is_autocommit-clause-withstands
returns-then-not-is_autocommit-clause-withstands g c = withstands_none _

pub returns-clause-up : goal.returns-clause-up
returns-clause-up g c clean =
    let none : c.args.conn.now.in_transaction ≡ false = search rules in
    open_when_run c.args.sql.now _ (state g.S.Store c.args.conn.now)
    (state g.S.Store c.execute.new.self) c.execute.result none (c.execute.ensures.runs clean)
