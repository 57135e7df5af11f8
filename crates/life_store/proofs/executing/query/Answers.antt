use Rattle.std.proofs.Common.{refl}
use Rattle.sqlite.specs.Held.{state}
use Rattle.life_store.proofs.KeepLemmas.{seen_unasked}
use Rattle.life_store.proofs.StatementLemmas.{withstands_none, withstands_by}
use Rattle.life_store.proofs.executing.query.Goals as goal

pub returns-clause-refused : goal.returns-clause-refused
returns-clause-refused g c clean =
    seen_unasked c.args.sql.now _ (state g.S.Store c.args.conn.now) (state g.S.Store c.query_all.new.self)
    c.query_all.result (c.if-not-is_autocommit.ensures.settled refl) (c.query_all.ensures.err clean)

pub returns-clause-withstands : goal.returns-clause-withstands
returns-clause-withstands g c =
    withstands_by g.S.Store c.args.conn.now c.query_all.new.self _ c.query_all.ensures.survives

pub returns-then-not-is_autocommit-clause-withstands : goal.returns-then-not-is_autocommit-clause-withstands
returns-then-not-is_autocommit-clause-withstands g c = withstands_none _
