use Rattle.sqlite.specs.Held.{state}
use Rattle.life_store.proofs.CreatingLemmas.{inside, creates_census_flags}
use Rattle.life_store.proofs.MigrationLemmas.{makes_flags}
use Rattle.life_store.proofs.creating.create_census_flags.Goals as goal

pub returns-clause-has_tables : goal.returns-clause-has_tables
returns-clause-has_tables g c clean begun has_tables =
    let old = state g.S.Store c.args.tx.now.conn.now in
    let new = state g.S.Store c.execute.new.self.conn.now in
    inside old new _ c.execute.result _ (λ count. creates_census_flags old new count has_tables)
    (c.execute.ensures.runs clean begun)

pub returns-clause-added : goal.returns-clause-added
returns-clause-added g c clean begun p first =
    let old = state g.S.Store c.args.tx.now.conn.now in
    let new = state g.S.Store c.execute.new.self.conn.now in
    inside old new _ c.execute.result _ (λ count. makes_flags old new count p first)
    (c.execute.ensures.runs clean begun)
