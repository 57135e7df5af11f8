use Rattle.std.proofs.Common.{◌≡◌, [], length}
use Rattle.sqlite.specs.Held.{state}
use Rattle.life_store.specs.ReadingState.{newest_rows}
use Rattle.life_store.proofs.StatementTexts.{newest_census_text}
use Rattle.life_store.specs.Stored.{census_cells}
use Rattle.life_store.proofs.Texts.{newest_census_is}
use Rattle.life_store.proofs.MigrationLemmas.{answers_inside}
use Rattle.life_store.proofs.DepositQueries.{newest}
use Rattle.life_store.proofs.migration.newest_census.Goals as goal

pub returns-clause-tells : goal.returns-clause-tells
returns-clause-tells g c clean p stands =
    let old = state g.S.Store c.args.tx.now.conn.now in
    let new = state g.S.Store c.query_inside.new.tx.conn.now in
    answers_inside newest_census_text [] old new c.query_inside.result p
    (λ rows. rows ≡ newest_rows (length p.censuses)) newest_census_is.plain stands (c.query_inside.ensures.shown clean)
    (λ rows h. newest census_cells old new 3 p.censuses stands.censuses stands.schema newest_census_text
    rows newest_census_is h)
