use Rattle.std.proofs.Common.{pos, [], ◌∷◌, option_map}
use Rattle.sqlite_value.specs.declared.value.Value.TheVariants.{Int}
use Rattle.sqlite.specs.Held.{state}
use Rattle.life_store.specs.Kept.{numbered}
use Rattle.life_store.specs.ReadingState.{ShowsCensus}
use Rattle.life_store.proofs.StatementTexts.{census_text}
use Rattle.life_store.proofs.Texts.{census_is}
use Rattle.life_store.proofs.MigrationLemmas.{answers_inside}
use Rattle.life_store.proofs.CensusQueries.{census_shown_at}
use Rattle.life_store.proofs.migration.show_census.Goals as goal

pub returns-clause-tells : goal.returns-clause-tells
returns-clause-tells g c clean p stands =
    let old = state g.S.Store c.args.tx.now.conn.now in
    let new = state g.S.Store c.query_about.new.tx.conn.now in
    answers_inside census_text (Int (pos c.args.id) ∷ []) old new c.query_about.result p
    (λ rows. ShowsCensus (option_map (λ t. (c.args.id, t)) (numbered p.censuses c.args.id)) rows) census_is.plain stands
    (c.query_about.ensures.shown clean)
    (λ rows h. census_shown_at old new p.censuses rows c.args.id stands.schema stands.censuses h)
