use Rattle.std.proofs.Common.{pos, [], ◌∷◌, option_map}
use Rattle.sqlite_value.specs.declared.value.Value.TheVariants.{Int}
use Rattle.sqlite.specs.Held.{state}
use Rattle.life_store.specs.Kept.{numbered}
use Rattle.life_store.specs.ReadingState.{ShowsDeposit}
use Rattle.life_store.proofs.StatementTexts.{deposit_text}
use Rattle.life_store.proofs.Texts.{deposit_is}
use Rattle.life_store.proofs.MigrationLemmas.{answers_inside}
use Rattle.life_store.proofs.DepositQueries.{deposit_shown_at}
use Rattle.life_store.proofs.migration.show_deposit.Goals as goal

pub returns-clause-tells : goal.returns-clause-tells
returns-clause-tells g c clean p filed stands =
    let old = state g.S.Store c.args.tx.now.conn.now in
    let new = state g.S.Store c.query_about.new.tx.conn.now in
    answers_inside deposit_text (Int (pos c.args.id) ∷ []) old new c.query_about.result p
    (λ rows. ShowsDeposit (option_map (λ d. (c.args.id, d)) (numbered p.deposits c.args.id)) rows)
    deposit_is.plain stands
    (c.query_about.ensures.shown clean)
    (λ rows h. deposit_shown_at old new p.deposits rows c.args.id stands.schema stands.deposits filed h)
