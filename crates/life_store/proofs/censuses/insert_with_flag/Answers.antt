use Rattle.std.proofs.Common.{◌≡◌, ◌++◌, ◌∷◌, [], rules, arith, map, sym, subst, ap}
use Rattle.sqlite.specs.State.{HasCleanDisk}
use Rattle.sqlite.specs.Held.{state}
use Rattle.life_census.specs.Rows.{row_seen}
use Rattle.life_store.specs.Kept.{Tallied}
use Rattle.life_store.specs.CensusesState.{Parts, HoldsParts, with_census}
use Rattle.life_store.specs.Stored.{tagged}
use Rattle.life_store.proofs.StatementLemmas.{withstands_then, stays_then}
use Rattle.life_store.proofs.censuses.insert_with_flag.Goals as goal

pub returns-clause-added : goal.returns-clause-added
returns-clause-added g c p t made is is_flag clean inside stands =
    let given : Tallied = record { census = c.args.census.now; tally = c.args.tally.now; steady = c.args.steady } in
    let q : Parts = record p { censuses = p.censuses ++ given ∷ [] } in
    let first = state g.S.Store c.insert_census.new.tx.conn.now in
    let middle = state g.S.Store c.insert_rows.new.tx.conn.now in
    let clean_2 : HasCleanDisk middle = omega (arith, c.insert.ensures.stays.clean, clean) in
    let clean_1 : HasCleanDisk first = omega (arith, c.insert_rows.ensures.stays.clean, clean_2) in
    let one = c.in_ok-insert_census.ensures.added p c.args.steady is clean_1 inside stands in
    let two = c.in_ok-insert_rows.ensures.added q clean_2 one.0 one.1 in
    let slice : map row_seen c.as_slice.result.now ≡ c.args.tally.now.rows = search rules in
    let stands_2 : HoldsParts middle.now (with_census c.args.id given p) =
    subst (λ rows. HoldsParts middle.now (record q { counts = q.counts ++ tagged c.args.id rows })) slice two.1 in
    let stands_3 : HoldsParts middle.now (with_census c.args.id t p) =
    subst (λ (x : Tallied). HoldsParts middle.now (with_census c.args.id x p)) (sym made) stands_2 in
    c.insert.ensures.added (with_census c.args.id t p) t
    (ap (λ (x : Tallied). x.steady) made) is_flag clean two.0 stands_3

pub returns-clause-stays : goal.returns-clause-stays
returns-clause-stays g c =
    stays_then _ _ _ (stays_then _ _ _ c.in_ok-insert_census.ensures.stays c.in_ok-insert_rows.ensures.stays)
    c.insert.ensures.stays

pub returns-clause-withstands : goal.returns-clause-withstands
returns-clause-withstands g c =
    withstands_then _ _ _ (withstands_then _ _ _ c.insert_census.ensures.withstands c.insert_rows.ensures.withstands)
    c.insert.ensures.withstands

pub returns-in_err-insert_rows-clause-withstands : goal.returns-in_err-insert_rows-clause-withstands
returns-in_err-insert_rows-clause-withstands g c =
    withstands_then _ _ _ c.insert_census.ensures.withstands c.insert_rows.ensures.withstands

pub returns-clause-sound : goal.returns-clause-sound
returns-clause-sound g c clean inside p stands is =
    let given : Tallied = record { census = c.args.census.now; tally = c.args.tally.now; steady = c.args.steady } in
    let q : Parts = record p { censuses = p.censuses ++ given ∷ [] } in
    let first = state g.S.Store c.insert_census.new.tx.conn.now in
    let middle = state g.S.Store c.insert_rows.new.tx.conn.now in
    let clean_2 : HasCleanDisk middle = omega (arith, c.insert.ensures.stays.clean, clean) in
    let clean_1 : HasCleanDisk first = omega (arith, c.insert_rows.ensures.stays.clean, clean_2) in
    let one = c.in_ok-insert_census.ensures.added p c.args.steady is clean_1 inside stands in
    let two = c.in_ok-insert_rows.ensures.added q clean_2 one.0 one.1 in
    c.insert.ensures.sound clean two.0 _ two.1
