use Rattle.std.proofs.Common.{arith, refl, Ok}
use Rattle.sqlite.specs.State.{HasCleanDisk}
use Rattle.sqlite.specs.Held.{state}
use Rattle.life_store.specs.declared.store_fault.Unavailable.{Unavailable}
use Rattle.life_store.proofs.MigrationLemmas.{flagged_by, migrated_by}
use Rattle.life_store.proofs.StatementLemmas.{stays_then, stays_with}
use Rattle.life_store.proofs.migration.migrate_one.Goals as goal

pub returns-clause-migrated : goal.returns-clause-migrated
returns-clause-migrated g c clean begun p t filed stands is there =
    let first = state g.S.Store c.numbers_at.new.tx.conn.now in
    let middle = state g.S.Store c.deposit_at.new.tx.conn.now in
    let clean_2 : HasCleanDisk middle = omega (arith, c.insert.ensures.stays.clean, clean) in
    let clean_1 : HasCleanDisk first = omega (arith, c.deposit_at.ensures.stays.clean, clean_2) in
    let inside_1 = c.in_ok-deposit.ensures.stays.inside clean_1 begun in
    let inside_2 = c.in_ok-deposit-2.ensures.stays.inside clean_2 inside_1 in
    let numbers = c.in_ok-deposit.ensures.found clean_1 p t stands there in
    let deposit = c.in_ok-deposit-2.ensures.found clean_2 p filed numbers.3 in
    let b = c.in_ok-steady.steady in
    let it = flagged_by {E = Unavailable} (Ok b) p.deposits t _ _ _ c.in_ok-deposit-2.deposit
    numbers.0 numbers.1 numbers.2 deposit.0 c.in_ok-steady.ensures deposit.1 in
    migrated_by c.insert.result _ p t b (state g.S.Store c.insert.new.tx.conn.now).now it.0
    (c.insert.ensures.added p (record t { steady = b }) refl is clean inside_2 it.1)

pub returns-clause-stays : goal.returns-clause-stays
returns-clause-stays g c =
    stays_then _ _ _ (stays_then _ _ _ c.in_ok-deposit.ensures.stays c.in_ok-deposit-2.ensures.stays)
    c.insert.ensures.stays

pub returns-in_err-steady-clause-stays : goal.returns-in_err-steady-clause-stays
returns-in_err-steady-clause-stays g c =
    stays_with _ _ _ (stays_then _ _ _ c.in_ok-deposit.ensures.stays c.in_ok-deposit-2.ensures.stays)
