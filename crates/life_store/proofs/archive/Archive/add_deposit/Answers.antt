use Rattle.std.proofs.Common.{◌≡◌, ◌+◌, rules, pos}
use Rattle.sqlite.specs.Held.{state}
use Rattle.life_store.specs.Crash.{CrashLeaves}
use Rattle.life_store.specs.Tables.{tables_of, StaysHealthy}
use Rattle.life_store.proofs.CrashLemmas.{crash_last}
use Rattle.life_store.proofs.AddLemmas.{HoldNewDeposit, asked_first}
use Rattle.life_store.proofs.LastingLemmas.{lasts_then}
use Rattle.life_store.proofs.archive.Archive.add_deposit.Goals as goal

pub returns-in_err-add-clause-transition : goal.returns-in_err-add-clause-transition
returns-in_err-add-clause-transition g c =
    let counted = c.count_deposits.ensures in
    let added : StaysHealthy c.count_deposits.new.self.tables (tables_of (state g.S.Store c.add.new.conn)) =
    search (rules, c.add.ensures.withstands.lasts) in
    let left : CrashLeaves g.S.Store (HoldNewDeposit c.count_deposits.new.self.tables c.in-Ok.rowid c.args.deposit.now)
    c.count_deposits.new.self.store c.add.new.conn.store = search (rules, c.add.ensures.withstands.crash) in
    let rowid : c.in-Ok.rowid ≡ pos (c.in_ok-count.count + 1) = search rules in
    record {
      was_healthy = search rules;
      lasts = lasts_then _ _ _ counted.transition.lasts added;
      capacity = search rules;
      crash = crash_last _ _ _
          (λ clean db. asked_first c.args.self.now.tables c.count_deposits.new.self.tables
          c.in_ok-count.count c.in-Ok.rowid c.args.deposit.now db rowid
          (c.in_ok-count.ensures.healthy clean) counted.transition.was_healthy counted.same c.in_ok-count.ensures.value)
          counted.transition.crash left;
    }

pub returns-clause-transition : goal.returns-clause-transition
returns-clause-transition g c =
    let counted = c.count_deposits.ensures in
    let added : StaysHealthy c.count_deposits.new.self.tables (tables_of (state g.S.Store c.add.new.conn)) =
    search (rules, c.add.ensures.withstands.lasts) in
    let left : CrashLeaves g.S.Store (HoldNewDeposit c.count_deposits.new.self.tables c.in-Ok.rowid c.args.deposit.now)
    c.count_deposits.new.self.store c.add.new.conn.store = search (rules, c.add.ensures.withstands.crash) in
    let rowid : c.in-Ok.rowid ≡ pos (c.in_ok-count.count + 1) = search rules in
    record {
      was_healthy = search rules;
      lasts = lasts_then _ _ _ counted.transition.lasts added;
      capacity = search rules;
      crash = crash_last _ _ _
          (λ clean db. asked_first c.args.self.now.tables c.count_deposits.new.self.tables
          c.in_ok-count.count c.in-Ok.rowid c.args.deposit.now db rowid
          (c.in_ok-count.ensures.healthy clean) counted.transition.was_healthy counted.same c.in_ok-count.ensures.value)
          counted.transition.crash left;
    }
