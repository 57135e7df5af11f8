use Rattle.std.proofs.Common.{◌≡◌, ◌+◌, rules}
use Rattle.sqlite.specs.Held.{state}
use Rattle.life_store.specs.Kept.{Tallied}
use Rattle.life_store.specs.Crash.{CrashLeaves}
use Rattle.life_store.specs.Tables.{tables_of, StaysHealthy}
use Rattle.life_store.proofs.CrashLemmas.{crash_last}
use Rattle.life_store.proofs.CensusLemmas.{HoldNewCensus, asked_first}
use Rattle.life_store.proofs.LastingLemmas.{lasts_then}
use Rattle.life_store.proofs.archive.Archive.add_census.Goals as goal

pub returns-in_err-insert-clause-transition : goal.returns-in_err-insert-clause-transition
returns-in_err-insert-clause-transition g c =
    let counted = c.count_censuses.ensures in
    let t : Tallied = record { census = c.args.census.now; tally = c.args.tally.now; steady = c.args.steady } in
    let added : StaysHealthy c.count_censuses.new.self.tables (tables_of (state g.S.Store c.insert.new.conn)) =
    search (rules, c.insert.ensures.withstands.lasts) in
    let left : CrashLeaves g.S.Store (HoldNewCensus c.count_censuses.new.self.tables c.in-Some.id t)
    c.count_censuses.new.self.store c.insert.new.conn.store = search (rules, c.insert.ensures.withstands.crash) in
    let next : c.in-Some.id ≡ c.in_ok-count.count + 1 = search rules in
    record {
      was_healthy = search rules;
      lasts = lasts_then _ _ _ counted.transition.lasts added;
      capacity = search rules;
      crash = crash_last _ _ _
          (λ clean db. asked_first c.args.self.now.tables c.count_censuses.new.self.tables
          c.in_ok-count.count c.in-Some.id t db next
          (c.in_ok-count.ensures.healthy clean) counted.transition.was_healthy counted.same c.in_ok-count.ensures.value)
          counted.transition.crash left;
    }

pub returns-clause-transition : goal.returns-clause-transition
returns-clause-transition g c =
    let counted = c.count_censuses.ensures in
    let t : Tallied = record { census = c.args.census.now; tally = c.args.tally.now; steady = c.args.steady } in
    let added : StaysHealthy c.count_censuses.new.self.tables (tables_of (state g.S.Store c.insert.new.conn)) =
    search (rules, c.insert.ensures.withstands.lasts) in
    let left : CrashLeaves g.S.Store (HoldNewCensus c.count_censuses.new.self.tables c.in-Some.id t)
    c.count_censuses.new.self.store c.insert.new.conn.store = search (rules, c.insert.ensures.withstands.crash) in
    let next : c.in-Some.id ≡ c.in_ok-count.count + 1 = search rules in
    record {
      was_healthy = search rules;
      lasts = lasts_then _ _ _ counted.transition.lasts added;
      capacity = search rules;
      crash = crash_last _ _ _
          (λ clean db. asked_first c.args.self.now.tables c.count_censuses.new.self.tables
          c.in_ok-count.count c.in-Some.id t db next
          (c.in_ok-count.ensures.healthy clean) counted.transition.was_healthy counted.same c.in_ok-count.ensures.value)
          counted.transition.crash left;
    }
