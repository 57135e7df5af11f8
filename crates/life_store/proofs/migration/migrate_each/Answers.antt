use Rattle.std.proofs.Common.{◌≡◌, ◌≤◌, ◌∙◌, arith, refl, rules, length, subst}
use Rattle.sqlite.specs.Held.{state}
use Rattle.life_store.specs.MigrationState.{IsFlaggedUpTo}
use Rattle.life_store.proofs.CrashLemmas.{crash_none, crash_last}
use Rattle.life_store.proofs.MigrationLemmas.{begins_migrated, carries_on}
use Rattle.life_store.proofs.KeepLemmas.{keeps_then}
use Rattle.life_store.proofs.migration.migrate_each.Goals as goal

pub loop-i-init : goal.loop-i-init
loop-i-init g c = (
  refl,
  omega arith,
  crash_none c.args.tx.now.conn.now.store,
  λ clean inside. begins_migrated (state g.S.Store c.args.tx.now.conn.now) inside,
)

pub loop-i-preserved : goal.loop-i-preserved
loop-i-preserved g c = (
  c.migrate_one.ensures.stays.same_reference ∙ c.loop-i.invariant.0,
  omega (arith, c.migrate_one.ensures.stays.clean, c.loop-i.invariant.1),
  crash_last _ _ _ (λ clean db none. none) c.loop-i.invariant.2 c.migrate_one.ensures.stays.crash,
  λ clean inside.
      let before = c.loop-i.invariant.3 (omega (arith, c.migrate_one.ensures.stays.clean, clean)) inside in
      carries_on (state g.S.Store c.args.tx.now.conn.now) (state g.S.Store c.loop-i.tx.conn.now)
      (state g.S.Store c.migrate_one.new.tx.conn.now) c.loop-i.i before
      (c.in_ok-migrate_one.ensures.stays.inside clean before.inside)
      (c.migrate_one.ensures.stays.kept clean before.inside) (c.in_ok-migrate_one.ensures.migrated clean before.inside),
)

pub returns-clause-migrated : goal.returns-clause-migrated
returns-clause-migrated g c clean inside p filed stands none is =
    let end : c.loop-i.i ≡ c.args.count = omega arith in
    let low : c.loop-i.i ≤ length p.censuses = omega (arith, end, is) in
    subst (λ n. IsFlaggedUpTo p n (state g.S.Store c.loop-i.tx.conn.now).now) end
    ((c.loop-i.invariant.3 clean inside).migrated p filed stands none low)

pub returns-in_err-migrate_one-clause-stays : goal.returns-in_err-migrate_one-clause-stays
returns-in_err-migrate_one-clause-stays g c = record {
  same_reference = c.migrate_one.ensures.stays.same_reference ∙ c.loop-i.invariant.0;
  inside = search rules;
  kept = λ clean inside.
      let before = c.loop-i.invariant.3 (omega (arith, c.migrate_one.ensures.stays.clean, clean)) inside in
      keeps_then (state g.S.Store c.args.tx.now.conn.now) (state g.S.Store c.loop-i.tx.conn.now)
      (state g.S.Store c.migrate_one.new.tx.conn.now) before.kept
      (c.migrate_one.ensures.stays.kept clean before.inside);
  clean = omega (arith, c.migrate_one.ensures.stays.clean, c.loop-i.invariant.1);
  crash = crash_last _ _ _ (λ clean db none. none) c.loop-i.invariant.2 c.migrate_one.ensures.stays.crash;
}

pub returns-clause-stays : goal.returns-clause-stays
returns-clause-stays g c = record {
  same_reference = c.loop-i.invariant.0;
  inside = λ clean inside. (c.loop-i.invariant.3 clean inside).inside;
  kept = λ clean inside. (c.loop-i.invariant.3 clean inside).kept;
  clean = c.loop-i.invariant.1;
  crash = c.loop-i.invariant.2;
}
