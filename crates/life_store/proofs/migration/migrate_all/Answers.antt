use Rattle.std.proofs.Common.{arith, refl, []}
use Rattle.sqlite.specs.State.{HasCleanDisk}
use Rattle.sqlite.specs.Held.{state}
use Rattle.life_store.proofs.MigrationLemmas.{all_flagged}
use Rattle.life_store.proofs.migration.migrate_all.Goals as goal

pub returns-clause-migrated : goal.returns-clause-migrated
returns-clause-migrated g c clean begun p filed first named =
    let s1 = state g.S.Store c.create_census_flags.new.tx.conn.now in
    let s2 = state g.S.Store c.count_censuses.new.tx.conn.now in
    let s3 = state g.S.Store c.migrate_each.new.tx.conn.now in
    let clean_3 : HasCleanDisk s3 = omega (arith, c.name_version.ensures.stays.clean, clean) in
    let clean_2 : HasCleanDisk s2 = omega (arith, c.migrate_each.ensures.stays.clean, clean_3) in
    let clean_1 : HasCleanDisk s1 = omega (arith, c.count_censuses.ensures.stays.clean, clean_2) in
    let made = c.in_ok-create_census_flags.ensures.added clean_1 begun p first in
    let inside_2 = c.in_ok-count.ensures.stays.inside clean_2 made.0 in
    let q = record p { flagged = [] } in
    let counted = c.in_ok-count.ensures.counted clean_2 q made.1 in
    let inside_3 = c.in_ok-migrate_each.ensures.stays.inside clean_3 inside_2 in
    let u = c.in_ok-migrate_each.ensures.migrated clean_3 inside_2 q filed counted.1 refl counted.0 in
    all_flagged c.name_version.result p c.in_ok-count.count s3.now (state g.S.Store c.name_version.new.tx.conn.now).now
    u counted.0 (c.name_version.ensures.named clean inside_3 (record q { flagged = u.done }) u.stands named)
    (c.name_version.ensures.sound clean inside_3 (record q { flagged = u.done }) u.stands)
