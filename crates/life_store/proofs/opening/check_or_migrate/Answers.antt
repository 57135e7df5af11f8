use Rattle.std.proofs.Common.{inl, inr, arith, refl, sym, ap, ◌∙◌}
use Rattle.sqlite.specs.State.{HasCleanDisk}
use Rattle.sqlite.specs.Held.{state}
use Rattle.life_store.specs.Layout.{first_schema, archive_schema}
use Rattle.life_store.specs.OpeningState.{schema_of}
use Rattle.life_store.specs.Tables.{tables_of}
use Rattle.life_store.proofs.MigrationLemmas.{first_parts, first_stands, migrated_holds}
use Rattle.life_store.proofs.CrashLemmas.{crash_last}
use Rattle.life_store.proofs.CommitLemmas.{crash_more, made_of_first}
use Rattle.life_store.proofs.KeepLemmas.{healthy_is, healthy_from, held_again, first_held_again}
use Rattle.life_store.proofs.OpenLemmas.{apart, first_own, second_own, have_first, have_second}
use Rattle.life_store.proofs.opening.check_or_migrate.Goals as goal

pub returns-in-Ok-Second-clause-keeps : goal.returns-in-Ok-Second-clause-keeps
returns-in-Ok-Second-clause-keeps g c k healthy holds =
    held_again (state g.S.Store c.args.conn.now) (state g.S.Store c.version_of.new.conn) k c.version_of.ensures.mode
    (c.in-Ok-Second.ensures.same archive_schema second_own (inl (refl, refl)) healthy holds.schema) holds

pub returns-in-Ok-Second-clause-carries : goal.returns-in-Ok-Second-clause-carries
returns-in-Ok-Second-clause-carries g c k healthy holds =
    absurd (apart ((c.in-Ok-Second.ensures.found first_schema first_own first_own (inr (refl, refl)) healthy
    (have_first (tables_of (state g.S.Store c.args.conn.now)) k holds)).1 ∙ ap schema_of c.in-Ok-Second.field-0-is))

pub returns-in-Ok-clause-keeps : goal.returns-in-Ok-clause-keeps
returns-in-Ok-clause-keeps g c k healthy holds =
    let middle = state g.S.Store c.version_of.new.conn in
    let now = healthy_is (state g.S.Store c.migrate.new.conn) healthy in
    let clean : HasCleanDisk middle = omega (arith, c.migrate.ensures.clean, now.0) in
    let was = healthy_from middle clean (c.migrate.ensures.was_open now.0 now.1) in
    absurd (apart (sym ((c.in-Ok-First.ensures.found archive_schema second_own second_own (inl (refl, refl)) was
    (have_second (tables_of (state g.S.Store c.args.conn.now)) k holds)).1 ∙ ap schema_of c.in-Ok-First.field-0-is)))

pub returns-in-Ok-clause-carries : goal.returns-in-Ok-clause-carries
returns-in-Ok-clause-carries g c k healthy holds =
    let old = state g.S.Store c.args.conn.now in
    let middle = state g.S.Store c.version_of.new.conn in
    let new = state g.S.Store c.migrate.new.conn in
    let now = healthy_is new healthy in
    let clean : HasCleanDisk middle = omega (arith, c.migrate.ensures.clean, now.0) in
    let was = healthy_from middle clean (c.migrate.ensures.was_open now.0 now.1) in
    let stands = first_held_again old middle k
    (c.in-Ok-First.ensures.same first_schema first_own (inr (refl, refl)) was holds.schema) holds in
    migrated_holds middle new k c.in-Ok.ensures.ended stands
    (c.in-Ok.ensures.migrated now.0 (first_parts k) holds.filed (first_stands middle k stands) refl)

pub returns-in-Ok-clause-known : goal.returns-in-Ok-clause-known
returns-in-Ok-clause-known g c schema own versions known healthy have =
    let middle = state g.S.Store c.version_of.new.conn in
    let now = healthy_is (state g.S.Store c.migrate.new.conn) healthy in
    let clean : HasCleanDisk middle = omega (arith, c.migrate.ensures.clean, now.0) in
    let was = healthy_from middle clean (c.migrate.ensures.was_open now.0 now.1) in
    (c.in-Ok-First.ensures.found schema own versions known was have).0

pub returns-in-Ok-Second-clause-known : goal.returns-in-Ok-Second-clause-known
returns-in-Ok-Second-clause-known g c schema own versions known healthy have =
    (c.in-Ok-Second.ensures.found schema own versions known healthy have).0

pub returns-in-Ok-Second-clause-made : goal.returns-in-Ok-Second-clause-made
returns-in-Ok-Second-clause-made g c =
    crash_more c.args.conn.now.store c.version_of.new.conn.store c.version_of.ensures.crash

pub returns-in-Ok-clause-made : goal.returns-in-Ok-clause-made
returns-in-Ok-clause-made g c =
    let old = state g.S.Store c.args.conn.now in
    let middle = state g.S.Store c.version_of.new.conn in
    crash_last c.args.conn.now.store c.version_of.new.conn.store c.migrate.new.conn.store (λ clean db made.
    let was = healthy_from middle clean (c.in-Ok-First.ensures.up clean) in
    made_of_first old middle db was
    (λ k holds. apart (sym ((c.in-Ok-First.ensures.found archive_schema second_own second_own
    (inl (refl, refl)) was (have_second (tables_of old) k holds)).1 ∙ ap schema_of c.in-Ok-First.field-0-is)))
    (λ k holds. c.in-Ok-First.ensures.same first_schema first_own (inr (refl, refl)) was holds.schema) made)
    c.version_of.ensures.crash c.migrate.ensures.crash

pub returns-in-Err-migrate-clause-made : goal.returns-in-Err-migrate-clause-made
returns-in-Err-migrate-clause-made g c =
    let old = state g.S.Store c.args.conn.now in
    let middle = state g.S.Store c.version_of.new.conn in
    crash_last c.args.conn.now.store c.version_of.new.conn.store c.migrate.new.conn.store (λ clean db made.
    let was = healthy_from middle clean (c.in-Ok-First.ensures.up clean) in
    made_of_first old middle db was
    (λ k holds. apart (sym ((c.in-Ok-First.ensures.found archive_schema second_own second_own
    (inl (refl, refl)) was (have_second (tables_of old) k holds)).1 ∙ ap schema_of c.in-Ok-First.field-0-is)))
    (λ k holds. c.in-Ok-First.ensures.same first_schema first_own (inr (refl, refl)) was holds.schema) made)
    c.version_of.ensures.crash c.migrate.ensures.crash

pub returns-in-Err-clause-made : goal.returns-in-Err-clause-made
returns-in-Err-clause-made g c = crash_more c.args.conn.now.store c.version_of.new.conn.store c.version_of.ensures.crash
