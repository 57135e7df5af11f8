use Rattle.std.proofs.Common.{◌≡◌, ◌∙◌, true, false, inl, inr, refl, sym, subst}
use Rattle.sqlite.specs.Held.{state}
use Rattle.life_store.specs.Layout.{first_schema, archive_schema}
use Rattle.life_store.specs.OpeningState.{has_some}
use Rattle.life_store.proofs.CrashLemmas.{crash_none}
use Rattle.life_store.proofs.CommitLemmas.{crash_as, made_of_none, made_of_some}
use Rattle.life_store.proofs.KeepLemmas.{healthy_from}
use Rattle.life_store.proofs.OpenLemmas.{stands_not, none_not, new_holds, first_own, second_own}
use Rattle.life_store.proofs.opening.prepare.Goals as goal

pub returns-in-Ok-clause-keeps : goal.returns-in-Ok-clause-keeps
returns-in-Ok-clause-keeps g c k healthy holds =
    absurd (stands_not c.schema.result.now archive_schema second_own (inl (refl, refl))
    (c.schema.ensures.value ∙ holds.schema) (sym c.has_some.ensures ∙ c.if-not-has_some.true))

pub returns-in-Ok-clause-carries : goal.returns-in-Ok-clause-carries
returns-in-Ok-clause-carries g c k healthy holds =
    absurd (stands_not c.schema.result.now first_schema first_own (inr (refl, refl))
    (c.schema.ensures.value ∙ holds.schema) (sym c.has_some.ensures ∙ c.if-not-has_some.true))

pub returns-in-Ok-clause-known : goal.returns-in-Ok-clause-known
returns-in-Ok-clause-known g c schema own versions known healthy have =
    absurd (stands_not c.schema.result.now schema own known (c.schema.ensures.value ∙ have.schema)
    (sym c.has_some.ensures ∙ c.if-not-has_some.true))

pub returns-in-Ok-clause-fresh : goal.returns-in-Ok-clause-fresh
returns-in-Ok-clause-fresh g c clean has_tables =
    let new = state g.S.Store c.create_tables.new.conn in
    let made = c.in-Ok.ensures.has_tables clean has_tables in
    (healthy_from new clean made.0, new_holds new made.3 made.1)

pub returns-in-Ok-clause-clean : goal.returns-in-Ok-clause-clean
returns-in-Ok-clause-clean g c = c.create_tables.ensures.clean

pub returns-in-Err-clause-clean : goal.returns-in-Err-clause-clean
returns-in-Err-clause-clean g c = c.create_tables.ensures.clean

pub returns-clause-keeps : goal.returns-clause-keeps
returns-clause-keeps g c = c.check_or_migrate.ensures.keeps

pub returns-clause-carries : goal.returns-clause-carries
returns-clause-carries g c = c.check_or_migrate.ensures.carries

pub returns-clause-fresh : goal.returns-clause-fresh
returns-clause-fresh g c clean has_tables =
    absurd (none_not c.schema.result.now (c.schema.ensures.value ∙ has_tables.is)
    (sym c.has_some.ensures ∙ c.if-not-has_some.false))

pub returns-clause-known : goal.returns-clause-known
returns-clause-known g c = c.check_or_migrate.ensures.known

pub returns-clause-ours : goal.returns-clause-ours
returns-clause-ours g c = c.check_or_migrate.ensures.ours

pub returns-clause-none : goal.returns-clause-none
returns-clause-none g c is =
    absurd (none_not c.schema.result.now (c.schema.ensures.value ∙ is)
    (sym c.has_some.ensures ∙ c.if-not-has_some.false))

pub returns-clause-fits : goal.returns-clause-fits
returns-clause-fits g c = c.check_or_migrate.ensures.fits

pub returns-clause-clean : goal.returns-clause-clean
returns-clause-clean g c = c.check_or_migrate.ensures.clean

pub returns-then-not-is_autocommit-clause-made : goal.returns-then-not-is_autocommit-clause-made
returns-then-not-is_autocommit-clause-made g c = crash_none c.args.conn.now.store

pub returns-in-Ok-clause-made : goal.returns-in-Ok-clause-made
returns-in-Ok-clause-made g c =
    crash_as c.args.conn.now.store c.create_tables.new.conn.store
    (λ clean db made. made_of_none (state g.S.Store c.args.conn.now) db
    (subst (λ s. has_some s ≡ false) c.schema.ensures.value (sym c.has_some.ensures ∙ c.if-not-has_some.true)) made)
    c.create_tables.ensures.crash

pub returns-in-Err-clause-made : goal.returns-in-Err-clause-made
returns-in-Err-clause-made g c =
    crash_as c.args.conn.now.store c.create_tables.new.conn.store
    (λ clean db made. made_of_none (state g.S.Store c.args.conn.now) db
    (subst (λ s. has_some s ≡ false) c.schema.ensures.value (sym c.has_some.ensures ∙ c.if-not-has_some.true)) made)
    c.create_tables.ensures.crash

pub returns-clause-made : goal.returns-clause-made
returns-clause-made g c =
    crash_as c.args.conn.now.store c.check_or_migrate.new.conn.store
    (λ clean db made. made_of_some (state g.S.Store c.args.conn.now) db
    (subst (λ s. has_some s ≡ true) c.schema.ensures.value (sym c.has_some.ensures ∙ c.if-not-has_some.false)) made)
    c.check_or_migrate.ensures.made

pub returns-clause-untouched : goal.returns-clause-untouched
returns-clause-untouched g c = c.check_or_migrate.ensures.untouched

pub returns-clause-still : goal.returns-clause-still
returns-clause-still g c = c.check_or_migrate.ensures.still
