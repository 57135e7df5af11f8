use Rattle.sqlite.specs.Held.{state}
use Rattle.std.proofs.Common.{◌≡◌, ◌∙◌, ap, Err}
use Rattle.life_store.specs.declared.store_fault.OpenFault.TheVariants.{NotOurs}
use Rattle.life_store.proofs.CommitLemmas.{crash_out}
use Rattle.life_store.proofs.KeepLemmas.{healthy_is, healthy_from, was_clean}
use Rattle.life_store.proofs.opening.prepared_archive.Goals as goal

pub returns-in-Ok-clause-fresh : goal.returns-in-Ok-clause-fresh
returns-in-Ok-clause-fresh g c healthy has_tables =
    (c.in-Ok.ensures.fresh (healthy_is (state g.S.Store c.prepare.new.conn) healthy).0 has_tables).1

pub returns-in-Ok-clause-clean : goal.returns-in-Ok-clause-clean
returns-in-Ok-clause-clean g c healthy =
    was_clean (state g.S.Store c.args.conn) (state g.S.Store c.prepare.new.conn) c.prepare.ensures.clean healthy

pub returns-in-Err-NotOurs-clause-ours : goal.returns-in-Err-NotOurs-clause-ours
returns-in-Err-NotOurs-clause-ours g c clean is_open =
    let old = state g.S.Store c.args.conn in
    let new = state g.S.Store c.prepare.new.conn in
    let healthy = healthy_from new clean is_open in
    let same : c.prepare.result ≡ Err NotOurs = c.in-Err-NotOurs.is ∙ ap Err c.in-Err-NotOurs.field-0-is in (
      was_clean old new c.prepare.ensures.clean healthy,
      λ schema own known have. c.prepare.ensures.ours schema own known healthy have same,
    )

pub returns-in-Err-NotOurs-clause-untouched : goal.returns-in-Err-NotOurs-clause-untouched
returns-in-Err-NotOurs-clause-untouched g c =
    c.prepare.ensures.untouched (c.in-Err-NotOurs.is ∙ ap Err c.in-Err-NotOurs.field-0-is)

pub returns-in-Err-NotOurs-clause-still : goal.returns-in-Err-NotOurs-clause-still
returns-in-Err-NotOurs-clause-still g c clean up =
    c.prepare.ensures.still clean (c.in-Err-NotOurs.is ∙ ap Err c.in-Err-NotOurs.field-0-is) up

pub returns-in-Err-clause-made : goal.returns-in-Err-clause-made
returns-in-Err-clause-made g c =
    crash_out c.args.conn.store c.prepare.new.conn.store c.into_store.result c.prepare.ensures.made
    c.into_store.ensures.quiet
