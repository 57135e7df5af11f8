use Rattle.sqlite.specs.Files.{file_state}
use Rattle.life_store.specs.Tables.{tables_of}
use Rattle.life_store.proofs.OpenedLemmas.{made_by_store, made_by_close, made_by_refusal}
use Rattle.life_store.proofs.opening.archive_over.Goals as goal

pub returns-in-Ok-close-clause-ours : goal.returns-in-Ok-close-clause-ours
returns-in-Ok-close-clause-ours g c clean is =
    let copied = c.in-Ok-close.ensures.copied clean in
    (rw c.in-Err-default-Ok.field-0-1-is at c.in-Err-default-Ok.ensures.ours) copied.was_clean copied.was_open

pub returns-in-Err-default-Err-clause-made : goal.returns-in-Err-default-Err-clause-made
returns-in-Err-default-Err-clause-made g c clean =
    let it = made_by_store (tables_of (file_state c.args.conn)) c.args.conn.store c.in-Err-default-Err.store
    c.close.result c.close.ensures
    (rw c.in-Err-default-Err.field-0-1-is at c.in-Err-default-Err.ensures.made)
    (rw c.in-Err-default-Err.field-0-1-is at c.in-Err-default-Err.ensures.numbered)
    (rw c.in-Err-default-Err.field-0-1-is at c.in-Err-default-Err.ensures.sound) clean in
    (it.0, λ up. it.1)

pub returns-in-Ok-close-clause-made : goal.returns-in-Ok-close-clause-made
returns-in-Ok-close-clause-made g c clean =
    let it = made_by_close (tables_of (file_state c.args.conn)) c.args.conn.store
    c.in-Err-default-Ok.left c.in-Ok-close.files g.met.D.Disk.seen_may_stay
    (rw c.in-Err-default-Ok.field-0-1-is at c.in-Err-default-Ok.ensures.untouched) c.in-Ok-close.ensures.copied clean in
    (it.0, λ up. it.1)

pub returns-in-Err-clause-made : goal.returns-in-Err-clause-made
returns-in-Err-clause-made g c clean =
    made_by_refusal (tables_of (file_state c.args.conn)) c.args.conn.store c.in-Err-default-Ok.left.store c.in-Err.files
    (rw c.in-Err-default-Ok.field-0-1-is at c.in-Err-default-Ok.ensures.untouched) c.in-Err.ensures.refused
    (λ none up.
    let still = (rw c.in-Err-default-Ok.field-0-1-is at c.in-Err-default-Ok.ensures.still) none up in
    ((rw c.in-Err-default-Ok.field-0-1-is at c.in-Err-default-Ok.ensures.ours) none still).1) clean
