use Rattle.std.proofs.Common.{rules}
use Rattle.life_hauls.proofs.HaulRowLemmas.{new_row_at, old_row_at}
use Rattle.life_hauls.proofs.soup_counting.note.Goals as goal

pub returns-in_ok-seen-in-Ok : goal.returns-in_ok-seen-in-Ok
returns-in_ok-seen-in-Ok g c =
    old_row_at c.args.number c.args.rows.now.items c.deref.result.now c.args.code.now c.as_bytes.result.now
    c.deref.ensures.value c.as_bytes.ensures.bytes c.in-Ok.i c.index.result.now c.index_mut.result.now
    c.in_ok-seen-in-Ok.seen
    c.index.ensures c.index_mut.ensures.value c.in_ok-seen-in-Ok.ensures c.in-Ok.ensures.before c.in-Ok.ensures.here

pub returns-in_ok-insert-in-Err : goal.returns-in_ok-insert-in-Err
returns-in_ok-insert-in-Err g c =
    new_row_at c.args.number c.args.rows.now.items c.deref.result.now c.args.code.now c.as_bytes.result.now
    c.deref.ensures.value c.as_bytes.ensures.bytes c.in-Err.i c.insert.new.self.items c.in_ok-code-in-Err.code
    c.in_ok-seen-in-Err.seen
    c.requires c.in_ok-insert-in-Err.ensures.items
    (search rules) c.in_ok-seen-in-Err.ensures c.in-Err.ensures.before c.in-Err.ensures.here
