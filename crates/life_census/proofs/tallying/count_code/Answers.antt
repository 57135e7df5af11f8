use Rattle.std.proofs.Common.{◌+◌, ◌<◌, ◌^◌, length, refl, sym, subst, ◌∙◌, arith}
use Rattle.std.proofs.lemmas.Result.{IfOk-from_err}
use Rattle.life_census.specs.declared.tally_rows.Row.{Row}
use Rattle.life_census.proofs.RowsLaws.{new_row_at, old_row_at, new_row_bounded, old_row_bounded}
use Rattle.life_census.proofs.tallying.count_code.Goals as goal

pub index_mut-requires : goal.index_mut-requires
index_mut-requires g c = omega (arith, c.in-Ok.ensures.here.0, c.deref.ensures.len)

pub overflow_add-index_mut : goal.overflow_add-index_mut
overflow_add-index_mut g c =
    let low : c.in-Ok.i < length c.args.rows.now.items =
    omega (arith, c.in-Ok.ensures.here.0, c.deref.ensures.len, c.args.rows.now.ok) in
    let few : c.index_mut.result.now.count + 1 < 2 ^ 64 = subst (λ (r : Row g.row.A.Denot). r.count + 1 < 2 ^ 64)
    (sym c.index_mut.ensures.value) (c.requires c.in-Ok.i c.index_mut.result.now low) in
    record { fits = few }

pub from_slice-requires : goal.from_slice-requires
from_slice-requires g c = c.as_bytes-in-Err.ensures.plain

pub returns-in_err-code-in-Err-clause-counted : goal.returns-in_err-code-in-Err-clause-counted
returns-in_err-code-in-Err-clause-counted g c = IfOk-from_err c.from_residual.result _ c.from_residual.ensures.0

pub returns-in_err-code-in-Err-clause-bounded : goal.returns-in_err-code-in-Err-clause-bounded
returns-in_err-code-in-Err-clause-bounded g c = IfOk-from_err c.from_residual.result _ c.from_residual.ensures.0

pub insert-requires : goal.insert-requires
insert-requires g c = omega (arith, c.in-Err.ensures.here.0, c.deref.ensures.len)

pub returns-in_err-insert-in-Err-clause-counted : goal.returns-in_err-insert-in-Err-clause-counted
returns-in_err-insert-in-Err-clause-counted g c =
    IfOk-from_err c.from_residual-in_err-insert-in-Err.result _ c.from_residual-in_err-insert-in-Err.ensures.0

pub returns-in_err-insert-in-Err-clause-bounded : goal.returns-in_err-insert-in-Err-clause-bounded
returns-in_err-insert-in-Err-clause-bounded g c =
    IfOk-from_err c.from_residual-in_err-insert-in-Err.result _ c.from_residual-in_err-insert-in-Err.ensures.0

pub returns-in-Ok-clause-counted : goal.returns-in-Ok-clause-counted
returns-in-Ok-clause-counted g c =
    old_row_at c.args.rows.now.items c.deref.result.now c.args.code.now c.as_bytes.result.now
    c.in-Ok.i _ c.index_mut.result.now c.deref.ensures.value c.as_bytes.ensures.bytes c.index_mut.ensures.value
    refl c.in-Ok.ensures.before c.in-Ok.ensures.here

pub returns-in-Ok-clause-bounded : goal.returns-in-Ok-clause-bounded
returns-in-Ok-clause-bounded g c n few =
    let low : c.in-Ok.i < length c.args.rows.now.items =
    omega (arith, c.in-Ok.ensures.here.0, c.deref.ensures.len, c.args.rows.now.ok) in
    old_row_bounded c.args.rows.now.items c.in-Ok.i n _ c.index_mut.result.now low c.index_mut.ensures.value refl few

pub returns-in_ok-insert-in-Err-clause-counted : goal.returns-in_ok-insert-in-Err-clause-counted
returns-in_ok-insert-in-Err-clause-counted g c =
    new_row_at c.args.rows.now.items c.deref.result.now c.insert.new.self.items c.args.code.now c.as_bytes.result.now
    c.in-Err.i _ c.deref.ensures.value c.as_bytes.ensures.bytes c.in_ok-insert-in-Err.ensures.items
    (λ i. ((c.in_ok-code-in-Err.ensures ∙ c.as_bytes-in-Err.ensures.bytes) i, 1)) c.in-Err.ensures.before
    c.in-Err.ensures.here

pub returns-in_ok-insert-in-Err-clause-bounded : goal.returns-in_ok-insert-in-Err-clause-bounded
returns-in_ok-insert-in-Err-clause-bounded g c n few =
    new_row_bounded c.args.rows.now.items c.insert.new.self.items _ n _ c.in_ok-insert-in-Err.ensures.items refl few
