use Rattle.std.proofs.Common.{rules, ◌≡◌, pos, true, false, sym, subst}
use Rattle.std.specs.Prelude.{IfOk}
use Rattle.sqlite_trees.specs.View.{Finds}
use Rattle.life_store.specs.Stored.{deposit_cells}
use Rattle.life_check.proofs.CountLemmas.{found_none, found_row, filed_at, each_ok}
use Rattle.life_check.proofs.checked_censuses.deposit_at.Goals as goal

pub returns-then-not-branch-clause-found : goal.returns-then-not-branch-clause-found
returns-then-not-branch-clause-found g c clean ds filed =
    let rows = (g.S.Store.view c.args.store.now).trees 1 in
    let found : c.in_ok-get.field-0 ≡ false = search rules in
    let gets = subst (λ b. Finds rows (pos c.args.id) c.get.new.row b) found
    (c.in_ok-get.ensures.ok c.args.id (search rules) clean) in
    sym (found_none deposit_cells c.args.id rows c.get.new.row ds filed.0 gets)

pub returns-clause-found : goal.returns-clause-found
returns-clause-found g c clean =
    let rows = (g.S.Store.view c.args.store.now).trees 1 in
    let found : c.in_ok-get.field-0 ≡ true = search rules in
    let gets = subst (λ b. Finds rows (pos c.args.id) c.get.new.row b) found
    (c.in_ok-get.ensures.ok c.args.id (search rules) clean) in
    each_ok (g.S.Store.view c.args.store.now).trees c.args.id c.deposit_of_row.result (λ ds filed.
    let it = found_row deposit_cells c.args.id rows c.get.new.row ds filed.0 gets in
    subst (λ x. IfOk c.deposit_of_row.result (λ o. o ≡ x)) (sym it.1)
    (c.deposit_of_row.ensures.value it.0 (filed_at ds c.args.id it.0 filed.1 it.1) it.2))
