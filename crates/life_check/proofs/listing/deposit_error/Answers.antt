use Rattle.std.proofs.Common.{rules, ◌≡◌, ◌∙◌, pos, None, true, false, sym, subst}
use Rattle.sqlite_trees.specs.View.{Finds}
use Rattle.life_store.specs.declared.kept.Deposit.{Deposit}
use Rattle.life_check.specs.ReadState.{deposit_row, AreNames}
use Rattle.life_check.proofs.WalkLemmas.{some_is, no_both}
use Rattle.life_check.proofs.ListedLemmas.{none_there, row_there}
use Rattle.life_check.proofs.listing.deposit_error.Goals as goal

pub returns-then-not-branch-clause-wrong : goal.returns-then-not-branch-clause-wrong
returns-then-not-branch-clause-wrong g c clean d filed there =
    let rows = (g.S.Store.view c.args.store.now).trees 1 in
    let found : c.in_ok-get.field-0 ≡ false = search rules in
    let gets = subst (λ b. Finds rows (pos c.args.id) c.get.new.row b) found
    (c.in_ok-get.ensures.ok c.args.id (search rules) clean) in
    none_there rows (pos c.args.id) c.get.new.row (deposit_row c.args.id d) gets there

pub returns-in_default-2-clause-wrong : goal.returns-in_default-2-clause-wrong
returns-in_default-2-clause-wrong g c clean d filed there =
    let rows = (g.S.Store.view c.args.store.now).trees 1 in
    let found : c.in_ok-get.field-0 ≡ true = search rules in
    let gets = subst (λ b. Finds rows (pos c.args.id) c.get.new.row b) found
    (c.in_ok-get.ensures.ok c.args.id (search rules) clean) in
    let none : c.in_ok-deposit.field-0 ≡ None = search rules in
    c.in_ok-deposit.ensures.none none
    (d, filed, row_there rows (pos c.args.id) c.get.new.row (deposit_row c.args.id d) gets there)

pub returns-clause-wrong : goal.returns-clause-wrong
returns-clause-wrong g c clean d named there =
    let rows = (g.S.Store.view c.args.store.now).trees 1 in
    let found : c.in_ok-get.field-0 ≡ true = search rules in
    let gets = subst (λ b. Finds rows (pos c.args.id) c.get.new.row b) found
    (c.in_ok-get.ensures.ok c.args.id (search rules) clean) in
    let same = row_there rows (pos c.args.id) c.get.new.row (deposit_row c.args.id d) gets there in
    let is : c.in-Some.deposit ≡ d =
    some_is _ _ (sym c.in-Some.is ∙ c.in_ok-deposit.ensures.value d named.filed same) in
    let names : AreNames c.in-Some.deposit.member c.in-Some.deposit.token =
    subst (λ (x : Deposit). AreNames x.member x.token) (sym is) named.named in
    let other : c.are_valid_names.result ≡ false = search rules in
    no_both c.are_valid_names.result (c.are_valid_names.ensures.1 names) other
