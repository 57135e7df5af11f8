use Rattle.std.proofs.Common.{rules, ◌≡◌, ◌∙◌, ◌+◌, None, true, false, IsTrue, arith, sym, subst}
use Rattle.sqlite_trees.specs.View.{Advances}
use Rattle.life_store.specs.declared.kept.Deposit.{Deposit}
use Rattle.life_store.specs.Stored.{IsFiled, deposit_cells}
use Rattle.life_check.specs.ReadState.{deposit_row, AreNames, IsNamed}
use Rattle.life_check.proofs.WalkLemmas.{calm_then, some_is, no_both, walk_more, walk_wrong}
use Rattle.life_check.proofs.checked_deposits.deposits.Goals as goal

pub returns-in_default-clause-finds : goal.returns-in_default-clause-finds
returns-in_default-clause-finds g c clean =
    let found : c.in_ok-next.field-0 ≡ true = search rules in
    let goes = subst (Advances (g.S.Store.view c.loop-count.store) (g.S.Store.view c.next.new.store) 0 c.next.new.row)
    found (c.in_ok-next.ensures.ok clean) in
    let before = c.loop-count.invariant.2 (omega (arith, c.next.ensures.calm.clean, clean)) in
    let none : c.in_ok-deposit.field-0 ≡ None = search rules in
    walk_wrong deposit_cells IsNamed IsFiled 0 1 c.loop-count.count _ _ _ c.next.new.row before goes
    (λ it. c.in_ok-deposit.ensures.none none it)

pub returns-then-not-are_valid_names-clause-finds : goal.returns-then-not-are_valid_names-clause-finds
returns-then-not-are_valid_names-clause-finds g c clean =
    let found : c.in_ok-next.field-0 ≡ true = search rules in
    let goes = subst (Advances (g.S.Store.view c.loop-count.store) (g.S.Store.view c.next.new.store) 0 c.next.new.row)
    found (c.in_ok-next.ensures.ok clean) in
    let before = c.loop-count.invariant.2 (omega (arith, c.next.ensures.calm.clean, clean)) in
    let other : c.are_valid_names.result ≡ false = search rules in
    walk_wrong deposit_cells IsNamed IsNamed 0 1 c.loop-count.count _ _ _ c.next.new.row before goes
    (λ it.
    let same : c.in-Some.deposit ≡ it.0 =
    some_is _ _ (sym c.in-Some.is ∙ c.in_ok-deposit.ensures.value it.0 it.1.filed it.2) in
    let named : AreNames c.in-Some.deposit.member c.in-Some.deposit.token =
    subst (λ (d : Deposit). AreNames d.member d.token) (sym same) it.1.named in
    no_both c.are_valid_names.result (c.are_valid_names.ensures.1 named) other)

pub loop-count-preserved : goal.loop-count-preserved
loop-count-preserved g c = (
  search rules,
  calm_then g.S.Store c.args.store.now c.loop-count.store c.next.new.store c.loop-count.invariant.1 c.next.ensures.calm,
  λ clean.
      let found : c.in_ok-next.field-0 ≡ true = search rules in
      let goes = subst (Advances (g.S.Store.view c.loop-count.store) (g.S.Store.view c.next.new.store) 0 c.next.new.row)
      found (c.in_ok-next.ensures.ok clean) in
      let before = c.loop-count.invariant.2 (omega (arith, c.next.ensures.calm.clean, clean)) in
      let it : IsFiled c.in-Some.deposit
      × (c.next.new.row ≡ deposit_row (c.loop-count.count + 1) c.in-Some.deposit) = search rules in
      let well : IsTrue c.are_valid_names.result = search rules in
      walk_more deposit_cells IsNamed 0 1 c.loop-count.count _ _ _ c.next.new.row c.in-Some.deposit before goes
      (record { filed = it.0; named = c.are_valid_names.ensures.0 well }) it.1,
)
