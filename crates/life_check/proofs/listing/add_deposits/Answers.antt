use Rattle.std.proofs.Common.{rules, ◌<◌, ◌∙◌, length, arith, subst}
use Rattle.std.specs.Prelude.{IfSome}
use Rattle.sqlite_trees.specs.Tree.{Trees}
use Rattle.sqlite_trees.specs.View.{IsClean}
use Rattle.life_check.specs.Listed.{IsWrongThere}
use Rattle.life_check.proofs.WalkLemmas.{calm_then}
use Rattle.life_check.proofs.listing.add_deposits.Goals as goal

pub loop-id-preserved : goal.loop-id-preserved
loop-id-preserved g c =
    let few : length c.add.new.errors.items < 100 = search rules in (
      calm_then g.S.Store c.args.store.now c.loop-id.store c.deposit_error.new.store c.loop-id.invariant.0
          c.deposit_error.ensures.calm,
      few,
      λ clean.
          let clean_1 : IsClean (g.S.Store.view c.loop-id.store) =
          omega (arith, c.deposit_error.ensures.calm.clean, clean) in
          let before = c.loop-id.invariant.2 clean_1 in
          let wrong = subst (λ (t : Trees). IfSome c.in_ok-error.error (IsWrongThere (t 1))) before.0
          (c.in_ok-error.ensures.wrong clean) in (
            c.in_ok-error.ensures.keeps clean ∙ before.0,
            λ all. c.add.ensures.wrong ((g.S.Store.view c.args.store.now).trees 1) (before.1 all) wrong,
          ),
    )

pub returns-then-len-clause-wrong : goal.returns-then-len-clause-wrong
returns-then-len-clause-wrong g c = λ clean all. (c.loop-id.invariant.2 clean).1 all

pub returns-clause-wrong : goal.returns-clause-wrong
returns-clause-wrong g c = λ clean all. (c.loop-id.invariant.2 clean).1 all

-- the row could not be read
pub returns-in_err-error-clause-wrong : goal.returns-in_err-error-clause-wrong
returns-in_err-error-clause-wrong g c = λ clean all.
    let clean_1 : IsClean (g.S.Store.view c.loop-id.store) = omega (arith, c.deposit_error.ensures.calm.clean, clean) in
    (c.loop-id.invariant.2 clean_1).1 all

pub returns-in_err-error-clause-calm : goal.returns-in_err-error-clause-calm
returns-in_err-error-clause-calm g c =
    calm_then g.S.Store c.args.store.now c.loop-id.store c.deposit_error.new.store c.loop-id.invariant.0
    c.deposit_error.ensures.calm

-- there was no memory for the error
pub returns-in_err-add-clause-wrong : goal.returns-in_err-add-clause-wrong
returns-in_err-add-clause-wrong g c = λ clean all.
    let clean_1 : IsClean (g.S.Store.view c.loop-id.store) = omega (arith, c.deposit_error.ensures.calm.clean, clean) in
    let before = c.loop-id.invariant.2 clean_1 in
    let wrong = subst (λ (t : Trees). IfSome c.in_ok-error.error (IsWrongThere (t 1))) before.0
    (c.in_ok-error.ensures.wrong clean) in
    c.add.ensures.wrong ((g.S.Store.view c.args.store.now).trees 1) (before.1 all) wrong

pub returns-in_err-add-clause-calm : goal.returns-in_err-add-clause-calm
returns-in_err-add-clause-calm g c =
    calm_then g.S.Store c.args.store.now c.loop-id.store c.deposit_error.new.store c.loop-id.invariant.0
    c.deposit_error.ensures.calm
