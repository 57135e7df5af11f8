use Rattle.std.proofs.Common.{◌≡◌, refl, sym, subst, arith}
use Rattle.std.specs.Prelude.{IsSome}
use Rattle.sqlite_trees.specs.View.{IsClean}
use Rattle.life_check.specs.Listed.{AreWrongThere}
use Rattle.life_check.proofs.listing.add_further.Goals as goal
use Rattle.life_check.proofs.listing.add_further.Goals.{in-Some+in_ok-add_deposits, in_default}

pub returns-clause-wrong : goal.returns-clause-wrong
returns-clause-wrong g c = λ deposits clean same all.
    let rows = (g.S.Store.view c.args.store.now).trees 1 in
    let clean_1 : IsClean (g.S.Store.view c.match-deposits_after.store) =
    omega (arith, c.add_censuses.ensures.calm.clean, clean) in
    let before : AreWrongThere deposits c.match-deposits_after.errors.items = elim c.match-deposits_after.branch [
      | in-Some+in_ok-add_deposits w ↦
          let there : rows ≡ deposits = same (c.deposits_after.ensures (subst IsSome (sym w.in-Some.is) refl)) in
          let clean_2 : IsClean (g.S.Store.view w.add_deposits.new.store) =
          subst (λ s. IsClean (g.S.Store.view s)) w.store-is clean_1 in
          let listed = w.add_deposits.ensures.wrong clean_2
          (subst (λ them. AreWrongThere them c.args.errors.now.items) (sym there) all) in
          subst (λ e. AreWrongThere deposits e.items) (sym w.errors-is)
          (subst (λ them. AreWrongThere them w.add_deposits.new.errors.items) there listed)
      | in_default w ↦ subst (λ e. AreWrongThere deposits e.items) (sym w.errors-is) all
    ] in
    c.add_censuses.ensures.wrong deposits before
