use Rattle.std.specs.Prelude.{IsSome}
use Rattle.sqlite_trees.specs.View.{IsClean}
use Rattle.life_store.specs.Stored.{deposit_cells}
use Rattle.life_check.specs.ReadState.{IsNamed}
use Rattle.life_check.specs.WalkState.{IsCalm, HasWalked}
use Rattle.life_check.proofs.checked_deposits.deposits.Given as goal

abbrev pub invariant-loop-count : goal.invariant-loop-count
invariant-loop-count g l =
    IsSome ((g.S.Store.view l.store).cursors 0) × IsCalm g.S.Store l.fn.store l.store
    × (IsClean (g.S.Store.view l.store)
    → HasWalked deposit_cells IsNamed 0 1 l.count (g.S.Store.view l.fn.store) (g.S.Store.view l.store))
