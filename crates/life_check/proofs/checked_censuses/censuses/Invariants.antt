use Rattle.std.specs.Prelude.{List, IsSome}
use Rattle.sqlite_trees.specs.View.{IsClean}
use Rattle.life_store.specs.declared.kept.Deposit.{Deposit}
use Rattle.life_check.specs.WalkState.{IsCalm}
use Rattle.life_check.specs.CountState.{AreFiled, AreTallied, AwaitsRest, HasCounted, IsKnown, IsInsideSquare}
use Rattle.life_check.proofs.checked_censuses.censuses.Given as goal

abbrev pub invariant-loop-count : goal.invariant-loop-count
invariant-loop-count g l =
    IsSome ((g.S.Store.view l.store).cursors 0) × IsSome ((g.S.Store.view l.store).cursors 1)
    × IsSome ((g.S.Store.view l.store).cursors 2) × IsCalm g.S.Store l.fn.store l.store
    × (IsClean (g.S.Store.view l.store) → (ds : List Deposit) → AreFiled (g.S.Store.view l.fn.store).trees ds
    → HasCounted l.quick ds l.count l.read (g.S.Store.view l.fn.store) (g.S.Store.view l.store))
    × (IsClean (g.S.Store.view l.store) → (ds : List Deposit) → AreFiled (g.S.Store.view l.fn.store).trees ds
    → AreTallied (g.S.Store.view l.fn.store).trees ds → AwaitsRest ds l.count l.read (g.S.Store.view l.store))
    × (IsClean (g.S.Store.view l.store) → IsKnown (g.S.Store.view l.store) l.last) × IsInsideSquare l.last
