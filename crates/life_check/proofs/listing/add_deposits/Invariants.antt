use Rattle.std.proofs.Common.{◌≡◌, ◌<◌, length}
use Rattle.sqlite_trees.specs.View.{IsClean}
use Rattle.life_check.specs.WalkState.{IsCalm}
use Rattle.life_check.specs.Listed.{AreWrongThere}
use Rattle.life_check.proofs.listing.add_deposits.Given as goal

abbrev pub invariant-loop-id : goal.invariant-loop-id
invariant-loop-id g l =
    IsCalm g.S.Store l.fn.store l.store × (length l.errors.items < 100)
    × (IsClean (g.S.Store.view l.store) → ((g.S.Store.view l.store).trees ≡ (g.S.Store.view l.fn.store).trees)
    × (AreWrongThere ((g.S.Store.view l.fn.store).trees 1) l.fn.errors.items
    → AreWrongThere ((g.S.Store.view l.fn.store).trees 1) l.errors.items))
