use Rattle.std.proofs.Common.{◌<◌, List, length}
use Rattle.sqlite_value.specs.Order.{Row}
use Rattle.life_check.specs.WalkState.{IsCalm}
use Rattle.life_check.specs.Listed.{AreWrongThere}
use Rattle.life_check.proofs.listing.add_censuses.Given as goal

abbrev pub invariant-loop-id : goal.invariant-loop-id
invariant-loop-id g l =
    IsCalm g.S.Store l.fn.store l.store × (length l.errors.items < 100)
    × ((deposits : List Row) → AreWrongThere deposits l.fn.errors.items → AreWrongThere deposits l.errors.items)
