use Rattle.std.specs.Prelude.{IsSome}
use Rattle.life_check.specs.WalkState.{IsCalm}
use Rattle.life_check.proofs.listing.place_before.Given as goal

abbrev pub invariant-rows : goal.invariant-rows
invariant-rows g l = IsSome ((g.S.Store.view l.store).cursors 1) × IsCalm g.S.Store l.fn.store l.store
