use Rattle.std.proofs.Common.{◌≡◌, ◌+◌, ℕ}
use Rattle.sqlite_trees.specs.View.{IsClean, StayLive}
use Rattle.life_check.specs.WalkState.{IsCalm}
use Rattle.life_check.specs.CountState.{TakesClusters}
use Rattle.life_check.proofs.checked_censuses.clusters_follow.Given as goal

abbrev pub invariant-loop-left : goal.invariant-loop-left
invariant-loop-left g l =
    StayLive (g.S.Store.view l.fn.store) (g.S.Store.view l.store) × IsCalm g.S.Store l.fn.store l.store
    × (taken : ℕ) × (taken + l.left ≡ l.clusters) × (IsClean (g.S.Store.view l.store)
    → TakesClusters l.id taken l.before l.at (g.S.Store.view l.fn.store) (g.S.Store.view l.store))

abbrev pub decreases-loop-left : goal.decreases-loop-left
decreases-loop-left g l = l.left
