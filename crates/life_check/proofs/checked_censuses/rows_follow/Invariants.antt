use Rattle.std.proofs.Common.{◌≡◌, ◌+◌, map, take}
use Rattle.sqlite_trees.specs.View.{IsClean, StayLive}
use Rattle.life_census.specs.Rows.{row_seen}
use Rattle.life_store.specs.Stored.{rows_by, count_cells, tagged}
use Rattle.life_check.specs.WalkState.{IsCalm}
use Rattle.life_check.specs.CountState.{Takes}
use Rattle.life_check.proofs.checked_censuses.rows_follow.Given as goal

abbrev pub invariant-loop-counted : goal.invariant-loop-counted
invariant-loop-counted g l =
    StayLive (g.S.Store.view l.fn.store) (g.S.Store.view l.store) × IsCalm g.S.Store l.fn.store l.store
    × (l.at ≡ l.before + l.counted-index)
    × (IsClean (g.S.Store.view l.store) → Takes 1 (rows_by count_cells (l.before + 1)
    (tagged l.id (map row_seen (take l.counted-index l.rows)))) (g.S.Store.view l.fn.store) (g.S.Store.view l.store))
