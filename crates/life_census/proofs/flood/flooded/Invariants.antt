use Rattle.std.proofs.Common.{◌≡◌, ◌+◌, ◌-◌, ◌≤◌, length, get_or, take, false}
use Rattle.std.specs.List.{All, count_by}
use Rattle.std.specs.FinSet as set
use Rattle.life_core.specs.declared.cell.Cell.{Cell}
use Rattle.life_core.specs.declared.runs.Run.{Run}
use Rattle.life_core.specs.Runs.{cells_in, first_cell}
use Rattle.life_census.specs.FloodState.{is_filled, IsFlood, IsRound, AreKept}
use Rattle.life_census.proofs.flood.flooded.Given as goal

abbrev pub invariant-loop-i : goal.invariant-loop-i
invariant-loop-i g l = record {
  low : l.i ≤ length l.cluster.items;
  kept : AreKept l.fn.left l.left;
  filled : All (λ r. 1 ≤ r.len) l.cluster.items;
  flood : (d : Run) → IsFlood (cells_in l.fn.left) (first_cell (get_or l.fn.left l.fn.start d))
      (cells_in l.cluster.items) (cells_in l.left);
  clear : All (λ r. (c : Cell) → IsRound r c → set.contains (cells_in l.left) c ≡ false) (take l.i l.cluster.items);
}

abbrev pub decreases-loop-i : goal.decreases-loop-i
decreases-loop-i g l = (count_by is_filled l.left + length l.cluster.items) - l.i
