use Rattle.std.proofs.Common.{◌≡◌, ℕ, ◌<◌, ◌≤◌, ◌-◌, length, get_or, pos, ◌-ℤ◌}
use Rattle.life_core.specs.declared.cell.Cell.{Cell}
use Rattle.life_core.specs.declared.runs.Run.{Run}
use Rattle.life_census.specs.FloodState.{IsRound, HasGrown}
use Rattle.life_core.specs.Runs.{IsInRun, IsAhead}
use Rattle.life_census.proofs.flood.take_row.Given as goal

abbrev pub invariant-loop-i : goal.invariant-loop-i
invariant-loop-i g l = record {
  low : l.i ≤ length l.left;
  grown : HasGrown l.fn.run l.fn.left l.fn.cluster.items l.left l.cluster.items;
  clear : (k : ℕ) (d : Run) (c : Cell) → k < l.i → IsRound l.fn.run c → c.row ≡ l.row
      → IsInRun (get_or l.left k d) c → ⊥;
  ahead : (k : ℕ) (d : Run) → l.i ≤ k → k < length l.left → IsAhead (get_or l.left k d) l.row (l.fn.run.first -ℤ pos 2);
}

abbrev pub decreases-loop-i : goal.decreases-loop-i
decreases-loop-i g l = length l.initial.left - l.i
