use Rattle.std.proofs.Common.{◌≡◌, ◌-ℤ◌, ◌≤ℤ◌, ◌<ℤ◌, pos, false}
use Rattle.std.specs.FinSet as set
use Rattle.life_core.specs.declared.cell.Cell.{Cell}
use Rattle.life_core.specs.Runs.{cells_in}
use Rattle.life_census.specs.FloodState.{IsRound, HasGrown}
use Rattle.life_census.proofs.flood.take_near.Given as goal

abbrev pub invariant-loop-near : goal.invariant-loop-near
invariant-loop-near g l = record {
  low : (l.run.row -ℤ pos 2) ≤ℤ l.near;
  grown : HasGrown l.run l.fn.left l.fn.cluster.items l.left l.cluster.items;
  clear : (c : Cell) → IsRound l.run c → c.row <ℤ l.near → set.contains (cells_in l.left) c ≡ false;
}
