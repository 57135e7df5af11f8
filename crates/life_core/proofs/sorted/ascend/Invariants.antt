use Rattle.std.proofs.Common.{◌≡◌, ℕ, ◌+◌, ◌<◌, get_or}
use Rattle.std.specs.declared.cmp.Ordering.TheVariants.{Less}
use Rattle.life_core.specs.declared.cell.Cell.{Cell}
use Rattle.life_core.specs.Cell.{cell_cmp}
use Rattle.life_core.proofs.sorted.ascend.Given as goal

-- each cell before the index stands after the one before it
abbrev pub invariant-loop-i : goal.invariant-loop-i
invariant-loop-i l = (k : ℕ) (d : Cell) → k + 1 < l.i → cell_cmp (get_or l.cells k d) (get_or l.cells (k + 1) d) ≡ Less
