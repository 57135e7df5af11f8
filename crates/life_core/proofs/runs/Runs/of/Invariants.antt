use Rattle.std.proofs.Common.{◌≡◌, take}
use Rattle.life_core.proofs.runs.Runs.of.Given as goal

abbrev pub invariant-loop-cell : goal.invariant-loop-cell
invariant-loop-cell g l = l.runs ≡ take l.cell-index l.cells
