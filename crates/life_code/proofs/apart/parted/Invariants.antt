use Rattle.std.proofs.Common.{take}
use Rattle.life_code.specs.ApartState.{AreParted}
use Rattle.life_code.proofs.apart.parted.Given as goal

abbrev pub invariant-loop-cell : goal.invariant-loop-cell
invariant-loop-cell g l = AreParted (take l.cell-index l.cells) l.inside.items l.outside.items
