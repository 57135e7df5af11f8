use Rattle.std.proofs.Common.{◌≡◌, ◌∷◌, take}
use Rattle.std.specs.List.{flat_map}
use Rattle.life_core.specs.Cell.{around}
use Rattle.life_core.proofs.cell_list.with_neighbours.Given as goal

abbrev pub invariant-loop-cell : goal.invariant-loop-cell
invariant-loop-cell g l = l.blocks.items ≡ flat_map (λ c. c ∷ around c) (take l.cell-index l.cells)
