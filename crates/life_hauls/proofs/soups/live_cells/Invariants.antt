use Rattle.std.proofs.Common.{◌≡◌}
use Rattle.std.specs.List.{All}
use Rattle.life_core.specs.Cell.{IsCellWithin}
use Rattle.life_hauls.specs.Soups.{live_cells}
use Rattle.life_hauls.proofs.soups.live_cells.Given as goal

abbrev pub invariant-loop-index : goal.invariant-loop-index
invariant-loop-index g l = record {
  cells : l.cells.items ≡ live_cells l.width l.digest l.index;
  inside : All (IsCellWithin 255) l.cells.items;
}
