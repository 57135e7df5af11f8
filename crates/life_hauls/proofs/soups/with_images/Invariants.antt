use Rattle.std.proofs.Common.{◌≡◌, ◌++◌, map, drop, Some}
use Rattle.std.specs.List.{All}
use Rattle.life_core.specs.Cell.{IsCellWithin}
use Rattle.life_hauls.specs.Soups.{mirrored, with_images}
use Rattle.life_hauls.proofs.soups.with_images.Given as goal

abbrev pub invariant-loop-cell : goal.invariant-loop-cell
invariant-loop-cell g l = record {
  cells : l.both.items ++ map (mirrored l.mirror) (drop l.cell-index l.cells) ≡ with_images (Some l.mirror) l.cells;
  inside : All (IsCellWithin 256) l.both.items;
}
