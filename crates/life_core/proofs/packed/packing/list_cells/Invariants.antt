use Rattle.std.proofs.Common.{◌≡◌, ◌-◌, ◌*◌, ◌≤◌, map, length}
use Rattle.life_core.specs.PackedFrameState.{cell_of, places_below}
use Rattle.life_core.proofs.packed.packing.list_cells.Given as goal

abbrev pub invariant-loop-k : goal.invariant-loop-k
invariant-loop-k g l = record {
  inside : l.k ≤ length l.rows;
  listed : l.cells ≡ map (cell_of l.frame.left l.frame.top (64 * l.frame.words)) (places_below l.rows (64 * l.k));
}

abbrev pub decreases-loop-k : goal.decreases-loop-k
decreases-loop-k g l = length l.rows - l.k
