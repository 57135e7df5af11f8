use Rattle.std.proofs.Common.{◌≡◌, ◌+◌, ◌*◌, ◌/◌, ◌^◌, ◌≤◌, map, get_or}
use Rattle.life_core.specs.PackedFrameState.{cell_of, places_below}
use Rattle.life_core.proofs.packed.packing.list_word.Given as goal

abbrev pub invariant-loop-left : goal.invariant-loop-left
invariant-loop-left g l =
    (l.i ≤ 64) × (l.left ≡ get_or l.rows l.k 0 / 2 ^ l.i) × (l.cells
    ≡ map (cell_of l.fn.frame.left l.fn.frame.top (64 * l.fn.frame.words)) (places_below l.rows (64 * l.k + l.i)))

abbrev pub decreases-loop-left : goal.decreases-loop-left
decreases-loop-left g l = l.left
