use Rattle.std.proofs.Common.{◌≡◌, ℕ, ◌<◌, pos, true}
use Rattle.std.specs.Int.{bit_at}
use Rattle.std.specs.FinSet as set
use Rattle.life_core.specs.Cell.{moved_cell}
use Rattle.life_core.specs.PackedFrameState.{framed}
use Rattle.life_core.proofs.packed.shifts.covers_word.Given as goal

abbrev pub invariant-loop-i : goal.invariant-loop-i
invariant-loop-i l =
    (i : ℕ) → i < l.i → bit_at l.word i ≡ 1
    → set.contains (framed l.to l.others) (moved_cell l.shift.0 l.shift.1 (moved_cell (pos i) (pos 0) l.start)) ≡ true
