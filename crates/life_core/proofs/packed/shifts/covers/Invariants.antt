use Rattle.std.proofs.Common.{ℕ, ◌+◌, ◌*◌, ◌<◌, ◌≤◌, length, get_or}
use Rattle.life_core.specs.PackedFrameState.{framed, cell_of}
use Rattle.life_core.specs.PackedShiftsState.{CoversWord}
use Rattle.life_core.proofs.packed.shifts.covers.Given as goal

abbrev pub invariant-loop-passed : goal.invariant-loop-passed
invariant-loop-passed l =
    (k : ℕ) → k < length l.rows → length l.rows ≤ k + l.passed → CoversWord
    (cell_of l.frame.left l.frame.top (64 * l.frame.words) (64 * k)) (get_or l.rows k 0) (framed l.to l.others) l.shift
