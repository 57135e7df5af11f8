use Rattle.std.proofs.Common.{◌≡◌, ℕ, ◌+◌, ◌*◌, ◌<◌, ◌≤◌}
use Rattle.life_core.specs.PackedRow.{place}
use Rattle.life_core.proofs.packed.margins.rows_are_dead.Given as goal

abbrev pub invariant-loop-y : goal.invariant-loop-y
invariant-loop-y l =
    (x z : ℕ) → l.from ≤ z → z < l.y → x < 64 * l.frame.words → place l.rows (z * (64 * l.frame.words) + x) ≡ 0
