use Rattle.std.specs.Prelude.{ℕ, ◌≡◌, ◌+◌, ◌*◌, ◌<◌}
use Rattle.std.specs.Int.{bit_at}
use Rattle.life_core.specs.PackedRow.{place}
use Rattle.life_core.proofs.packed.margins.column_is_dead.Given as goal

abbrev pub invariant-loop-y : goal.invariant-loop-y
invariant-loop-y l = (z i : ℕ) → z < l.y → i < 64 → bit_at l.all i ≡ 0
    → place l.rows (z * (64 * l.frame.words) + (64 * l.j + i)) ≡ 0
