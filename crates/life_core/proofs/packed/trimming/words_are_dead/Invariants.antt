use Rattle.std.proofs.Common.{◌≡◌, ℕ, ◌+◌, ◌*◌, ◌<◌, slice_index_or}
use Rattle.life_core.proofs.packed.trimming.words_are_dead.Given as goal

abbrev pub invariant-loop-y : goal.invariant-loop-y
invariant-loop-y l = (z : ℕ) → z < l.y → slice_index_or l.rows (z * l.frame.words + l.j) 0 ≡ 0
