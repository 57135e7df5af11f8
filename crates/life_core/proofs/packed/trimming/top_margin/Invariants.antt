use Rattle.std.proofs.Common.{◌≡◌, ℕ, ◌+◌, ◌*◌, ◌<◌, slice_index_or}
use Rattle.life_core.proofs.packed.trimming.top_margin.Given as goal

abbrev pub invariant-loop-y : goal.invariant-loop-y
invariant-loop-y l = (z j : ℕ) → z < l.y → j < l.frame.words → slice_index_or l.rows (z * l.frame.words + j) 0 ≡ 0
