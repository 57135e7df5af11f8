use Rattle.std.proofs.Common.{◌≡◌, ℕ, ◌+◌, ◌*◌, ◌<◌, slice_index_or}
use Rattle.life_core.proofs.packed.trimming.left_margin.Given as goal

abbrev pub invariant-loop-j : goal.invariant-loop-j
invariant-loop-j l = (y k : ℕ) → y < l.frame.height → k < l.j → slice_index_or l.rows (y * l.frame.words + k) 0 ≡ 0
