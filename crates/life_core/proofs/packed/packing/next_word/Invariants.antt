use Rattle.std.proofs.Common.{ℕ, ◌≡◌, ◌≤◌, ◌<◌, slice_index_or}
use Rattle.life_core.proofs.packed.packing.next_word.Given as goal

abbrev pub invariant-loop-j : goal.invariant-loop-j
invariant-loop-j l = (m : ℕ) → l.k ≤ m → m < l.j → slice_index_or l.rows m 0 ≡ 0
