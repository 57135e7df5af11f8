use Rattle.std.proofs.Common.{◌≡◌, ℕ, ◌+◌, ◌*◌, ◌<◌, get_or, length}
use Rattle.life_core.proofs.packed.trimming.copy_part.Given as goal

abbrev pub invariant-loop-y : goal.invariant-loop-y
invariant-loop-y l = record {
  long : length l.out ≡ length l.fn.out;
  copied : (z j : ℕ) → z < l.y → j < l.to.frame.words
      → get_or l.rows ((l.to.top + z) * l.frame.words + (l.to.left + j)) 0 ≡ get_or l.out (z * l.to.frame.words + j) 0;
}
