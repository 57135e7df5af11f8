use Rattle.std.proofs.Common.{◌≡◌, ℕ, ◌+◌, ◌*◌, ◌<◌, ◌≤◌, get_or, length}
use Rattle.std.specs.Prelude.{◌⊎◌}
use Rattle.life_core.proofs.packed.packing.copy_rows.Given as goal

abbrev pub invariant-loop-y : goal.invariant-loop-y
invariant-loop-y l = record {
  long : length l.out ≡ length l.fn.out;
  copied : (z j : ℕ) → z < l.y → j < l.from.words
      → get_or l.out ((l.to.top + z) * l.to.frame.words + (l.to.left + j)) 0 ≡ get_or l.rows (z * l.from.words + j) 0;
  dead : (z j : ℕ) → z < l.to.frame.height → j < l.to.frame.words → ((z < l.to.top) ⊎ (l.to.top + l.y ≤ z))
      ⊎ ((j < l.to.left) ⊎ (l.to.left + l.from.words ≤ j)) → get_or l.out (z * l.to.frame.words + j) 0 ≡ 0;
}
