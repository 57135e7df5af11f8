use Rattle.std.proofs.Common.{◌≡◌, ℕ, ◌+◌, ◌*◌, ◌<◌, ◌≤◌, get_or}
use Rattle.life_core.proofs.packed.trimming.bottom_end.Given as goal

abbrev pub invariant-loop-end : goal.invariant-loop-end
invariant-loop-end l = record {
  some : l.top < l.end;
  inside : l.end ≤ l.frame.height;
  dead : (y j : ℕ) → l.end ≤ y → y < l.frame.height → j < l.frame.words → get_or l.rows (y * l.frame.words + j) 0 ≡ 0;
}

abbrev pub decreases-loop-end : goal.decreases-loop-end
decreases-loop-end l = l.end
