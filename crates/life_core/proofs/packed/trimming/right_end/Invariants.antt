use Rattle.std.proofs.Common.{◌≡◌, ℕ, ◌+◌, ◌*◌, ◌<◌, ◌≤◌, get_or}
use Rattle.life_core.proofs.packed.trimming.right_end.Given as goal

abbrev pub invariant-loop-end : goal.invariant-loop-end
invariant-loop-end l = record {
  some : l.left < l.end;
  inside : l.end ≤ l.frame.words;
  dead : (y j : ℕ) → y < l.frame.height → l.end ≤ j → j < l.frame.words → get_or l.rows (y * l.frame.words + j) 0 ≡ 0;
}

abbrev pub decreases-loop-end : goal.decreases-loop-end
decreases-loop-end l = l.end
