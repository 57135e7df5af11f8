use Rattle.std.proofs.Common.{◌≡◌, ℕ, ◌-◌, ◌<◌, ◌≤◌}
use Rattle.life_core.specs.PackedRow.{place}
use Rattle.life_core.proofs.packed.block_marks.next_mark.Given as goal

abbrev pub invariant-loop-j : goal.invariant-loop-j
invariant-loop-j l = record {
  from : l.from ≤ l.j;
  none : (m : ℕ) → l.from ≤ m → m < l.j → place l.marks m ≡ 0;
}

abbrev pub decreases-loop-j : goal.decreases-loop-j
decreases-loop-j l = l.to - l.j
