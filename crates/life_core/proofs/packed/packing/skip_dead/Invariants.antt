use Rattle.std.proofs.Common.{◌≡◌, ℕ, ◌-◌, ◌<◌, ◌≤◌, length, slice_index_or}
use Rattle.life_core.proofs.packed.packing.skip_dead.Given as goal

abbrev pub invariant-loop-next : goal.invariant-loop-next
invariant-loop-next l = record {
  from : l.k ≤ l.next;
  inside : l.next ≤ length l.rows;
  dead : (j : ℕ) → l.k ≤ j → j < l.next → slice_index_or l.rows j 0 ≡ 0;
}

abbrev pub decreases-loop-next : goal.decreases-loop-next
decreases-loop-next l = length l.rows - l.next
