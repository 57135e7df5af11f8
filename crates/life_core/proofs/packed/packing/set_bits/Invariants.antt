use Rattle.std.proofs.Common.{◌≡◌, ◌⊎◌, ℕ, ◌+◌, ◌-◌, ◌<◌, ◌≤◌, length}
use Rattle.life_core.specs.PackedRow.{place}
use Rattle.life_core.proofs.packed.packing.set_bits.Given as goal

abbrev pub invariant-loop-next : goal.invariant-loop-next
invariant-loop-next l = record {
  from : l.from ≤ l.next;
  to : l.next ≤ l.from + l.len;
  long : length l.rows ≡ length l.fn.rows;
  inside : (p : ℕ) → l.from ≤ p → p < l.next → place l.rows p ≡ 1;
  outside : (p : ℕ) → (p < l.from) ⊎ (l.next ≤ p) → place l.rows p ≡ place l.fn.rows p;
}

abbrev pub decreases-loop-next : goal.decreases-loop-next
decreases-loop-next l = l.from + l.len - l.next
