use Rattle.std.proofs.Common.{ℕ, ◌+◌, ◌-◌, ◌/◌, ◌<◌, ◌≤◌}
use Rattle.life_core.specs.PackedMarksState.{IsMarked, KeepsMarks, mark_at}
use Rattle.life_core.proofs.packed.packed_rows.copy_marks.Given as goal

abbrev pub invariant-loop-b : goal.invariant-loop-b
invariant-loop-b l = record {
  from : 1 ≤ l.b;
  to : l.b ≤ l.end;
  kept : KeepsMarks l.fn.out l.out;
  moved : (z c : ℕ) → 1 ≤ z → c < l.columns → mark_at l.columns z c < l.b → IsMarked l.marks (mark_at l.columns z c)
      → IsMarked l.out (mark_at (l.to.frame.words / 2) (l.to.top / 16 + z) (l.to.left / 2 + c));
}

abbrev pub decreases-loop-b : goal.decreases-loop-b
decreases-loop-b l = l.end - l.b
