use Rattle.std.specs.Prelude.{◌≡◌, ℕ, ◌+◌, ◌-◌, ◌*◌, ◌<◌, ◌≤◌, slice_index_or}
use Rattle.life_core.specs.Rule.{RuleSets}
use Rattle.life_core.specs.PackedBlocksState.{flat_next, IsOutside}
use Rattle.life_core.specs.PackedMarksState.{KeepsMarks, IsAdvanced, block_at, mark_at}
use Rattle.life_core.proofs.packed.block_lines.advance_blocks.Given as goal

abbrev pub invariant-loop-b : goal.invariant-loop-b
invariant-loop-b g l = record {
  line : 1 ≤ l.line;
  from : mark_at l.columns l.line 0 ≤ l.b;
  to : l.b ≤ l.end;
  next_marks : KeepsMarks l.fn.next_marks l.next_marks;
  rest : (j : ℕ) → ((z c : ℕ) → 1 ≤ z → c < l.columns → mark_at l.columns z c < l.b
      → IsOutside 2 (block_at l.columns z c) (2 * l.columns) 16 j)
      → slice_index_or l.out j 0 ≡ slice_index_or l.fn.out j 0;
  blocks : (r : RuleSets) (z c : ℕ) → g.R.Evolves.is_of l.rule r → 1 ≤ z → z + 2 ≤ l.lines → c < l.columns
      → mark_at l.columns z c < l.b
      → IsAdvanced (flat_next r l.rows (64 * (2 * l.columns))) l.columns z c l.marks l.fn.out l.out l.next_marks;
}

abbrev pub decreases-loop-b : goal.decreases-loop-b
decreases-loop-b g l = l.end - l.b
