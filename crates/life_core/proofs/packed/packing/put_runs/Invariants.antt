use Rattle.std.proofs.Common.{◌≡◌, ◌||◌, take, length}
use Rattle.std.specs.FinSet as set
use Rattle.life_core.specs.declared.cell.Cell.{Cell}
use Rattle.life_core.specs.Runs.{runs_cells}
use Rattle.life_core.specs.PackedFrameState.{framed}
use Rattle.life_core.proofs.PatternMembers.{has_cell}
use Rattle.life_core.proofs.packed.packing.put_runs.Given as goal

abbrev pub invariant-loop-run : goal.invariant-loop-run
invariant-loop-run l = record {
  long : length l.rows ≡ length l.fn.rows;
  members : (c : Cell) → set.contains (framed l.frame l.rows) c
      ≡ (has_cell (runs_cells (take l.run-index l.runs)) c || set.contains (framed l.frame l.fn.rows) c);
}
