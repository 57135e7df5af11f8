use Rattle.std.proofs.Common.{ℕ, ◌+◌, ◌*◌, sym, ◌∙◌}
use Rattle.life_core.specs.declared.cell.Cell.{Cell}
use Rattle.life_core.specs.PackedFrameState.{cell_of}
use Rattle.life_core.proofs.PackedCells.{none_up_to}
use Rattle.life_core.proofs.packed.packing.list_cells.Goals as goal

pub loop-k-init : goal.loop-k-init
loop-k-init g c =
    let F : ℕ → Cell = cell_of c.args.frame.left c.args.frame.top (64 * c.args.frame.words) in
    let next = c.next_word-k.ensures in
    record {
      inside = next.inside;
      listed = c.new-cells.ensures ∙ sym (none_up_to F c.args.rows.now 0 c.next_word-k.result next.after next.dead);
    }

pub loop-k-preserved : goal.loop-k-preserved
loop-k-preserved g c =
    let F : ℕ → Cell = cell_of c.args.frame.left c.args.frame.top (64 * c.args.frame.words) in
    let next = c.next_word-k-in-loop-k.ensures in
    record {
      inside = next.inside;
      listed =
          c.in_ok-list_word.ensures
          ∙ sym (none_up_to F c.args.rows.now (c.loop-k.k + 1) c.next_word-k-in-loop-k.result next.after next.dead);
    }
