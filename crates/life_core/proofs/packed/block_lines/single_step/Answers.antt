use Rattle.std.proofs.Common.{◌*◌}
use Rattle.life_core.specs.PackedBlocksState.{flat_next}
use Rattle.life_core.proofs.BlockLines.{stepped_block}
use Rattle.life_core.proofs.packed.block_lines.single_step.Goals as goal

pub returns-clause-block : goal.returns-clause-block
returns-clause-block g c r is =
    let block = c.block_step-changes.ensures.block r is in
    let ch = c.block_step-changes.result in
    stepped_block (flat_next r c.args.rows.now (64 * (2 * c.args.columns))) c.args.columns
    c.args.line c.args.column c.args.out.now c.block_step-changes.new.out
    ch.all ch.top ch.bottom c.mark_neighbours.new.marks
    block.all.next block.all.same block.top block.bottom
    (λ i p narrow. c.mark_neighbours.ensures.marked i p narrow)
