use Rattle.std.proofs.Common.{pos, arith}
use Rattle.std.proofs.lemmas.Map.Keys.{sorted_from_all_adjacent}
use Rattle.life_core.specs.declared.cell.Cell.{Cell}
use Rattle.life_core.proofs.PatternMembers.{cell_cmp_total}
use Rattle.life_core.proofs.sorted.ascend.Goals as goal

pub returns : goal.returns
returns c t =
    let none : Cell = record { row = pos 0; column = pos 0 } in
    sorted_from_all_adjacent cell_cmp_total c.args.cells.now none
    (λ k below. c.loop-i.invariant k none (omega (arith, below, c.loop-i-test.false)))
