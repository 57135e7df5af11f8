use Rattle.std.proofs.Common.{pos, arith}
use Rattle.life_core.specs.declared.runs.Run.{Run}
use Rattle.life_core.proofs.RunsLaws.{ordered_cells}
use Rattle.life_core.proofs.runs.are_in_order.Goals as goal

pub returns : goal.returns
returns c t =
    let none : Run = record { row = pos 0; first = pos 0; len = 0 } in
    ordered_cells c.args.runs.now none c.requires
    (λ k below. c.loop-i.invariant k none (omega (arith, below, c.loop-i-test.false)))
