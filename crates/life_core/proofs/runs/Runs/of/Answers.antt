use Rattle.std.proofs.Common.{arith, get_or, ap, sym, ◌∙◌, ◌++◌, ◌∷◌, [], List, pos}
use Rattle.std.proofs.lemmas.Int.{ints}
use Rattle.std.proofs.lemmas.List.{take_more, take_all}
use Rattle.life_core.specs.declared.cell.Cell.{Cell}
use Rattle.life_core.proofs.runs.Runs.of.Goals as goal

abbrev nowhere : Cell
nowhere = record { row = pos 0; column = pos 0 }

pub push-requires : goal.push-requires
push-requires g c =
    let near = c.requires c.loop-cell.cell-index nowhere c.loop-cell-test.true in
    record {
      top = omega (arith, ints, near.top);
      bottom = omega (arith, ints, near.bottom);
      left = omega (arith, ints, near.left);
      right = omega (arith, ints, near.right);
    }

pub loop-cell-preserved : goal.loop-cell-preserved
loop-cell-preserved g c =
    c.in_ok-push.ensures.cell ∙ ap
    (λ (cs : List Cell). cs ++ get_or c.args.cells.now c.loop-cell.cell-index nowhere ∷ []) c.loop-cell.invariant
    ∙ sym (take_more c.args.cells.now c.loop-cell.cell-index nowhere c.loop-cell-test.true)

pub returns : goal.returns
returns g c = c.loop-cell.invariant ∙ take_all c.loop-cell.cell-index c.args.cells.now c.loop-cell-test.false
