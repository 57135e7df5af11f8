use Rattle.std.proofs.Common.{pos, ap, ◌∙◌, subst, inl, inr}
use Rattle.std.proofs.lemmas.List.{take_all}
use Rattle.life_code.specs.ApartState.{AreParted}
use Rattle.life_code.proofs.ApartParts.{parted_none, parted_more}
use Rattle.life_code.proofs.apart.parted.Goals as goal
use Rattle.life_code.proofs.apart.parted.Goals.{then-has+in_ok-push, else-has+in_ok-push-2}

pub loop-cell-init : goal.loop-cell-init
loop-cell-init g c =
    parted_none c.new-inside.result.items c.new-outside.result.items c.new-inside.ensures.items
    c.new-outside.ensures.items

pub loop-cell-preserved : goal.loop-cell-preserved
loop-cell-preserved g c =
    parted_more c.args.cells.now c.loop-cell.inside.items c.loop-cell.outside.items
    c.if-has.inside.items c.if-has.outside.items c.loop-cell.cell-index
    (record { row = pos 0; column = pos 0 }) c.loop-cell-test.true c.loop-cell.invariant
    (elim c.if-has.branch [
      | then-has+in_ok-push w ↦
          inl (ap (λ v. v.items) w.inside-is ∙ w.in_ok-push.ensures.items, ap (λ v. v.items) w.outside-is)
      | else-has+in_ok-push-2 w ↦
          inr (ap (λ v. v.items) w.inside-is, ap (λ v. v.items) w.outside-is ∙ w.in_ok-push-2.ensures.items)
    ])

pub returns : goal.returns
returns g c =
    subst (λ cells. AreParted cells c.loop-cell.inside.items c.loop-cell.outside.items)
    (take_all c.loop-cell.cell-index c.args.cells.now c.loop-cell-test.false) c.loop-cell.invariant
