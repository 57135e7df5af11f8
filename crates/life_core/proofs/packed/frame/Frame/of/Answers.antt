use Rattle.std.proofs.Common.{sym, ap, subst, ◌∙◌, refl, arith}
use Rattle.std.specs.FinSet as set
use Rattle.std.proofs.lemmas.Int.{ints}
use Rattle.std.proofs.lemmas.Bool.{false≢true}
use Rattle.life_core.specs.Cell.{cell_cmp}
use Rattle.life_core.specs.declared.cell.TheConstants.{PLANE}
use Rattle.life_core.specs.Pattern.{Cells, IsWithin}
use Rattle.life_core.proofs.PatternOrder.{from_list_of}
use Rattle.life_core.proofs.PatternMembers.{within_from_list}
use Rattle.life_core.proofs.packed.frame.Frame.of.Goals as goal

pub round-requires-clause-left : goal.round-requires-clause-left
round-requires-clause-left g c =
    let within : IsWithin PLANE c.args.pattern.now = subst (IsWithin PLANE) (from_list_of _ c.cells-cells.result.now
    c.cells-cells.ensures.cells) (within_from_list PLANE c.cells-cells.result.now c.cells-cells.ensures.inside) in
    let least = c.in-Some.ensures.is_box.from_column.reached in
    let at = within least.0 least.1 in
    omega (arith, ints, at.left, least.2)

pub round-requires-clause-top : goal.round-requires-clause-top
round-requires-clause-top g c =
    let within : IsWithin PLANE c.args.pattern.now = subst (IsWithin PLANE) (from_list_of _ c.cells-cells.result.now
    c.cells-cells.ensures.cells) (within_from_list PLANE c.cells-cells.result.now c.cells-cells.ensures.inside) in
    let least = c.in-Some.ensures.is_box.from_row.reached in
    let at = within least.0 least.1 in
    omega (arith, ints, at.top, least.2)

pub round-requires-clause-right : goal.round-requires-clause-right
round-requires-clause-right g c =
    let within : IsWithin PLANE c.args.pattern.now = subst (IsWithin PLANE) (from_list_of _ c.cells-cells.result.now
    c.cells-cells.ensures.cells) (within_from_list PLANE c.cells-cells.result.now c.cells-cells.ensures.inside) in
    let most = c.in-Some.ensures.is_box.to_column.reached in
    let at = within most.0 most.1 in
    omega (arith, ints, at.right, most.2)

pub round-requires-clause-bottom : goal.round-requires-clause-bottom
round-requires-clause-bottom g c =
    let within : IsWithin PLANE c.args.pattern.now = subst (IsWithin PLANE) (from_list_of _ c.cells-cells.result.now
    c.cells-cells.ensures.cells) (within_from_list PLANE c.cells-cells.result.now c.cells-cells.ensures.inside) in
    let most = c.in-Some.ensures.is_box.to_row.reached in
    let at = within most.0 most.1 in
    omega (arith, ints, at.bottom, most.2)

pub returns-in-None-clause-inside : goal.returns-in-None-clause-inside
returns-in-None-clause-inside g c d live =
    absurd (false≢true (sym (set.contains-empty cell_cmp d)
    ∙ ap (λ (X : Cells). set.contains X d) (sym (c.in-None.ensures.none.0 refl)) ∙ live))

pub returns-in-None-clause-slack : goal.returns-in-None-clause-slack
returns-in-None-clause-slack g c = record {
  away =
      λ d live. absurd (false≢true (sym (set.contains-empty cell_cmp d)
      ∙ ap (λ (X : Cells). set.contains X d) (sym (c.in-None.ensures.none.0 refl)) ∙ live));
}

pub returns-in-Some-clause-slack : goal.returns-in-Some-clause-slack
returns-in-Some-clause-slack g c = record {
  away = λ d live.
      let box = c.in-Some.ensures.is_box in
      let n = c.round.ensures in
      record {
        from_left = omega (arith, ints, n.left, box.from_column.below d live);
        to_right = omega (arith, ints, n.left, n.width, box.to_column.above d live);
        from_top = omega (arith, ints, n.top, box.from_row.below d live);
        to_bottom = omega (arith, ints, n.top, n.height, box.to_row.above d live);
      };
}

pub returns-in-Some-clause-inside : goal.returns-in-Some-clause-inside
returns-in-Some-clause-inside g c d live =
    let box = c.in-Some.ensures.is_box in
    let n = c.round.ensures in
    record {
      from_left = omega (arith, ints, n.left, box.from_column.below d live);
      to_right = omega (arith, ints, n.left, n.width, box.to_column.above d live);
      from_top = omega (arith, ints, n.top, box.from_row.below d live);
      to_bottom = omega (arith, ints, n.top, n.height, box.to_row.above d live);
    }
