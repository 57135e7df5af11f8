use Rattle.std.proofs.Common.{ℕ, ◌+◌, ◌-◌, ap, sym, ◌∙◌}
use Rattle.life_core.specs.PackedRow.{place}
use Rattle.life_core.specs.PackedMarksState.{IsMarked}
use Rattle.life_core.proofs.packed.block_marks.mark_neighbours.Goals as goal

pub returns-clause-marked : goal.returns-clause-marked
returns-clause-marked c i p narrow all top bottom =
    let b = c.args.b in
    let columns = c.args.columns in
    let keeps =
    λ (j : ℕ) (h : IsMarked c.mark_block.new.marks j).
    c.mark_block-3.ensures.marks.set j (c.mark_block-2.ensures.marks.set j h) in
    record {
      own = keeps b (c.mark_block.ensures.own p narrow all);
      left = λ e. keeps (b - 1) (c.mark_block.ensures.left (ap (place c.args.all) (sym e) ∙ all));
      right = λ e. keeps (b + 1) (c.mark_block.ensures.right (ap (place c.args.all) (sym e) ∙ all));
      above = λ f. c.mark_block-3.ensures.marks.set (b - columns) (c.mark_block-2.ensures.own p narrow (top f));
      above_left =
          λ f e. c.mark_block-3.ensures.marks.set (b - columns - 1)
          (c.mark_block-2.ensures.left (ap (place c.args.top) (sym e) ∙ top f));
      above_right =
          λ f e. c.mark_block-3.ensures.marks.set (b - columns + 1)
          (c.mark_block-2.ensures.right (ap (place c.args.top) (sym e) ∙ top f));
      below = λ f. c.mark_block-3.ensures.own p narrow (bottom f);
      below_left = λ f e. c.mark_block-3.ensures.left (ap (place c.args.bottom) (sym e) ∙ bottom f);
      below_right = λ f e. c.mark_block-3.ensures.right (ap (place c.args.bottom) (sym e) ∙ bottom f);
    }
