use Rattle.std.proofs.Common.{◌*◌, sym, ap, subst, ◌∙◌, arith}
use Rattle.std.specs.FinSet as set
use Rattle.std.proofs.lemmas.Bool.{false≢true}
use Rattle.std.proofs.lemmas.Map.Views.{All-from_any}
use Rattle.life_core.specs.declared.cell.TheConstants.{PLANE}
use Rattle.life_core.specs.Pattern.{Cells, IsWithin}
use Rattle.life_core.specs.PackedFrameState.{IsIn}
use Rattle.life_core.specs.PackedMarginsState.{HasSlack}
use Rattle.life_core.proofs.PackedCells.{no_live}
use Rattle.life_core.proofs.PatternMembers.{same_cell_laws, contains-list, within_from_list}
use Rattle.life_core.proofs.PatternOrder.{from_list_of}
use Rattle.life_core.proofs.packed.packed_rows.PackedRowsPlane.from_pattern.Goals as goal

pub words_of-requires-clause-cells : goal.words_of-requires-clause-cells
words_of-requires-clause-cells g c =
    let f = c.of-frame.result in
    All-from_any same_cell_laws (IsIn f.left f.top (64 * f.words) f.height) c.cells.result.now (λ d h.
    c.of-frame.ensures.inside d (ap (λ (X : Cells). set.contains X d)
    (sym (from_list_of _ c.cells.result.now c.cells.ensures.cells)) ∙ contains-list c.cells.result.now d ∙ h))

pub returns : goal.returns
returns g c = c.in_ok-rows.ensures.cells ∙ from_list_of _ c.cells.result.now c.cells.ensures.cells

pub invariant_of-result-2 : goal.invariant_of-result-2
invariant_of-result-2 g c =
    let f = c.of-frame.result in
    record {
      frame = c.of-frame.ensures.frame;
      whole = c.of-frame.ensures.whole;
      size = c.in_ok-rows.ensures.len;
      long = omega (arith, c.in_ok-rows.ensures.len, c.in_ok-spare.ensures.len);
      marks = c.in_ok-marks.ensures;
      next_marks = c.in_ok-next_marks.ensures;
      within =
          subst (IsWithin PLANE) (sym c.in_ok-rows.ensures.cells)
          (within_from_list PLANE c.cells.result.now c.cells.ensures.inside);
      room =
          subst (HasSlack f 31) (sym (c.in_ok-rows.ensures.cells
          ∙ from_list_of _ c.cells.result.now c.cells.ensures.cells)) c.of-frame.ensures.slack;
      spare_room = record {
        away =
            λ d h. absurd (false≢true (sym (no_live f c.in_ok-spare.spare.items c.of-frame.ensures.frame.wide
            (omega (arith, c.in_ok-rows.ensures.len, c.in_ok-spare.ensures.len)) c.in_ok-spare.ensures.zeros d) ∙ h));
      };
      settled = λ never. absurd (false≢true never);
      after = λ never. absurd (false≢true never);
    }
