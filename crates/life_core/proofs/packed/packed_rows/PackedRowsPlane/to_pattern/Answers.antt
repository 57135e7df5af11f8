use Rattle.std.proofs.Common.{◌*◌, nat_eq, sym, ap, subst, ◌∙◌, length, arith}
use Rattle.std.specs.FinSet as set
use Rattle.std.specs.List.Sorted.{IsStrictlySortedBy}
use Rattle.life_core.specs.declared.cell.TheConstants.{PLANE}
use Rattle.life_core.specs.Cell.{cell_cmp}
use Rattle.life_core.specs.Pattern.{Cells}
use Rattle.life_core.specs.PackedRow.{place}
use Rattle.life_core.specs.PackedFrameState.{framed}
use Rattle.life_core.proofs.PatternMembers.{list_within}
use Rattle.life_core.proofs.PackedOrder.{cells_ascend}
use Rattle.life_core.proofs.packed.packed_rows.PackedRowsPlane.to_pattern.Goals as goal

pub from_sorted-requires : goal.from_sorted-requires
from_sorted-requires g c =
    let f = c.self.inside.frame in
    let rows = c.deref.result.now in
    record {
      sorted =
          subst (IsStrictlySortedBy cell_cmp) (sym c.in_ok-list_cells.ensures) (cells_ascend f.left f.top (64 * f.words)
          (λ p. nat_eq (place rows p) 1) (omega (arith, c.self.invariant.frame.wide)) 0 (64 * length rows));
      inside =
          list_within PLANE _ (λ d h. c.self.invariant.within d (ap (λ (X : Cells). set.contains X d) (sym
          (ap (set.from_list {R = cell_cmp}) c.in_ok-list_cells.ensures ∙ ap (framed f) c.deref.ensures.value)) ∙ h));
    }
