use Rattle.std.proofs.Common.{◌≡◌, ap, sym, subst, ◌∙◌, map, pos, to_z, w64}
use Rattle.std.specs.FinSet as set
use Rattle.std.proofs.lemmas.Int.{to_z-of_z}
use Rattle.std.proofs.lemmas.List.Elements.{All-same, All-map}
use Rattle.std.specs.List.Sorted.{IsStrictlySortedBy}
use Rattle.life_core.proofs.CellLemmas.{sorted-moved}
use Rattle.life_core.proofs.PatternCorners.{moved_origin}
use Rattle.life_core.proofs.PatternMembers.{image_within, image-list}
use Rattle.life_core.specs.Cell.{cell_cmp, IsCellWithin, moved_cell}
use Rattle.life_core.specs.Pattern.{image}
use Rattle.life_core.specs.declared.cell.TheConstants.{PLANE}
use Rattle.life_core.proofs.pattern.Pattern.into_moved.Goals as goal

pub returns-then-dy-eq0 : goal.returns-then-dy-eq0
returns-then-dy-eq0 g c =
    let dx : pos 0 ≡ c.args.dx = sym (ap (to_z w64) c.if-dx-eq0.true) ∙ to_z-of_z w64 c.args.dx c.ranges.dx in
    let dy : pos 0 ≡ c.args.dy = sym (ap (to_z w64) c.if-dy-eq0.true) ∙ to_z-of_z w64 c.args.dy c.ranges.dy in
    sym (moved_origin c.args.self) ∙ (λ i. image (moved_cell (dx i) (dy i)) c.args.self)

pub into_moved-requires-clause-there : goal.into_moved-requires-clause-there
into_moved-requires-clause-there g c =
    let dx = to_z-of_z w64 c.args.dx c.ranges.dx in
    let dy = to_z-of_z w64 c.args.dy c.ranges.dy in
    simp (dx, dy) (image_within PLANE
    (moved_cell c.args.dx c.args.dy) c.self.inside.cells c.args.self c.self.view_is c.requires)

pub from_sorted-requires : goal.from_sorted-requires
from_sorted-requires g c =
    let dx = to_z-of_z w64 c.args.dx c.ranges.dx in
    let dy = to_z-of_z w64 c.args.dy c.ranges.dy in
    let f = moved_cell c.args.dx c.args.dy in
    let own = c.self.inside.cells in
    let is : c.into_moved.result ≡ map f own = simp (dx, dy) at c.into_moved.ensures in
    record {
      sorted =
          subst (IsStrictlySortedBy cell_cmp) (sym is) (sorted-moved c.args.dx c.args.dy own c.self.invariant.sorted);
      inside =
          All-same (IsCellWithin PLANE) _ _ is
          (All-map (IsCellWithin PLANE) f own (image_within PLANE f own c.args.self c.self.view_is c.requires));
    }

pub returns : goal.returns
returns g c =
    let dx = to_z-of_z w64 c.args.dx c.ranges.dx in
    let dy = to_z-of_z w64 c.args.dy c.ranges.dy in
    let f = moved_cell c.args.dx c.args.dy in
    let own = c.self.inside.cells in
    let is : c.into_moved.result ≡ map f own = simp (dx, dy) at c.into_moved.ensures in
    c.from_sorted.ensures ∙ ap set.from_list is ∙ sym (image-list f own) ∙ ap (image f) c.self.view_is
