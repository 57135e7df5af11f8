use Rattle.std.proofs.Common.{◌∷◌, ◌∙◌, sym, subst, arith}
use Rattle.life_core.proofs.GenerationsLaws.{within_more}
use Rattle.life_core.specs.Cell.{IsCellWithin}
use Rattle.life_pictures.specs.PictureFramesState.{IsCornerOf, all_cells}
use Rattle.life_pictures.proofs.CornersLemmas.{first_within}
use Rattle.life_pictures.proofs.DocumentLemmas.{moving_document}
use Rattle.life_pictures.proofs.PictureFramesLemmas.{all_are_trail, as_many, corner_first, corner_of_each, frames_after}
use Rattle.life_pictures.proofs.PictureFramesLemmas.{near_after, path_is_animated}
use Rattle.life_pictures.proofs.picture_frames.moving.Goals as goal

pub corners_of_all-corners-requires-clause-later : goal.corners_of_all-corners-requires-clause-later
corners_of_all-corners-requires-clause-later g c =
    near_after c.args.rule.now c.args.start.now c.args.more _ (c.deref.ensures.value ∙ c.in_ok-later.ensures)
    (omega (arith, c.requires.0)) c.requires.1

pub put_animated_path-requires-clause-few : goal.put_animated_path-requires-clause-few
put_animated_path-requires-clause-few g c =
    let many = as_many c.args.rule.now c.args.start.now c.args.more _
    (c.deref-2.ensures.value ∙ c.in_ok-later.ensures) in
    omega (arith, many, c.requires.0)

pub put_animated_path-requires-clause-at : goal.put_animated_path-requires-clause-at
put_animated_path-requires-clause-at g c =
    let corners = c.corners_of_all-corners.ensures in
    subst (IsCellWithin 4096) (sym (c.first_cell-at.ensures _ corners)) (first_within _ _ corners)

pub put_animated_path-requires-clause-start : goal.put_animated_path-requires-clause-start
put_animated_path-requires-clause-start g c =
    let all = all_cells (c.args.start.now ∷ c.deref.result.now) in
    let trail = all_are_trail c.args.rule.now c.args.start.now c.args.more _
    (c.deref.ensures.value ∙ c.in_ok-later.ensures) in
    let first = subst (λ at. IsCornerOf at all) (sym (c.first_cell-at.ensures _ c.corners_of_all-corners.ensures))
    (corner_first all) in (
      within_more 3072 4096 c.args.start.now (omega arith) c.requires.1,
      corner_of_each c.args.rule.now c.args.start.now all c.args.more _ trail first 0 (omega arith),
    )

pub put_animated_path-requires-clause-later : goal.put_animated_path-requires-clause-later
put_animated_path-requires-clause-later g c =
    let all = all_cells (c.args.start.now ∷ c.deref.result.now) in
    let trail = all_are_trail c.args.rule.now c.args.start.now c.args.more _
    (c.deref.ensures.value ∙ c.in_ok-later.ensures) in
    let first = subst (λ at. IsCornerOf at all) (sym (c.first_cell-at.ensures _ c.corners_of_all-corners.ensures))
    (corner_first all) in
    frames_after c.args.rule.now c.args.start.now c.args.more c.first_cell-at.result _
    (c.deref-2.ensures.value ∙ c.in_ok-later.ensures) (omega (arith, c.requires.0)) c.requires.1
    (corner_of_each c.args.rule.now c.args.start.now all c.args.more _ trail first)

pub returns : goal.returns
returns g c =
    let all = all_cells (c.args.start.now ∷ c.deref.result.now) in
    let corners = c.corners_of_all-corners.ensures in
    moving_document c.args.name.now c.args.rule.now c.args.start.now all c.args.more c.first_cell-at.result
    c.extent_of_box.result.width c.extent_of_box.result.height _ _ _ _ _
    c.new-out.ensures.items c.in_ok-put_front.ensures c.in_ok-put_animated_path.ensures
    c.in_ok-extend_from_slice.ensures.items
    (c.extent_of_box.ensures.width all corners) (c.extent_of_box.ensures.height all corners)
    (all_are_trail c.args.rule.now c.args.start.now c.args.more _ (c.deref.ensures.value ∙ c.in_ok-later.ensures))
    (c.first_cell-at.ensures all corners)
    (path_is_animated c.args.rule.now c.args.start.now c.first_cell-at.result c.args.more _
    (c.deref-2.ensures.value ∙ c.in_ok-later.ensures))
