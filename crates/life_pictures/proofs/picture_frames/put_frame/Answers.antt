use Rattle.std.proofs.Common.{◌∙◌, sym, subst}
use Rattle.life_core.specs.declared.cell.TheConstants.{PLANE}
use Rattle.life_core.specs.Pattern.{IsWithin}
use Rattle.life_pictures.proofs.PictureFramesLemmas.{moved_into_box, within_in_box, quarters_in_box, framed}
use Rattle.life_pictures.proofs.picture_frames.put_frame.Goals as goal

pub moved-requires : goal.moved-requires
moved-requires g c =
    subst (IsWithin PLANE) (sym (moved_into_box c.args.at c.args.pattern.now c.requires.at))
    (within_in_box c.args.at c.args.pattern.now c.requires.at c.requires.pattern c.requires.first)

pub put_path-requires : goal.put_path-requires
put_path-requires g c =
    quarters_in_box c.args.at c.args.pattern.now c.in_ok-placed.placed c.cells.result.now c.requires.at
    c.requires.pattern c.requires.first
    (c.in_ok-placed.ensures ∙ moved_into_box c.args.at c.args.pattern.now c.requires.at) c.cells.ensures.cells

pub returns : goal.returns
returns g c =
    framed c.args.at c.args.pattern.now c.in_ok-placed.placed c.cells.result.now _ _ _
    c.in_ok-extend_from_slice.ensures.items c.in_ok-put_path.ensures
    (c.in_ok-placed.ensures ∙ moved_into_box c.args.at c.args.pattern.now c.requires.at) c.cells.ensures.cells
