use Rattle.std.specs.Prelude.{codes, ◌*◌}
use Rattle.std.proofs.Common.{◌≡◌, ◌+◌, ◌++◌, ◌∙◌, length, ap}
use Rattle.std.specs.List.{flat_map}
use Rattle.life_core.specs.Pattern.{Cells}
use Rattle.life_pictures.specs.Numbers.{with_number}
use Rattle.life_pictures.specs.Frames.{frame}
use Rattle.life_pictures.proofs.PartLemmas.{seven_parts}
use Rattle.life_pictures.proofs.picture_frames.put_animated_path.Goals as goal

pub returns : goal.returns
returns g c =
    let X = c.args.start.now in
    let at = c.args.at in
    let first : c.put_frame.new.out.items ≡ frame at X = c.in_ok-put_frame.ensures
    ∙ ap (λ text. text ++ frame at X) c.new-first.ensures.items in
    seven_parts c.args.out.now.items _ _ _ (codes "<path d=\"") (frame at X) (with_number
    (codes "\"><animate attributeName=\"d\" calcMode=\"discrete\" dur=\"") (125 * (length c.args.later.now + 1)))
    c.in_ok-extend_from_slice.ensures.items
    (c.in_ok-extend_from_slice-2.ensures.items
    ∙ ap (λ text. c.extend_from_slice.new.self.items ++ text) (c.deref.ensures.value ∙ first))
    c.in_ok-put_numbered.ensures
    _ _ _ _ (codes "ms\" repeatCount=\"indefinite\" values=\"") (frame at X)
    (flat_map (λ (Y : Cells). codes ";" ++ frame at Y) c.args.later.now) (codes "\"/></path>\n")
    c.in_ok-extend_from_slice-3.ensures.items
    (c.in_ok-extend_from_slice-4.ensures.items
    ∙ ap (λ text. c.extend_from_slice-3.new.self.items ++ text) (c.deref-2.ensures.value ∙ first))
    c.in_ok-put_frames.ensures c.in_ok-extend_from_slice-5.ensures.items
