use Rattle.std.specs.Prelude.{codes}
use Rattle.std.proofs.Common.{◌+◌}
use Rattle.life_pictures.specs.Numbers.{with_number}
use Rattle.life_pictures.proofs.PartLemmas.{three_parts}
use Rattle.life_pictures.proofs.document.put_background.Goals as goal

pub returns : goal.returns
returns g c =
    three_parts c.args.out.now.items _ _ _
    (with_number (codes "<rect x=\"-1\" y=\"-1\" width=\"") (c.args.extent.width + 2))
    (with_number (codes "\" height=\"") (c.args.extent.height + 2)) (codes "\" fill=\"white\"/>\n")
    c.in_ok-put_numbered.ensures c.in_ok-put_numbered-2.ensures c.in_ok-extend_from_slice.ensures.items
