use Rattle.life_pictures.specs.Title.{title}
use Rattle.life_pictures.specs.Document.{opening, background, front}
use Rattle.life_pictures.proofs.PartLemmas.{three_parts}
use Rattle.life_pictures.proofs.document.put_front.Goals as goal

pub returns : goal.returns
unfolding front
returns g c =
    three_parts c.args.out.now.items _ _ _ (opening c.args.extent.width c.args.extent.height)
    (title c.args.name.now) (background c.args.extent.width c.args.extent.height)
    c.in_ok-put_opening.ensures c.in_ok-put_title.ensures c.in_ok-put_background.ensures
