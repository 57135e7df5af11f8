use Rattle.std.specs.Prelude.{codes}
use Rattle.life_pictures.specs.Numbers.{with_number}
use Rattle.life_pictures.specs.PictureRuns.{run_path}
use Rattle.life_pictures.proofs.PartLemmas.{five_parts}
use Rattle.life_pictures.proofs.picture_runs.put_rectangle.Goals as goal

pub returns : goal.returns
unfolding run_path
returns g c =
    let run = c.args.run in
    five_parts c.args.out.now.items _ _ _ (with_number (codes "M") run.column) (with_number (codes " ") run.row)
    (with_number (codes "h") run.length)
    c.in_ok-put_numbered.ensures c.in_ok-put_numbered-2.ensures c.in_ok-put_numbered-3.ensures
    _ _ (with_number (codes "v1h-") run.length)
    (codes "z") c.in_ok-put_numbered-4.ensures c.in_ok-extend_from_slice.ensures.items
