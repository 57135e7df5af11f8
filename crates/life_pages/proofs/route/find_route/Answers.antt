use Rattle.std.proofs.Common.{◌∙◌}
use Rattle.life_pages.proofs.RouteFinding.{finds}
use Rattle.life_pages.proofs.route.find_route.Goals as goal

pub read_found-requires : goal.read_found-requires
read_found-requires c =
    rw (c.iter.ensures.value, c.in-Ok.ensures.path)
    (finds _ _ _ c.utf8.path c.requires c.in-Ok.ensures.found).gives.are_texts

pub returns-in-Ok : goal.returns-in-Ok
returns-in-Ok c =
    let f = finds _ _ _ c.utf8.path c.requires c.in-Ok.ensures.found in
    rw (c.iter.ensures.value, c.in-Ok.ensures.path, f.gives.taken) at c.read_found.ensures ∙ f.read

pub returns-in-Err : goal.returns-in-Err
returns-in-Err c = finds _ _ _ c.utf8.path c.requires c.in-Err.ensures.missing
