use Rattle.life_hauls.proofs.SoupLemmas.{wider}
use Rattle.life_hauls.proofs.soups.soup_cells.Goals as goal

pub returns-in-None-clause-inside : goal.returns-in-None-clause-inside
returns-in-None-clause-inside g c = wider c.in_ok-cells.cells.items c.in_ok-cells.ensures.inside
