use Rattle.life_core.proofs.RowSets.{places_are_next}
use Rattle.life_core.proofs.packed.row.laws_of_row_steps.Goals as goal

pub returns : goal.returns
returns c = places_are_next
