use Rattle.std.proofs.Common.{arith}
use Rattle.std.proofs.lemmas.Int.{ints}
use Rattle.life_core.proofs.CellLemmas.{same_coordinates}
use Rattle.life_core.proofs.packed.packing.to_the_right.Goals as goal

pub returns : goal.returns
returns c = same_coordinates _ _ (omega (arith, ints)) (omega (arith, ints))
