use Rattle.std.proofs.Common.{arith}
use Rattle.std.proofs.lemmas.Int.{ints}
use Rattle.life_core.proofs.CellLemmas.{same_coordinates}
use Rattle.life_core.proofs.packed.frame.Frame.offset.Goals as goal

pub returns-clause-cell : goal.returns-clause-cell
returns-clause-cell c = same_coordinates c.args.cell _ (omega (arith, ints)) (omega (arith, ints))
