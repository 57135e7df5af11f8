use Rattle.life_code.proofs.DecodeSteps.{start_cells, start_blank}
use Rattle.life_code.proofs.decode.CodeReader.new.Goals as goal

pub invariant_of-result : goal.invariant_of-result
invariant_of-result c = record { blank = start_blank }

pub returns-clause-start : goal.returns-clause-start
returns-clause-start c = start_cells
