use Rattle.life_code.proofs.DecodeSteps.{next_strip}
use Rattle.life_code.proofs.decode.CodeReader.end_strip.Goals as goal

pub returns-clause-cells : goal.returns-clause-cells
returns-clause-cells c text x y in_row in_column = rw c.requires.plain (next_strip _ _ c.args.self.now.column text x y)
