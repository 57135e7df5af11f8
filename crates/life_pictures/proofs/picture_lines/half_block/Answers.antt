use Rattle.std.proofs.Common.{rules}
use Rattle.life_pictures.proofs.PictureLinesLemmas.{full_block, upper_half, lower_half}
use Rattle.life_pictures.proofs.picture_lines.half_block.Goals as goal

pub returns-in-true-true : goal.returns-in-true-true
returns-in-true-true c = search (rules, full_block)

pub returns-in-true-false : goal.returns-in-true-false
returns-in-true-false c = search (rules, upper_half)

pub returns-in-false-true : goal.returns-in-false-true
returns-in-false-true c = search (rules, lower_half)
