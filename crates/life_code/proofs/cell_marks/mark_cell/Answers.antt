use Rattle.std.proofs.Common.{rules}
use Rattle.life_code.proofs.CellMarksLemmas.{mark_none, mark_one}
use Rattle.life_code.proofs.cell_marks.mark_cell.Goals as goal

pub returns-in-Some : goal.returns-in-Some
returns-in-Some c cells marks =
    rw c.from.ensures (mark_one c.args.flags.now cells c.args.cell c.in-Some.index
    (search rules) c.in-Some.ensures.0 c.in-Some.ensures.1 marks)

pub returns-in_default : goal.returns-in_default
returns-in_default c cells marks = mark_none c.args.flags.now cells c.args.cell c.in_default.ensures marks
