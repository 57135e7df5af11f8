use Rattle.std.proofs.Common.{◌*◌, sym, subst, arith}
use Rattle.life_core.specs.Cell.{IsCellWithin}
use Rattle.life_core.proofs.FrameBounds.{places_few, cell_near}
use Rattle.life_core.proofs.packed.shifts.covers_at.Goals as goal

pub overflow_mul-k : goal.overflow_mul-k
overflow_mul-k c =
    record { fits = omega (arith, places_few c.args.frame c.requires.frame, c.requires.rows, c.requires.k) }

pub covers_word-requires-clause-start : goal.covers_word-requires-clause-start
covers_word-requires-clause-start c =
    subst (IsCellWithin 2000000000) (sym c.cell.ensures)
    (cell_near c.args.frame (64 * c.args.k) c.requires.frame (omega (arith, c.requires.rows, c.requires.k)))
