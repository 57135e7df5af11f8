use Rattle.std.proofs.Common.{refl}
use Rattle.life_pictures.specs.DrawProgram.{has_fault}
use Rattle.life_pictures.proofs.DrawProgramLemmas.{ends_by}
use Rattle.life_pictures.proofs.draw_program.run_words.Goals as goal

pub returns-in-Ok : goal.returns-in-Ok
returns-in-Ok g c =
    let it = c.run_draw.ensures in
    ends_by g.I.Inlet g.O.Outlet _ _ _ _ _ c.print_done.result c.in-Ok.picture c.run_draw.result c.in-Ok.ensures
    (record { limit = it.limit; untouched = it.untouched; known = it.known; takes = it.takes; once = it.once })
    c.print_done.ensures

pub returns-in-Err : goal.returns-in-Err
returns-in-Err g c = has_fault c.in-Err.fault c.in-Err.ensures refl refl c.print_fault_of.ensures
