use Rattle.std.proofs.Common.{refl}
use Rattle.life_hauls.specs.HaulProgram.{has_fault}
use Rattle.life_hauls.proofs.HaulProgramLemmas.{ends_by}
use Rattle.life_hauls.proofs.haul_program.run_words.Goals as goal

pub returns-in-Ok : goal.returns-in-Ok
returns-in-Ok g c =
    ends_by g.O.Outlet _ _ _ c.print_done.result c.in-Ok.job c.do_job-done.result c.in-Ok.ensures
    c.do_job-done.ensures.does c.do_job-done.ensures.once c.print_done.ensures

pub returns-in-Err : goal.returns-in-Err
returns-in-Err g c = has_fault c.in-Err.fault c.in-Err.ensures refl c.print_fault.ensures
