use Rattle.std.proofs.Common.{refl}
use Rattle.life_words.specs.Words.{asked_by}
use Rattle.life_program.specs.Job.{has_fault}
use Rattle.life_program.proofs.ProgramWordsLemmas.{ends_by}
use Rattle.life_program.proofs.program.run_words.Goals as goal

pub returns-in-Ok : goal.returns-in-Ok
returns-in-Ok g c =
    ends_by g.I.Inlet g.O.Outlet g.J.ArchiveJobs.deposits g.J.ArchiveJobs.serves
    g.J.ArchiveJobs.checks _ _ _ _ _ c.print_done.result (asked_by c.in-Ok.job)
    (λ line. line.now) c.do_job.result c.in-Ok.ensures c.do_job.ensures c.print_done.ensures

pub returns-in-Err : goal.returns-in-Err
returns-in-Err g c = has_fault c.in-Err.fault c.in-Err.ensures refl refl c.print_fault_of.ensures
