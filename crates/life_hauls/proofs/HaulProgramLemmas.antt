-- The outcome for a command line, from the answer of its job.
use Rattle.std.proofs.Common.{◌≡◌, Option, Some, Result, Ok, Err, MatchResult}
use Rattle.std.specs.declared.process.ExitCode.{ExitCode}
use Rattle.life_rle.specs.declared.stream.Outlet as outlet
use Rattle.life_jobs.specs.declared.stop.Stop.{Stop}
use Rattle.life_jobs.specs.Streams.{PutsOnce}
use Rattle.life_program.specs.Job.{IsStatus}
use Rattle.life_hauls.specs.declared.haul_arguments.HaulJob.{HaulJob}
use Rattle.life_hauls.specs.HaulWords.{Asked, asked_by}
use Rattle.life_hauls.specs.HaulProgram.{DoesJob, HaulEnd, does}

module _ {O E : Type 0} (o : outlet.Ghosts O) (words : Option Asked) (output sent : O) (result : Result ExitCode E)
    (job : HaulJob) where
  pub ends_by : (answer : Result (Unit {0}) Stop) → words ≡ Some (asked_by job)
      → DoesJob job (o.already output) (o.already sent) answer
      → PutsOnce output sent (o.failures output) (o.failures sent) (o.last_failed sent) answer
      → MatchResult answer (λ u. IsStatus result 0) (λ stop. IsStatus result 1)
      → HaulEnd o words output sent result
  ends_by (Ok u) is it once status = does job (Ok u) is it once status
  ends_by (Err stop) is it once status = does job (Err stop) is it once status
