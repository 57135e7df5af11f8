-- The output of the job of a command line, and the exit status. `Answers` of life_words gives the job of the
-- arguments.
use Rattle.std.specs.Prelude.{◌≡◌, ◌↔◌, ℕ, List, Option, Some, Result, Err}
use Rattle.std.specs.declared.process.ExitCode.{ExitCode}
use Rattle.life_rle.specs.declared.stream.Outlet as outlet
use Rattle.life_words.specs.declared.word_fault.WordFault.{WordFault}
use Rattle.life_words.specs.Words.{Answers}
use Rattle.life_jobs.specs.declared.stop.Stop.{Stop}
use Rattle.life_jobs.specs.declared.stop.Stop.TheVariants.{OutOfLimit, BadRule}
use Rattle.life_jobs.specs.PatternJobs.{RefusesRule}
use Rattle.life_jobs.specs.Streams.{PutsOnce}
use Rattle.life_program.specs.Job.{IsStatus, line_after, status_after, status_by}
use Rattle.life_hauls.specs.declared.haul_arguments.HaulJob.{HaulJob}
use Rattle.life_hauls.specs.declared.haul_arguments.HaulJob.TheVariants.{Haul, Soup}
use Rattle.life_hauls.specs.HaulJobs.{MayBeAsked, PutsHaul, MaySoupBeAsked, PutsSoup}
use Rattle.life_hauls.specs.HaulWords.{Asked, asked_by}

-- How a job answers. It is refused first for its numbers and its root, then for its rule; otherwise `Puts` holds.
pub record DoesIfAsked (MayBe : Type 0) (rule : List ℕ) (Puts : Result (Unit {0}) Stop → Type 0)
    (answer : Result (Unit {0}) Stop) : Type 0 where
  pub limit : (answer ≡ Err OutOfLimit) ↔ ¬ MayBe
  pub bad_rule : (answer ≡ Err BadRule) ↔ MayBe × RefusesRule rule
  pub puts : Puts answer

-- a haul puts its table, and a soup its pattern file
abbrev pub DoesJob : HaulJob → Option (List ℕ) → Option (List ℕ) → Result (Unit {0}) Stop → Type 0
DoesJob (Haul words) old new = DoesIfAsked (MayBeAsked words) words.rule.now (PutsHaul words old new)
DoesJob (Soup words) old new = DoesIfAsked (MaySoupBeAsked words) words.rule.now (PutsSoup words old new)

-- The outcome for a command line. Either its job was done on this output, and the status is 0, or 1 if it stopped. Or
-- nothing was written, and the fault decides the status. The fault is out of memory or, if and only if the arguments
-- are not valid, a usage error.
pub data HaulEnd {O E : Type 0} (o : outlet.Ghosts O) (words : Option Asked) (output sent : O)
    (result : Result ExitCode E) : Type 0 where
  does : (job : HaulJob) (answer : Result (Unit {0}) Stop) → words ≡ Some (asked_by job)
      → DoesJob job (o.already output) (o.already sent) answer
      → PutsOnce output sent (o.failures output) (o.failures sent) (o.last_failed sent) answer
      → IsStatus result (status_after (line_after answer)) → HaulEnd o words output sent result
  has_fault : (fault : WordFault) → Answers asked_by words (Err fault) → sent ≡ output
      → IsStatus result (status_by fault) → HaulEnd o words output sent result
