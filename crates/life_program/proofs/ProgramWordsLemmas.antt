-- The outcome for a command line, from the answer of its job.
use Rattle.std.proofs.Common.{◌≡◌, ℕ, List, Option, None, Some, Result, Ok, Err, MatchResult}
use Rattle.std.specs.declared.process.ExitCode.{ExitCode}
use Rattle.life_rle.specs.declared.stream.Inlet as inlet
use Rattle.life_rle.specs.declared.stream.Outlet as outlet
use Rattle.life_words.specs.Words.{Asked}
use Rattle.life_program.specs.Job.{Depositing, Serving, Checking, DoesJob, IsStatus, WordsEnd, does}

module _ {I O E L : Type 0} (i : inlet.Ghosts I) (o : outlet.Ghosts O) (deposits : Depositing)
    (serves : Serving) (checks : Checking) (words : Option Asked) (input rest : I) (output sent : O)
    (result : Result ExitCode E) (asked : Asked) (text : L → List ℕ) where
  pub ends_by : (done : Result (Unit {0}) L) → words ≡ Some asked
      → MatchResult done (λ u. DoesJob i o deposits serves checks asked input rest output sent None)
      (λ line. DoesJob i o deposits serves checks asked input rest output sent (Some (text line)))
      → MatchResult done (λ u. IsStatus result 0) (λ line. IsStatus result 1)
      → WordsEnd i o deposits serves checks words input rest output sent result
  ends_by (Ok u) is it status = does asked None is it status
  ends_by (Err line) is it status = does asked (Some (text line)) is it status
