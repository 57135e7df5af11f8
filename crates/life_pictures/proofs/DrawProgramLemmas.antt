-- The outcome for arguments, from what drawing returned.
use Rattle.std.proofs.Common.{◌≡◌, Option, Some, Result, Ok, Err, MatchResult}
use Rattle.std.specs.declared.process.ExitCode.{ExitCode}
use Rattle.life_rle.specs.declared.stream.Inlet as inlet
use Rattle.life_rle.specs.declared.stream.Outlet as outlet
use Rattle.life_jobs.specs.declared.stop.Stop.{Stop}
use Rattle.life_program.specs.Job.{IsStatus}
use Rattle.life_pictures.specs.declared.draw_job.Picture.{Picture}
use Rattle.life_pictures.specs.DrawProgram.{Draws, DrawEnd, draws}

module _ {I O E : Type 0} (i : inlet.Ghosts I) (o : outlet.Ghosts O) (words : Option Picture) (input rest : I)
    (output sent : O) (result : Result ExitCode E) (picture : Picture) where
  pub ends_by : (answer : Result (Unit {0}) Stop) → words ≡ Some picture
      → Draws i o picture input rest output sent answer
      → MatchResult answer (λ u. IsStatus result 0) (λ stop. IsStatus result 1)
      → DrawEnd i o words input rest output sent result
  ends_by (Ok u) is it status = draws picture (Ok u) is it status
  ends_by (Err stop) is it status = draws picture (Err stop) is it status
