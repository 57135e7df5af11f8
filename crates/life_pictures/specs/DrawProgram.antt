-- The effect of `life-draw`, and its status. `Answers` of life_words says which picture the arguments name.
use Rattle.std.specs.Prelude.{◌≡◌, ◌↔◌, Option, Some, Result, Err}
use Rattle.std.specs.declared.process.ExitCode.{ExitCode}
use Rattle.life_rle.specs.declared.stream.Inlet as inlet
use Rattle.life_rle.specs.declared.stream.Outlet as outlet
use Rattle.life_words.specs.declared.word_fault.WordFault.{WordFault}
use Rattle.life_words.specs.Words.{Answers}
use Rattle.life_jobs.specs.declared.stop.Stop.{Stop}
use Rattle.life_jobs.specs.declared.stop.Stop.TheVariants.{OutOfLimit}
use Rattle.life_jobs.specs.PatternJobs.{PutsKnown}
use Rattle.life_jobs.specs.Streams.{TakesFile, PutsOnce}
use Rattle.life_program.specs.Job.{IsStatus, line_after, status_after, status_by}
use Rattle.life_pictures.specs.declared.draw_job.Picture.{Picture}
use Rattle.life_pictures.specs.DrawJobs.{IsGood, picture_text}

-- The effect and the result of drawing: it checks the numbers first, and then writes the picture of the file or reports
-- why it can't.
pub record Draws {I O : Type 0} (i : inlet.Ghosts I) (o : outlet.Ghosts O) (picture : Picture) (input rest : I)
    (output sent : O) (answer : Result (Unit {0}) Stop) : Type 0 where
  pub limit : (answer ≡ Err OutOfLimit) ↔ ¬ IsGood picture
  pub untouched : ¬ IsGood picture → (rest ≡ input) × (sent ≡ output)
  pub known : IsGood picture
      → PutsKnown (picture_text picture) (i.to_come input) (o.already output) (o.already sent) answer
  pub takes : TakesFile (i.to_come input) (i.to_come rest) (i.failures input) (i.failures rest)
      (i.ends input) (i.ends rest) (i.last_take rest) answer
  pub once : PutsOnce output sent (o.failures output) (o.failures sent) (o.last_failed sent) answer

-- The outcome for arguments that name this picture, if any. Either it was drawn on these streams, and the status is 0,
-- or 1 if drawing stopped. Or no byte was read or written, and a fault decides the status. This fault is out of memory
-- or, exactly when the arguments name no picture, a usage error.
pub data DrawEnd {I O E : Type 0} (i : inlet.Ghosts I) (o : outlet.Ghosts O) (words : Option Picture) (input rest : I)
    (output sent : O) (result : Result ExitCode E) : Type 0 where
  draws : (picture : Picture) (answer : Result (Unit {0}) Stop) → words ≡ Some picture
      → Draws i o picture input rest output sent answer → IsStatus result (status_after (line_after answer))
      → DrawEnd i o words input rest output sent result
  has_fault : (fault : WordFault) → Answers (λ (picture : Picture). picture) words (Err fault) → rest ≡ input
      → sent ≡ output → IsStatus result (status_by fault) → DrawEnd i o words input rest output sent result
