use Rattle.std.specs.Prelude.{refl}
use Rattle.life_jobs.proofs.PatternJobsLemmas.{stops_at_input, puts_text}
use Rattle.life_pictures.specs.DrawJobs.{drawn}
use Rattle.life_pictures.proofs.draw_job.run_draw.Goals as goal

pub returns-in-Err-clause-known : goal.returns-in-Err-clause-known
returns-in-Err-clause-known g c =
    λ good. stops_at_input (drawn c.args.picture) _ _ _ c.in-Err.stop c.in-Err.ensures.known

pub returns-in-Ok-clause-known : goal.returns-in-Ok-clause-known
returns-in-Ok-clause-known g c =
    λ good. puts_text (drawn c.args.picture) _ _ _ c.in-Ok.record _ c.put_picture.result c.in-Ok.ensures.known
    refl c.put_picture.ensures.puts
