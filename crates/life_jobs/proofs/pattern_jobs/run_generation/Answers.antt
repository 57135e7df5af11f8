use Rattle.std.proofs.Common.{ap}
use Rattle.life_rle.specs.Writer.{text}
use Rattle.life_jobs.specs.PatternJobs.{later}
use Rattle.life_jobs.proofs.PatternJobsLemmas.{stops_at_input, puts_text}
use Rattle.life_jobs.proofs.pattern_jobs.run_generation.Goals as goal

pub returns-in-Err-clause-known : goal.returns-in-Err-clause-known
returns-in-Err-clause-known g c few =
    stops_at_input (λ r. text (later c.args.n r)) _ _ _ c.in-Err.stop c.in-Err.ensures.known

pub returns-in-Ok-clause-known : goal.returns-in-Ok-clause-known
returns-in-Ok-clause-known g c few =
    puts_text (λ r. text (later c.args.n r)) _ _ _ c.in-Ok.record _ c.put_generation.result c.in-Ok.ensures.known
    (ap (λ n. text (later n c.in-Ok.record)) c.in-Some.ensures.1) c.put_generation.ensures.puts
