use Rattle.std.proofs.Common.{ap}
use Rattle.life_jobs.specs.PatternJobs.{kind_line}
use Rattle.life_jobs.proofs.PatternJobsLemmas.{stops_at_input, puts_text}
use Rattle.life_jobs.proofs.pattern_jobs.run_kind.Goals as goal

pub returns-in-Err-clause-known : goal.returns-in-Err-clause-known
returns-in-Err-clause-known g c within =
    stops_at_input (λ r. kind_line r.rule r.cells c.args.limit) _ _ _ c.in-Err.stop c.in-Err.ensures.known

pub returns-in-Ok-clause-known : goal.returns-in-Ok-clause-known
returns-in-Ok-clause-known g c within =
    puts_text (λ r. kind_line r.rule r.cells c.args.limit) _ _ _ c.in-Ok.record _ c.put_kind.result
    c.in-Ok.ensures.known
    (ap (λ limit. kind_line c.in-Ok.record.rule c.in-Ok.record.cells limit) c.in-Some.ensures.1)
    c.put_kind.ensures.puts
