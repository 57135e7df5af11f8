use Rattle.std.proofs.Common.{ap, ◌∙◌}
use Rattle.life_jobs.specs.PatternJobs.{census_table}
use Rattle.life_jobs.proofs.PatternJobsLemmas.{stops_at_input, puts_text}
use Rattle.life_jobs.proofs.pattern_jobs.run_census.Goals as goal

pub returns-in-Err-clause-known : goal.returns-in-Err-clause-known
returns-in-Err-clause-known g c within =
    stops_at_input (census_table c.args.n c.args.limit) _ _ _ c.in-Err.stop c.in-Err.ensures.known

pub returns-in-Ok-clause-known : goal.returns-in-Ok-clause-known
returns-in-Ok-clause-known g c within =
    puts_text (census_table c.args.n c.args.limit) _ _ _ c.in-Ok.record _ c.put_census.result c.in-Ok.ensures.known
    (ap (λ n. census_table n c.in-Some.limit c.in-Ok.record) c.in-Some.ensures.1
    ∙ ap (λ limit. census_table c.args.n limit c.in-Ok.record) c.in-Some.ensures.2)
    c.put_census.ensures.puts
