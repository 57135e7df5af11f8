use Rattle.std.proofs.Common.{sym, ap, ◌∙◌}
use Rattle.life_core.specs.RuleText.{read_rule}
use Rattle.life_hauls.proofs.HaulJobsLemmas.{puts_under}
use Rattle.life_hauls.specs.HaulJobs.{MayBeAsked, haul_text}
use Rattle.life_hauls.proofs.haul_jobs.run_haul.Goals as goal

pub returns-in-Ok-table-clause-puts : goal.returns-in-Ok-table-clause-puts
returns-in-Ok-table-clause-puts g c =
    puts_under (MayBeAsked c.args.words) c.args.words.rule.now (haul_text c.args.words) c.in-Ok.rule c.deref.result.now
    _ _ c.put_text.result c.in-Some.ensures.0 (sym (c.in-Ok.ensures.value ∙ ap read_rule c.as_bytes.ensures.value))
    (c.deref.ensures.value ∙ c.in-Ok-table.ensures) c.put_text.ensures.puts
