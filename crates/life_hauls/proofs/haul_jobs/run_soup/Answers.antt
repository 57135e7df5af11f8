use Rattle.std.proofs.Common.{rules, sym, ap, ◌∙◌}
use Rattle.life_core.specs.RuleText.{read_rule}
use Rattle.life_hauls.proofs.HaulJobsLemmas.{puts_under}
use Rattle.life_hauls.specs.HaulJobs.{MaySoupBeAsked, soup_text}
use Rattle.life_hauls.proofs.haul_jobs.run_soup.Goals as goal

pub returns-in-Ok-soup_file-clause-puts : goal.returns-in-Ok-soup_file-clause-puts
returns-in-Ok-soup_file-clause-puts g c =
    puts_under (MaySoupBeAsked c.args.words) c.args.words.rule.now
    (soup_text c.args.words) c.in-Ok.rule c.deref.result.now _ _ c.put_text.result
    (search rules) (sym (c.in-Ok.ensures.value ∙ ap read_rule c.as_bytes.ensures.value))
    (c.deref.ensures.value ∙ c.in-Ok-soup_file.ensures) c.put_text.ensures.puts
