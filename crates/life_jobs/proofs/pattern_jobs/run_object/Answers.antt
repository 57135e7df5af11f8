use Rattle.std.proofs.Common.{ap, ◌∙◌, sym}
use Rattle.life_core.specs.RuleText.{read_rule}
use Rattle.life_rle.specs.Writer.{text}
use Rattle.life_jobs.proofs.PatternJobsLemmas.{refuses_code, puts_object}
use Rattle.life_jobs.proofs.pattern_jobs.run_object.Goals as goal

pub returns-in-Err-clause-puts : goal.returns-in-Err-clause-puts
returns-in-Err-clause-puts g c =
    refuses_code c.args.rule.now c.args.code.now c.as_bytes-2.result.now c.args.limit c.in-Some.limit c.in-Ok.rule
    (sym (c.in-Ok.ensures.value ∙ ap read_rule c.as_bytes.ensures.value))
    c.in-Some.ensures.1 c.as_bytes-2.ensures.value _ _ c.in-Err.fault c.code_stop.result c.code_stop.ensures
    c.in-Some.ensures.0 c.in-Err.ensures.refused c.in-Err.ensures.no_code

pub returns-in-Ok-object-clause-puts : goal.returns-in-Ok-object-clause-puts
returns-in-Ok-object-clause-puts g c =
    let shown = c.in-Ok-object.ensures.opened in
    puts_object c.args.rule.now c.args.code.now c.as_bytes-2.result.now c.args.limit c.in-Some.limit c.in-Ok.rule
    (sym (c.in-Ok.ensures.value ∙ ap read_rule c.as_bytes.ensures.value))
    c.in-Some.ensures.1 c.as_bytes-2.ensures.value _ _ _ c.put_record.result
    (shown.0, shown.1, shown.2, ap text shown.3) c.put_record.ensures.puts
