use Rattle.std.proofs.Common.{sym, ap, ◌∙◌}
use Rattle.std.specs.Option.{option_copied}
use Rattle.life_core.proofs.RunsLemmas.{joins_last, last_joins}
use Rattle.life_core.proofs.runs.is_joined.Goals as goal

pub returns-in-Some : goal.returns-in-Some
returns-in-Some c =
    let got = sym c.last.ensures.value ∙ ap option_copied c.in-Some.is in (
      λ t. joins_last c.args.runs.now c.in-Some.last.now c.args.run got (c.is_joined_by.ensures.0 t),
      λ h. c.is_joined_by.ensures.1 (last_joins c.args.runs.now c.in-Some.last.now c.args.run got h),
    )
