use Rattle.life_words.proofs.life_arguments.census_command.Goals as goal

pub returns : goal.returns
returns c =
    let first = c.with_arg-command.ensures.app _ _ c.named_command.ensures.app c.generation_arg.ensures.rule in (
      c.with_arg.ensures.app _ _ first c.limit_arg.ensures.rule,
      c.with_arg.ensures.local (c.with_arg-command.ensures.local c.named_command.ensures.local),
    )
