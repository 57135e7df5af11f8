use Rattle.life_pictures.proofs.draw_arguments.animation_command.Goals as goal

pub returns : goal.returns
returns c =
    let first = c.with_arg-command.ensures.app _ _ c.named_command.ensures.app c.number_arg.ensures.rule in (
      c.with_arg.ensures.app _ _ first c.number_arg-2.ensures.rule,
      c.with_arg.ensures.local (c.with_arg-command.ensures.local c.named_command.ensures.local),
    )
