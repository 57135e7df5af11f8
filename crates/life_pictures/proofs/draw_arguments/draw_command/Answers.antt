use Rattle.life_pictures.proofs.draw_arguments.draw_command.Goals as goal

pub returns : goal.returns
returns c =
    let first = c.with_command-command.ensures _ _ c.bare_command.ensures c.named_command-text.ensures.app in
    let second = c.with_command-command-2.ensures _ _ first c.named_command-svg.ensures.app in
    c.with_command.ensures _ _ second c.animation_command.ensures.0
