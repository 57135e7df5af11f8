use Rattle.life_words.proofs.life_arguments.deposit_command.Goals as goal

pub returns : goal.returns
returns c =
    let first = c.with_arg-command.ensures.app _ _ c.named_command.ensures.app c.file_arg.ensures.rule in
    let second = c.with_arg-command-2.ensures.app _ _ first c.text_arg.ensures.rule in
    let local = c.with_arg-command-2.ensures.local (c.with_arg-command.ensures.local c.named_command.ensures.local) in
    (c.with_arg.ensures.app _ _ second c.text_arg-2.ensures.rule, c.with_arg.ensures.local local)
