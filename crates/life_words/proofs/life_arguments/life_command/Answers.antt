use Rattle.life_words.proofs.life_arguments.life_command.Goals as goal

pub returns : goal.returns
returns c =
    let generation = c.with_arg-generation.ensures.app _ _ c.named_command.ensures.app c.generation_arg.ensures.rule in
    let kind = c.with_arg-kind.ensures.app _ _ c.named_command-2.ensures.app c.limit_arg.ensures.rule in
    let first = c.with_command-command.ensures _ _ c.bare_command.ensures generation in
    let second = c.with_command-command-2.ensures _ _ first kind in
    let third = c.with_command-command-3.ensures _ _ second c.object_command.ensures.0 in
    let fourth = c.with_command-command-4.ensures _ _ third c.census_command.ensures.0 in
    let fifth = c.with_command-command-5.ensures _ _ fourth c.deposit_command.ensures.0 in
    let sixth = c.with_command-command-6.ensures _ _ fifth c.serve_command.ensures.0 in
    let seventh = c.with_command-command-7.ensures _ _ sixth c.check_command.ensures.0 in
    c.with_command.ensures _ _ seventh (c.explain_command.ensures.app c.name_arg.ensures.rule)
