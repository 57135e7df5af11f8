use Rattle.life_hauls.proofs.haul_arguments.haul_command.Goals as goal

pub returns : goal.returns
returns c =
    let first = c.with_arg-command.ensures.app _ _ c.bare_command.ensures c.root_arg.ensures.rule in
    let second = c.with_arg-command-2.ensures.app _ _ first c.number_arg.ensures.rule in
    let third = c.with_arg-command-3.ensures.app _ _ second c.number_arg-2.ensures.rule in
    let fourth = c.with_arg-command-4.ensures.app _ _ third c.generation_arg.ensures.rule in
    let fifth = c.with_arg-command-5.ensures.app _ _ fourth c.limit_arg.ensures.rule in
    let sixth = c.with_arg-command-6.ensures.app _ _ fifth c.rule_arg.ensures.rule in
    let seventh = c.with_arg-command-7.ensures.app _ _ sixth c.symmetry_arg.ensures.rule in
    c.with_command.ensures _ _ seventh c.soup_command.ensures.0
