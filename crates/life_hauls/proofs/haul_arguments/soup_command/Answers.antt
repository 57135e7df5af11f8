use Rattle.life_hauls.proofs.haul_arguments.soup_command.Goals as goal

pub returns : goal.returns
returns c =
    let first = c.with_arg-command.ensures.app _ _ c.named_command.ensures.app c.root_arg.ensures.rule in
    let second = c.with_arg-command-2.ensures.app _ _ first c.number_arg.ensures.rule in
    let third = c.with_arg-command-3.ensures.app _ _ second c.rule_arg.ensures.rule in
    let local = c.with_arg-command-3.ensures.local
    (c.with_arg-command-2.ensures.local (c.with_arg-command.ensures.local c.named_command.ensures.local)) in
    (c.with_arg.ensures.app _ _ third c.symmetry_arg.ensures.rule, c.with_arg.ensures.local local)
