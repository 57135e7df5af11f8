use Rattle.life_words.proofs.life_arguments.explain_command.Goals as goal

pub returns-clause-app : goal.returns-clause-app
returns-clause-app c = λ rule. c.with_arg.ensures.app _ _ c.named_command.ensures.app rule

pub returns-clause-local : goal.returns-clause-local
returns-clause-local c = c.with_arg.ensures.local c.named_command.ensures.local
