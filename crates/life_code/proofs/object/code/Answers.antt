use Rattle.life_code.proofs.ObjectLemmas.{codes_of_object}
use Rattle.life_code.proofs.object.code.Goals as goal

pub returns-clause-object : goal.returns-clause-object
returns-clause-object g c =
    codes_of_object c.args.rule.now c.args.pattern.now c.args.limit c.code_of_kind.result c.code_of_kind.ensures
