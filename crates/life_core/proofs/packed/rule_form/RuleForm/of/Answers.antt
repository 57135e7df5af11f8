use Rattle.life_core.proofs.RuleForms.{form_is}
use Rattle.life_core.proofs.packed.rule_form.RuleForm.of.Goals as goal

pub returns : goal.returns
returns c =
    form_is c.args.rule.now _ c.flags.result.0.now c.flags.result.1.now c.parts_of.result c.flags.ensures.birth
    c.flags.ensures.survival c.parts_of-parts.ensures c.parts_of.ensures c.toggles-parts_here.ensures
