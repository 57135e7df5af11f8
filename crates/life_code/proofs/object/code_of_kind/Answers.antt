use Rattle.std.proofs.Common.{refl, ◌∙◌, sym, ap}
use Rattle.life_code.specs.CodesState.{bytes_of}
use Rattle.life_code.proofs.ObjectLemmas.{kind_within, code_is, code_of_copy}
use Rattle.life_code.proofs.object.code_of_kind.Goals as goal

pub code_by_kind-requires-clause-few : goal.code_by_kind-requires-clause-few
code_by_kind-requires-clause-few g c =
    kind_within c.args.rule.now c.args.pattern.now c.args.limit _ c.args.kind c.requires.few c.requires.kind

pub invariant_of-result : goal.invariant_of-result
invariant_of-result g c =
    code_of_copy c.args.rule.now c.args.pattern.now _ c.args.limit c.args.kind c.in-Some.text.items
    c.in_ok-copy-in-Some.ensures c.requires.kind (ap bytes_of (sym c.in-Some.is) ∙ c.in_ok-code_by_kind.ensures)

pub returns-in-None : goal.returns-in-None
returns-in-None g c =
    code_is c.args.rule.now c.args.pattern.now c.args.limit c.args.kind _ c.requires.kind
    (ap bytes_of (sym c.in-None.is) ∙ c.in_ok-code_by_kind.ensures)

pub returns-in_ok-copy-in-Some : goal.returns-in_ok-copy-in-Some
returns-in_ok-copy-in-Some g c = (
  code_is c.args.rule.now c.args.pattern.now c.args.limit c.args.kind _ c.requires.kind
      (ap bytes_of (sym c.in-Some.is) ∙ c.in_ok-code_by_kind.ensures),
  refl,
  c.in_ok-copy-in-Some.ensures,
  refl,
)
