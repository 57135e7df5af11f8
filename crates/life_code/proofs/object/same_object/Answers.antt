use Rattle.std.proofs.Common.{◌≡◌, ◌∙◌, subst, IsTrue}
use Rattle.std.specs.Prelude.{nat_eq, ◌↔◌}
use lib.Pointwise.{pointwise}
use Rattle.life_code.specs.Codes.{Same}
use Rattle.life_code.specs.Object.{CodedCells}
use Rattle.life_code.proofs.ObjectLemmas.{texts_decide, one_rule}
use Rattle.life_code.proofs.object.same_object.Goals as goal

pub returns-then-eq : goal.returns-then-eq
returns-then-eq g c =
    let va : CodedCells = record {
      rule = c.a.inside.rule;
      cells = c.a.inside.pattern;
      limit = c.a.inside.limit;
      text = c.a.inside.text.items;
    } in
    let vb : CodedCells = record {
      rule = c.b.inside.rule;
      cells = c.b.inside.pattern;
      limit = c.b.inside.limit;
      text = c.b.inside.text.items;
    } in
    let texts = texts_decide c.a.inside.text.items c.b.inside.text.items c.eq-then-eq.result (c.eq-then-eq.ensures
    ∙ (λ i. pointwise nat_eq (c.as_slice.ensures.value i) (c.as_slice-then-eq.ensures.value i))) in
    let P : CodedCells → CodedCells
    → Type 0 = λ a b. (IsTrue c.eq-then-eq.result) ↔ ((a.rule ≡ b.rule) × Same a.rule a.cells b.cells) in
    subst (λ a. P a c.args.b.now) c.a.view_is (subst (λ b. P va b) c.b.view_is
    (one_rule va vb c.a.invariant c.b.invariant (c.eq.ensures.same.0 c.if-eq.true) c.eq-then-eq.result texts))
