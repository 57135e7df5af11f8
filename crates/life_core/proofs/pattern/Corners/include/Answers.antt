use Rattle.std.proofs.Common.{w64, ◌∙◌, rules}
use Rattle.std.specs.Prelude.{FitsSigned}
use Rattle.std.specs.Int.{int_max, int_min}
use Rattle.std.proofs.lemmas.Int.{to_z-of_z}
use Rattle.life_core.proofs.pattern.Corners.include.Goals as goal

pub returns-clause-left : goal.returns-clause-left
returns-clause-left c =
    let old : FitsSigned w64 c.args.self.now.left = search rules in
    let here : FitsSigned w64 c.args.first.column = search rules in
    to_z-of_z w64 c.min-self.result (record { sfits = c.min-self.type_inv }) ∙ c.min-self.ensures.value
    ∙ (λ i. int_min (to_z-of_z w64 c.args.self.now.left old i) (to_z-of_z w64 c.args.first.column here i))

pub returns-clause-right : goal.returns-clause-right
returns-clause-right c =
    let old : FitsSigned w64 c.args.self.now.right = search rules in
    let here : FitsSigned w64 c.args.last.column = search rules in
    to_z-of_z w64 c.max-self.result (record { sfits = c.max-self.type_inv }) ∙ c.max-self.ensures.value
    ∙ (λ i. int_max (to_z-of_z w64 c.args.self.now.right old i) (to_z-of_z w64 c.args.last.column here i))

pub returns-clause-top : goal.returns-clause-top
returns-clause-top c =
    let old : FitsSigned w64 c.args.self.now.top = search rules in
    let here : FitsSigned w64 c.args.first.row = search rules in
    to_z-of_z w64 c.min-self-2.result (record { sfits = c.min-self-2.type_inv }) ∙ c.min-self-2.ensures.value
    ∙ (λ i. int_min (to_z-of_z w64 c.args.self.now.top old i) (to_z-of_z w64 c.args.first.row here i))

pub returns-clause-bottom : goal.returns-clause-bottom
returns-clause-bottom c =
    let old : FitsSigned w64 c.args.self.now.bottom = search rules in
    let here : FitsSigned w64 c.args.last.row = search rules in
    to_z-of_z w64 c.max-self-2.result (record { sfits = c.max-self-2.type_inv }) ∙ c.max-self-2.ensures.value
    ∙ (λ i. int_max (to_z-of_z w64 c.args.self.now.bottom old i) (to_z-of_z w64 c.args.last.row here i))
