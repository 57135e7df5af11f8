use Rattle.std.proofs.Common.{◌≡◌, List, length, arith, subst}
use Rattle.life_census.specs.declared.survey.Shape.{Shape}
use Rattle.life_census.specs.SurveyState.{HasShapeAt}
use Rattle.life_census.proofs.SurveyLaws.{survey_more, code_at, shape_last}
use Rattle.life_census.proofs.survey.Search.shape_index.Goals as goal

pub returns-in-Some-clause-code : goal.returns-in-Some-clause-code
returns-in-Some-clause-code g c =
    let index = c.in-Some.index in
    let at = subst (λ (ss : List (Shape g.row.A.Denot)). HasShapeAt ss c.args.cluster.now index.0 index.1)
    c.deref.ensures.value c.in-Some.ensures in
    code_at c.args.self.now.rule c.args.self.now.limit c.args.shapes.now.items c.args.cluster.now
    index.0 index.1 at c.args.listed c.requires.survey

pub returns-clause-survey : goal.returns-clause-survey
returns-clause-survey g c =
    survey_more c.args.self.now.rule c.args.self.now.limit c.args.listed c.args.shapes.now.items
    c.add_shape.new.shapes.items c.in_ok-shape.shape c.requires.survey c.in_ok-shape.ensures.shape
    c.in_ok-add_shape.ensures.added

pub returns-clause-index : goal.returns-clause-index
returns-clause-index g c =
    let end : c.len-i.result ≡ length c.args.shapes.now.items = omega (arith, c.len-i.ensures, c.args.shapes.now.ok) in
    shape_last c.args.shapes.now.items c.add_shape.new.shapes.items c.in_ok-shape.shape c.args.cluster.now
    c.len-i.result c.in_ok-add_shape.ensures.added end c.in_ok-shape.ensures.cluster

pub returns-clause-code : goal.returns-clause-code
returns-clause-code g c =
    code_at c.args.self.now.rule c.args.self.now.limit c.add_shape.new.shapes.items c.args.cluster.now c.len-i.result _
    (returns-clause-index g c) c.args.listed (returns-clause-survey g c)
