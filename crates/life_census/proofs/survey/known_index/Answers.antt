use Rattle.std.proofs.Common.{rules, SFits, w64, to_z-of_z}
use Rattle.life_census.proofs.SurveyLaws.{shape_moved}
use Rattle.life_census.proofs.survey.known_index.Goals as goal

pub returns-in-Some : goal.returns-in-Some
returns-in-Some g c =
    let column : SFits w64 c.in-Some.column = search rules in
    let row : SFits w64 c.in-Some.row = search rules in
    shape_moved c.args.shapes.now c.index-shapes-i.result c.args.cluster.now c.loop-i.i _ _
    _ _ c.loop-i-test.true c.index-shapes-i.is (to_z-of_z column) (to_z-of_z row) c.in-Some.ensures.1
