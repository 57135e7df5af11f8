use Rattle.std.proofs.Common.{◌≡◌, ◌≤◌, ◌++◌, length, sym, ap, subst, ◌∙◌, arith}
use Rattle.std.proofs.lemmas.List.{take_all, get_or_default}
use Rattle.std.proofs.lemmas.List.Elements.{All-same, All-more}
use Rattle.life_core.specs.Pattern.{IsWithin}
use Rattle.life_code.specs.declared.period.TheConstants.{PERIOD_LIMIT}
use Rattle.life_census.specs.Steady.{Stays}
use Rattle.life_census.specs.SteadyState.{AreVisits}
use Rattle.life_census.proofs.SteadyPhases.{stays_moved}
use Rattle.life_census.proofs.SteadyVisits.{phases_inside, inside_more, visits_at, visits_go_on}
use Rattle.life_census.proofs.SurveyLaws.{goes_at, moved_shape, phases_at}
use Rattle.life_census.proofs.meeting.all_visits.Goals as goal

pub returns-in_default-clause-stay : goal.returns-in_default-clause-stay
returns-in_default-clause-stay g c all =
    let P = c.index-clusters-number.result in
    goes_at c.args.search.now.rule c.args.search.now.limit c.shape_index.new.shapes.items P
    c.in_ok-i.i c.in_ok-i.move_by c.in_ok-i.ensures.index c.index.result.now c.index.ensures
    c.in_ok-i.ensures.survey c.in_default.is
    (subst (Stays c.args.search.now.rule c.args.search.now.limit) (sym c.index-clusters-number.is)
    (all c.loop-number.number P c.loop-number-test.true))

pub visit_cells-requires : goal.visit_cells-requires
visit_cells-requires g c =
    let r = c.args.search.now.rule in
    let P = c.index-clusters-number.result in
    let is = moved_shape r c.args.search.now.limit c.shape_index.new.shapes.items P c.in_ok-i.i
    c.in_ok-i.move_by c.in_ok-i.ensures.index c.index.result.now c.index.ensures c.in_ok-i.ensures.survey in
    let are = phases_at r c.args.search.now.limit c.shape_index.new.shapes.items P c.in_ok-i.i c.in_ok-i.move_by
    c.in_ok-i.ensures.index c.index.result.now c.index.ensures c.in_ok-i.ensures.survey c.in-Some.phases c.in-Some.is in
    let room = subst (IsWithin 400000000) (sym c.index-clusters-number.is)
    (c.requires.room c.loop-number.number P c.loop-number-test.true) in
    let few : are.0 ≤ PERIOD_LIMIT = omega (arith, are.1.few, c.requires.survey.few) in
    phases_inside r c.index.result.now.cluster P c.in_ok-i.move_by are.0 c.deref.result.now is room few
    (c.deref.ensures.value ∙ are.2)

pub loop-number-preserved : goal.loop-number-preserved
loop-number-preserved g c =
    let r = c.args.search.now.rule in
    let limit = c.args.search.now.limit in
    let Ps = c.args.clusters.now in
    let n = c.loop-number.number in
    let P = c.index-clusters-number.result in
    let low = c.loop-number-test.true in
    let v = c.in_ok-i.move_by in
    let X = c.index.result.now.cluster in
    let before = c.loop-number.invariant in
    let is = moved_shape r limit c.shape_index.new.shapes.items P c.in_ok-i.i v c.in_ok-i.ensures.index
    c.index.result.now c.index.ensures c.in_ok-i.ensures.survey in
    let are = phases_at r limit c.shape_index.new.shapes.items P c.in_ok-i.i v c.in_ok-i.ensures.index
    c.index.result.now c.index.ensures c.in_ok-i.ensures.survey c.in-Some.phases c.in-Some.is in
    let room = subst (IsWithin 400000000) (sym c.index-clusters-number.is) (c.requires.room n P low) in
    let few : are.0 ≤ PERIOD_LIMIT = omega (arith, are.1.few, c.requires.survey.few) in
    let cells = c.deref.ensures.value ∙ are.2 in
    record {
      survey = c.in_ok-i.ensures.survey;
      stay =
          All-more (Stays r limit) Ps n P low before.stay
          (subst (Stays r limit) (sym is ∙ c.index-clusters-number.is) (stays_moved r limit X v are.1.stays));
      visits =
          visits_go_on r limit Ps n are.0 v X P c.loop-number.visits.items _ before.visits
          (λ d. get_or_default Ps n d P low ∙ sym c.index-clusters-number.is) is are.1
          (c.in_ok-visit_cells.ensures ∙ ap (λ cs. c.loop-number.visits.items ++ visits_at n v cs) cells);
      inside =
          inside_more c.loop-number.visits.items _ c.deref.result.now n v c.in_ok-visit_cells.ensures
          (phases_inside r X P v are.0 c.deref.result.now is room few cells) before.inside;
    }

pub returns-clause-stay : goal.returns-clause-stay
returns-clause-stay g c =
    All-same (Stays c.args.search.now.rule c.args.search.now.limit) _ _
    (sym (take_all c.loop-number.number c.args.clusters.now c.loop-number-test.false)) c.loop-number.invariant.stay

pub returns-clause-visits : goal.returns-clause-visits
returns-clause-visits g c =
    let end : c.loop-number.number ≡ length c.args.clusters.now =
    omega (arith, c.loop-number-test.false, c.loop-number.auto.number-end) in
    subst (λ n. AreVisits c.args.search.now.rule c.args.clusters.now n c.loop-number.visits.items)
    end c.loop-number.invariant.visits
