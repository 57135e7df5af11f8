use Rattle.std.proofs.Common.{take, true}
use Rattle.std.specs.List.{All}
use Rattle.life_census.specs.Steady.{Stays}
use Rattle.life_census.specs.SteadyState.{AreVisits, IsVisitInPlane}
use Rattle.life_census.specs.SurveyState.{IsSurvey}
use Rattle.life_census.proofs.meeting.all_visits.Given as goal

abbrev pub invariant-loop-number : goal.invariant-loop-number
invariant-loop-number g l = record {
  survey : IsSurvey l.search.rule l.search.limit true l.shapes.items;
  stay : All (Stays l.search.rule l.search.limit) (take l.number l.clusters);
  visits : AreVisits l.search.rule l.clusters l.number l.visits.items;
  inside : All IsVisitInPlane l.visits.items;
}
