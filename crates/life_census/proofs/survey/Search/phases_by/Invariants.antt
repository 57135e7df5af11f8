use Rattle.std.specs.Prelude.{◌≡◌}
use Rattle.life_core.specs.Generations.{generation_of}
use Rattle.life_census.specs.SurveyState.{phases_of}
use Rattle.life_census.proofs.survey.Search.phases_by.Given as goal

abbrev pub invariant-loop-i : goal.invariant-loop-i
invariant-loop-i g l = record {
  phase : g.P.Plane.cells l.plane ≡ generation_of l.self.rule l.cluster l._i;
  cells : l.cells.items ≡ phases_of l.self.rule l.cluster l._i;
}
