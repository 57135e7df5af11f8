use Rattle.std.proofs.Common.{◌≡◌, false, map, take}
use Rattle.life_code.specs.Codes.{code_of}
use Rattle.life_census.specs.SurveyState.{IsSurvey}
use Rattle.life_census.proofs.code_cache.named.Given as goal

abbrev pub invariant-loop-cluster : goal.invariant-loop-cluster
invariant-loop-cluster g l = record {
  survey : IsSurvey l.search.rule l.search.limit false l.shapes.items;
  codes : l.codes.items ≡ map (λ P. code_of l.search.rule P l.search.limit) (take l.cluster-index l.clusters);
}
