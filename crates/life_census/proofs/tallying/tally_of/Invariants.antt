use Rattle.std.proofs.Common.{◌≡◌, ◌≤◌, false, map, take, count_by, is_none}
use Rattle.std.specs.List.{All, filter_map}
use Rattle.life_code.specs.Codes.{code_of}
use Rattle.life_census.specs.Rows.{row_seen}
use Rattle.life_census.specs.Counting.{occurrences_of}
use Rattle.life_census.specs.SurveyState.{IsSurvey}
use Rattle.life_census.proofs.tallying.tally_of.Given as goal

abbrev pub invariant-loop-cluster : goal.invariant-loop-cluster
invariant-loop-cluster g l = record {
  survey : IsSurvey l.search.rule l.search.limit false l.shapes.items;
  rows : map row_seen l.rows.items
      ≡ occurrences_of (filter_map (λ P. code_of l.search.rule P l.search.limit) (take l.cluster-index l.clusters));
  unresolved : l.unresolved ≡ count_by (λ P. is_none (code_of l.search.rule P l.search.limit))
      (take l.cluster-index l.clusters);
  bounded : All (λ r. r.count ≤ l.cluster-index) l.rows.items;
  few : l.unresolved ≤ l.cluster-index;
}
