use Rattle.std.proofs.Common.{◌≡◌, ℕ, ◌<◌, get_or}
use Rattle.life_core.specs.declared.runs.Run.{Run}
use Rattle.life_core.specs.Runs.{cells_in, AreRunsInOrder}
use Rattle.life_census.proofs.ClusterSteps.{IsParting}
use Rattle.life_census.proofs.cluster.parted.Given as goal

abbrev pub invariant-loop-i : goal.invariant-loop-i
invariant-loop-i g l = record {
  parting : IsParting (cells_in l.fn.left) l.clusters.items (cells_in l.left);
  order : AreRunsInOrder l.left;
  past : (k : ℕ) (d : Run) → k < l.i → (get_or l.left k d).len ≡ 0;
}
