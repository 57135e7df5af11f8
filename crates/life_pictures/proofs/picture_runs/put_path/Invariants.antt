use Rattle.std.proofs.Common.{◌≡◌, ◌++◌, take, map}
use Rattle.std.specs.List.{flat_map}
use Rattle.life_pictures.specs.PictureRuns.{run_path}
use Rattle.life_pictures.specs.PictureRunsState.{drawn}
use Rattle.life_pictures.proofs.picture_runs.put_path.Given as goal

abbrev pub invariant-loop-run : goal.invariant-loop-run
invariant-loop-run g l =
    l.out.items ≡ l.initial.out.items ++ flat_map run_path (map drawn (take l.run-index l.run-items))
