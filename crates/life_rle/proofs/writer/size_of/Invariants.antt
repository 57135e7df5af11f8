use Rattle.std.proofs.Common.{◌≡◌, take, map}
use Rattle.life_core.specs.Runs.{runs_cells}
use Rattle.life_rle.specs.Writer.{width_of, height_of, coordinates}
use Rattle.life_rle.proofs.writer.size_of.Given as goal

abbrev pub invariant-loop-run : goal.invariant-loop-run
invariant-loop-run l =
    (l.width ≡ width_of (map coordinates (runs_cells (take l.run-index l.runs))))
    × (l.height ≡ height_of (map coordinates (runs_cells (take l.run-index l.runs))))
