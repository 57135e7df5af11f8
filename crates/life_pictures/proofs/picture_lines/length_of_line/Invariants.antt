use Rattle.std.proofs.Common.{◌≡◌, ◌≤◌}
use Rattle.life_pictures.specs.PictureLines.{cells_of_line}
use Rattle.life_pictures.proofs.picture_lines.length_of_line.Given as goal

abbrev pub invariant-loop-length : goal.invariant-loop-length
invariant-loop-length g l = record {
  trimmed : cells_of_line l.pattern l.width l.i ≡ cells_of_line l.pattern l.length l.i;
  within : l.length ≤ l.width;
}

abbrev pub decreases-loop-length : goal.decreases-loop-length
decreases-loop-length g l = l.length
