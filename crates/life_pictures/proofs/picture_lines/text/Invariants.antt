use Rattle.std.proofs.Common.{◌≡◌}
use Rattle.std.specs.List.{flat_map, range_with_len}
use Rattle.life_pictures.specs.PictureLines.{line}
use Rattle.life_pictures.proofs.picture_lines.text.Given as goal

abbrev pub invariant-loop-i : goal.invariant-loop-i
invariant-loop-i g l = l.out.items ≡ flat_map (line l.record.cells l.extent.width) (range_with_len 0 l.i)
