use Rattle.std.proofs.Common.{◌≡◌, ◌++◌, map}
use Rattle.std.specs.List.{flat_map, range_with_len}
use Rattle.std.specs.Char.{encode_utf8}
use Rattle.life_pictures.specs.PictureLines.{two_cells, half_block}
use Rattle.life_pictures.proofs.picture_lines.put_line.Given as goal

abbrev pub invariant-loop-column : goal.invariant-loop-column
invariant-loop-column g l =
    l.out.items ≡ l.initial.out.items ++ flat_map (λ two. encode_utf8 (half_block two))
    (map (two_cells l.pattern l.i) (range_with_len 0 l.column))
