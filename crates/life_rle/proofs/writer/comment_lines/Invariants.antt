use Rattle.std.proofs.Common.{◌≡◌, ◌++◌, take}
use Rattle.std.specs.List.{flat_map}
use Rattle.life_rle.specs.Writer.{comment_line}
use Rattle.life_rle.proofs.writer.comment_lines.Given as goal

abbrev pub invariant-loop-text : goal.invariant-loop-text
invariant-loop-text g l = l.out.items ≡ l.initial.out.items ++ flat_map comment_line (take l.text-index l.texts)
