use Rattle.std.proofs.Common.{◌≡◌, take}
use Rattle.life_core.specs.RuleText.{without_blanks}
use Rattle.life_rle.proofs.line_reader.without_blanks.Given as goal

abbrev pub invariant-loop-byte : goal.invariant-loop-byte
invariant-loop-byte g l = l.text.items ≡ without_blanks (take l.byte-index l.line)
