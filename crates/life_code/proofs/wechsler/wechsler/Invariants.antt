use Rattle.std.proofs.Common.{◌≡◌, map}
use Rattle.std.specs.List.{range_with_len, join_with_byte}
use Rattle.life_code.specs.Wechsler.{strip}
use Rattle.life_code.proofs.wechsler.wechsler.Given as goal

abbrev pub invariant-loop-strip : goal.invariant-loop-strip
invariant-loop-strip g l = l.text.items ≡ join_with_byte 122 (map (strip l.pattern) (range_with_len 0 l.strip))
