use Rattle.std.proofs.Common.{◌≡◌, ◌++◌, take}
use Rattle.std.specs.List.{flat_map}
use Rattle.life_check.specs.Report.{error_line}
use Rattle.life_check.proofs.report.push_errors.Given as goal

abbrev pub invariant-loop-wrong : goal.invariant-loop-wrong
invariant-loop-wrong l = l.lines.items ≡ l.initial.lines.items ++ flat_map error_line (take l.wrong-index l.errors)
