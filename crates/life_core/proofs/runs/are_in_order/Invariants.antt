use Rattle.std.proofs.Common.{ℕ, ◌+◌, ◌<◌, get_or}
use Rattle.life_core.specs.declared.runs.Run.{Run}
use Rattle.life_core.specs.Runs.{IsRunBefore}
use Rattle.life_core.proofs.runs.are_in_order.Given as goal

-- each run before the index ends before the next begins
abbrev pub invariant-loop-i : goal.invariant-loop-i
invariant-loop-i l = (k : ℕ) (d : Run) → k + 1 < l.i → IsRunBefore (get_or l.runs k d) (get_or l.runs (k + 1) d)
