use Rattle.std.proofs.Common.{◌≡◌, ◌-◌, None}
use Rattle.life_core.specs.Generations.{generation_of}
use Rattle.life_code.specs.CodesState.{kept_least, bytes_of}
use Rattle.life_code.specs.Codes.{candidates}
use Rattle.life_code.proofs.codes.least_text.Given as goal

abbrev pub invariant-loop-i : goal.invariant-loop-i
invariant-loop-i g l = record {
  phase : l.phase ≡ generation_of l.rule l.pattern (l.i - 1);
  best : bytes_of l.best ≡ kept_least None (candidates l.rule l.pattern l.i);
}
