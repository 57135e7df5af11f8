use Rattle.std.proofs.Common.{◌≡◌, ◌≤◌, ◌++◌, drop}
use Rattle.life_code.specs.Wechsler.{spelled}
use Rattle.life_code.proofs.wechsler.push_strip.Given as goal

abbrev pub invariant-loop-value : goal.invariant-loop-value
invariant-loop-value g l = record {
  text : l.text.items ++ spelled l.run (drop l.value-index l.columns) ≡ l.initial.text.items ++ spelled 0 l.columns;
  run : l.run ≤ l.value-index;
}
