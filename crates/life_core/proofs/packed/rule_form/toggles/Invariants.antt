use Rattle.std.proofs.Common.{◌≡◌, ℕ, ◌<◌, bit_xor, length, get_or}
use Rattle.life_core.proofs.packed.rule_form.toggles.Given as goal

abbrev pub invariant-loop-n : goal.invariant-loop-n
invariant-loop-n l = record {
  long : length l.toggles ≡ 9;
  done : (k : ℕ) → k < l.n → get_or l.toggles k 0 ≡ bit_xor (get_or l.from k 0) (get_or l.to k 0);
}
