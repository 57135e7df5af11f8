use Rattle.std.specs.Prelude.{IsTrue}
use Rattle.std.proofs.Common.{ℕ, ◌≡◌, ◌<◌, get_or, false}
use Rattle.life_core.proofs.rule.are_same.Given as goal

abbrev pub invariant-loop-count : goal.invariant-loop-count
invariant-loop-count l = record {
  all : IsTrue l.same → (k : ℕ) → k < l.count → get_or l.left k false ≡ get_or l.right k false;
  kept : l.left ≡ l.right → IsTrue l.same;
}
