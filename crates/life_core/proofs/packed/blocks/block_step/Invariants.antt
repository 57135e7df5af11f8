use Rattle.std.specs.Prelude.{◌≡◌, ℕ, ◌+◌, ◌-◌, ◌*◌, ◌<◌, slice_index_or}
use Rattle.life_core.specs.PackedRow.{place}
use Rattle.life_core.specs.Rule.{RuleSets}
use Rattle.life_core.specs.PackedBlocksState.{flat_next, AreTwoRows, IsOutside, IsBlockStep}
use Rattle.life_core.proofs.packed.blocks.block_step.Given as goal

abbrev pub invariant-loop-i : goal.invariant-loop-i
invariant-loop-i g l = record {
  at : l.k ≡ l.at + 2 * l._i * l.words;
  above : AreTwoRows l.rows l.words (l.k - l.words) l.above;
  rest : (j : ℕ) → IsOutside 2 l.at l.words (2 * l._i) j → slice_index_or l.out j 0 ≡ slice_index_or l.fn.out j 0;
  done : (r : RuleSets) → g.R.Evolves.is_of l.rule r
      → IsBlockStep 2 (flat_next r l.rows (64 * l.words)) l.at l.words (2 * l._i) l.fn.out l.out l.all;
  top : (r : RuleSets) → g.R.Evolves.is_of l.rule r → (p : ℕ) → p < 128 → place l.top p ≡ 0
      → place l.out (64 * l.at + p) ≡ place l.fn.out (64 * l.at + p);
  bottom : (r : RuleSets) → g.R.Evolves.is_of l.rule r → (p : ℕ) → p < 128 → place l.bottom p ≡ 0
      → place l.out (64 * (l.k - l.words) + p) ≡ place l.fn.out (64 * (l.k - l.words) + p);
}
