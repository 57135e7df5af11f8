use Rattle.std.proofs.Common.{◌≡◌, ◌+◌, ◌-◌, subst, arith}
use Rattle.life_core.specs.PackedBlocksState.{AreSumsAt}
use Rattle.life_core.proofs.BlockRows.{row_next}
use Rattle.life_core.proofs.packed.blocks.next_rows.Goals as goal

pub returns : goal.returns
returns g c r rows words k is first a b =
    let above = c.args.above in
    let below = c.args.below in
    let here = c.between.result in
    let sides = c.between-2.result in
    let sides2 = c.between-3.result in
    let own : k - words + words ≡ k = omega (arith, first) in
    let before : k - words + words ≡ k + words - words = omega (arith, first) in
    let middle = subst (λ m. AreSumsAt rows m (λ p. 128 + p) above) own a.lower in
    let up = subst (λ m. AreSumsAt rows m (λ p. 128 + p) above) before a.lower in
    record {
      upper =
          λ p lt. row_next r rows words k (λ p. p) (λ p. 128 + p) p above above below here sides sides2
          c.next_lanes.result first a.upper middle b.upper lt
          (c.between.ensures.first p lt) (c.between-2.ensures.first p lt) (c.between-3.ensures.first p lt)
          (c.next_lanes.ensures r is p (omega (arith, lt)));
      lower =
          λ p lt. row_next r rows words (k + words) (λ p. 128 + p) (λ p. p) p above below below here sides sides2
          c.next_lanes.result (omega (arith, first)) up b.upper b.lower lt
          (c.between.ensures.second p lt) (c.between-2.ensures.second p lt) (c.between-3.ensures.second p lt)
          (c.next_lanes.ensures r is (128 + p) (omega (arith, lt)));
    }
