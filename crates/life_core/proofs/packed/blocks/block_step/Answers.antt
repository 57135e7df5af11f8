use Rattle.std.proofs.Common.{◌≡◌, ℕ, ◌+◌, ◌-◌, ◌*◌, ◌≤◌, List, length, slice_index_or, bit_or, lit≤, ap, subst, ◌∙◌}
use Rattle.std.proofs.Common.{arith}
use Rattle.std.specs.Simd.Lanes.{zip2}
use Rattle.std.proofs.lemmas.Simd.{length-zip2}
use Rattle.life_core.specs.PackedRow.{place}
use Rattle.life_core.specs.Rule.{RuleSets}
use Rattle.life_core.specs.PackedBlocksState.{flat_next, AreTwoRows, IsOutside, IsRowStep, IsBlockStep}
use Rattle.life_core.proofs.BlockRows.{rest_first, rest_more, block_first, block_more, block_last, block_top, row_put}
use Rattle.life_core.proofs.packed.blocks.block_step.Goals as goal

pub loop-i-init : goal.loop-i-init
loop-i-init g c =
    let rows = c.args.rows.now in
    let words = c.args.words in
    let at = c.args.at in
    let old = c.args.out.now in
    let mid = c.put_lanes-top.new.out in
    let new = c.put_lanes-bottom.new.out in
    let top = c.put_lanes-top.result in
    let bottom = c.put_lanes-bottom.result in
    let wide = c.requires.wide in
    let upper = c.put_lanes-top.ensures in
    let lower = c.put_lanes-bottom.ensures in
    let N : RuleSets → ℕ → ℕ = (λ r. flat_next r rows (64 * words)) in
    let back : at + words ≡ at + 2 * words - words = omega arith in
    let down : at + words ≡ at + 1 * words = omega arith in
    let size : length top ≡ length bottom = omega arith in
    let next = λ (r : RuleSets) (is : g.R.Evolves.is_of c.args.rule.now r). c.next_rows-next.ensures r rows words at is
    c.requires.first c.two_sums-before.ensures c.two_sums-above.ensures in
    let first : (r : RuleSets) → g.R.Evolves.is_of c.args.rule.now r → IsRowStep 2 (N r) at old mid top =
    (λ r is. row_put (N r) at old mid c.left_half.result top upper.long upper.rest upper.put upper.same
    (λ p lt. c.left_half.ensures p lt ∙ (next r is).upper p lt)) in
    let second : (r : RuleSets) → g.R.Evolves.is_of c.args.rule.now r
    → IsRowStep 2 (N r) (at + words) mid new bottom =
    (λ r is. row_put (N r) (at + words) mid new c.right_half.result bottom lower.long lower.rest lower.put lower.same
    (λ p lt. c.right_half.ensures p lt ∙ (next r is).lower p lt)) in
    record {
      at = omega arith;
      above = subst (λ (k : ℕ). AreTwoRows rows words k c.two_sums-above.result) back c.two_sums-above.ensures;
      rest = rest_more 2 at words 1 (at + words) old mid new down (rest_first 2 at words old mid upper.rest) lower.rest;
      done =
          λ r is. block_more 2 (N r) at words 1 (at + words) old mid new top bottom wide down size
          (block_first 2 (N r) at words old mid top (first r is)) (second r is);
      top =
          λ r is p lt dead. block_top 2 (N r) at words 1 (at + words) mid new bottom wide (lit≤ tt) down
          (second r is) p lt ∙ (first r is).same p lt dead;
      bottom =
          λ r is p lt dead. subst (λ (m : ℕ). place new (64 * m + p) ≡ place old (64 * m + p)) back
          (block_last 2 (N r) at words 1 (at + words) old mid new top bottom wide down
          (block_first 2 (N r) at words old mid top (first r is)) (second r is) p lt dead);
    }

pub loop-i-preserved : goal.loop-i-preserved
loop-i-preserved g c =
    let rows = c.args.rows.now in
    let words = c.args.words in
    let at = c.args.at in
    let old = c.args.out.now in
    let i = c.loop-i._i in
    let k = c.loop-i.k in
    let out = c.loop-i.out in
    let mid = c.put_lanes-upper.new.out in
    let new = c.put_lanes-bottom-in-loop-i.new.out in
    let all = c.loop-i.all in
    let upper = c.put_lanes-upper in
    let lower = c.put_lanes-bottom-in-loop-i in
    let inv = c.loop-i.invariant in
    let wide = c.requires.wide in
    let N : RuleSets → ℕ → ℕ = (λ r. flat_next r rows (64 * words)) in
    let both : List ℕ = zip2 bit_or all upper.result in
    let back : k + words ≡ k + 2 * words - words = omega arith in
    let down : k + words ≡ at + (2 * i + 1) * words = omega (arith, inv.at) in
    let end : 2 * i + 1 + 1 ≡ 2 * (i + 1) = omega arith in
    let some : 1 ≤ 2 * i = omega (arith, c.loop-i.auto._i) in
    let size : length all ≡ length upper.result = omega arith in
    let size_both : length both ≡ length lower.result =
    omega (arith, length-zip2 bit_or all upper.result size) in
    let next = λ (r : RuleSets) (is : g.R.Evolves.is_of c.args.rule.now r). c.next_rows-next-in-loop-i.ensures r rows
    words k is (omega (arith, inv.at, c.requires.first)) inv.above c.two_sums-below.ensures in
    let first : (r : RuleSets) → g.R.Evolves.is_of c.args.rule.now r → IsRowStep 2 (N r) k out mid upper.result =
    (λ r is. row_put (N r) k out mid c.left_half-in-loop-i.result upper.result upper.ensures.long upper.ensures.rest
    upper.ensures.put upper.ensures.same (λ p lt. c.left_half-in-loop-i.ensures p lt ∙ (next r is).upper p lt)) in
    let second : (r : RuleSets) → g.R.Evolves.is_of c.args.rule.now r
    → IsRowStep 2 (N r) (k + words) mid new lower.result =
    (λ r is. row_put (N r) (k + words) mid new c.right_half-in-loop-i.result lower.result lower.ensures.long
    lower.ensures.rest lower.ensures.put lower.ensures.same
    (λ p lt. c.right_half-in-loop-i.ensures p lt ∙ (next r is).lower p lt)) in
    let done : (r : RuleSets) → g.R.Evolves.is_of c.args.rule.now r
    → IsBlockStep 2 (N r) at words (2 * i + 1) old mid both =
    (λ r is. block_more 2 (N r) at words (2 * i) k old out mid all upper.result wide inv.at size (inv.done r is)
    (first r is)) in
    record {
      at = omega (arith, inv.at);
      above = subst (λ (m : ℕ). AreTwoRows rows words m c.two_sums-below.result) back c.two_sums-below.ensures;
      rest =
          subst (λ (n : ℕ). (j : ℕ) → IsOutside 2 at words n j → slice_index_or new j 0 ≡ slice_index_or old j 0) end
          (rest_more 2 at words (2 * i + 1) (k + words) old mid new down
          (rest_more 2 at words (2 * i) k old out mid inv.at inv.rest upper.ensures.rest) lower.ensures.rest);
      done =
          λ r is. subst (λ (n : ℕ). IsBlockStep 2 (N r) at words n old new (zip2 bit_or both lower.result)) end
          (block_more 2 (N r) at words (2 * i + 1) (k + words) old mid new both lower.result wide down size_both
          (done r is) (second r is));
      top =
          λ r is p lt dead. block_top 2 (N r) at words (2 * i + 1) (k + words) mid new lower.result wide
          (omega arith) down (second r is) p lt
          ∙ block_top 2 (N r) at words (2 * i) k out mid upper.result wide some inv.at (first r is) p lt
          ∙ inv.top r is p lt dead;
      bottom =
          λ r is p lt dead. subst (λ (m : ℕ). place new (64 * m + p) ≡ place old (64 * m + p)) back
          (block_last 2 (N r) at words (2 * i + 1) (k + words) old mid new both lower.result wide down
          (done r is) (second r is) p lt dead);
    }

pub returns-clause-block : goal.returns-clause-block
returns-clause-block g c r is =
    let words = c.args.words in
    let at = c.args.at in
    let i = c.loop-i._i in
    let inv = c.loop-i.invariant in
    let old = c.args.out.now in
    let out = c.loop-i.out in
    let N : ℕ → ℕ = flat_next r c.args.rows.now (64 * words) in
    let last : i ≡ 8 = omega (arith, c.loop-i.auto._i-end (lit≤ tt), c.loop-i-test.false) in
    let end : 2 * i ≡ 16 = omega (arith, last) in
    let here : c.loop-i.k - words ≡ at + 15 * words = omega (arith, inv.at, ap (λ (m : ℕ). 2 * m * words) last) in
    record {
      all = subst (λ (n : ℕ). IsBlockStep 2 N at words n old out c.loop-i.all) end (inv.done r is);
      top = inv.top r is;
      bottom =
          λ p lt dead. subst (λ (m : ℕ). place out (64 * m + p) ≡ place old (64 * m + p)) here
          (inv.bottom r is p lt dead);
    }
