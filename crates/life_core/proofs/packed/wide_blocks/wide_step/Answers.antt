use Rattle.std.proofs.Common.{◌≡◌, ℕ, ◌+◌, ◌-◌, ◌*◌, List, length, ap, subst, ◌∙◌, arith}
use Rattle.std.specs.Simd.Lanes.{zip2}
use Rattle.std.proofs.Common.{bit_or, lit≤}
use Rattle.life_core.specs.PackedRow.{place}
use Rattle.life_core.specs.Rule.{RuleSets}
use Rattle.life_core.specs.PackedBlocksState.{flat_next, AreWideSums, IsOutside, IsRowStep, IsBlockStep}
use Rattle.life_core.proofs.BlockRows.{rest_first, rest_more, block_first, block_more, block_last, block_top}
use Rattle.life_core.proofs.packed.wide_blocks.wide_step.Goals as goal

pub loop-i-init : goal.loop-i-init
loop-i-init g c =
    let rows = c.args.rows.now in
    let words = c.args.words in
    let at = c.args.at in
    let back : at ≡ at + words - words = omega arith in
    record {
      at = omega arith;
      above = subst (λ (k : ℕ). AreWideSums rows k c.wide_sums-first.result) back c.wide_sums-first.ensures;
      here = c.wide_sums-second.ensures;
      rest = rest_first 4 at words c.args.out.now c.wide_row-top.new.out c.wide_row-top.ensures.rest;
      done =
          λ r is. block_first 4 (flat_next r rows (64 * words)) at words c.args.out.now c.wide_row-top.new.out
          c.wide_row-top.result (c.wide_row-top.ensures.row r rows words is c.requires.first
          c.wide_sums-before.ensures c.wide_sums-first.ensures c.wide_sums-second.ensures);
      top =
          λ r is p lt dead. (c.wide_row-top.ensures.row r rows words is c.requires.first c.wide_sums-before.ensures
          c.wide_sums-first.ensures c.wide_sums-second.ensures).same p lt dead;
    }

pub loop-i-preserved : goal.loop-i-preserved
loop-i-preserved g c =
    let rows = c.args.rows.now in
    let words = c.args.words in
    let at = c.args.at in
    let k = c.loop-i.k in
    let i = c.loop-i._i in
    let inv = c.loop-i.invariant in
    let row : (r : RuleSets) → g.R.Evolves.is_of c.args.rule.now r
    → IsRowStep 4 (flat_next r rows (64 * words)) k c.loop-i.out c.wide_row-changed.new.out c.wide_row-changed.result =
    (λ r is. c.wide_row-changed.ensures.row r rows words is
    (omega (arith, inv.at, c.requires.first)) inv.above inv.here c.wide_sums-below.ensures) in
    let back : k ≡ k + words - words = omega arith in
    let size : length c.loop-i.all ≡ length c.wide_row-changed.result = omega arith in
    record {
      at = omega (arith, inv.at);
      above = subst (λ (m : ℕ). AreWideSums rows m c.loop-i.here) back inv.here;
      here = c.wide_sums-below.ensures;
      rest =
          rest_more 4 at words i k c.args.out.now c.loop-i.out c.wide_row-changed.new.out inv.at
          inv.rest c.wide_row-changed.ensures.rest;
      done =
          λ r is. block_more 4 (flat_next r rows (64 * words)) at words i k c.args.out.now
          c.loop-i.out c.wide_row-changed.new.out c.loop-i.all c.wide_row-changed.result c.requires.wide inv.at size
          (inv.done r is) (row r is);
      top =
          λ r is p lt dead. block_top 4 (flat_next r rows (64 * words)) at words i k c.loop-i.out
          c.wide_row-changed.new.out c.wide_row-changed.result c.requires.wide c.loop-i.auto._i inv.at (row r is) p lt
          ∙ inv.top r is p lt dead;
    }

pub wide_sums-after-requires-clause-last : goal.wide_sums-after-requires-clause-last
wide_sums-after-requires-clause-last g c =
    let last : c.loop-i._i ≡ 15 = omega (arith, c.loop-i.auto._i-end (lit≤ tt), c.loop-i-test.false) in
    omega (arith, c.loop-i.invariant.at, ap (λ (m : ℕ). m * c.args.words) last, c.requires.last)

pub returns-clause-rest : goal.returns-clause-rest
returns-clause-rest g c j outside =
    let i = c.loop-i._i in
    let end : 16 ≡ i + 1 = omega (arith, c.loop-i.auto._i-end (lit≤ tt), c.loop-i-test.false) in
    rest_more 4 c.args.at c.args.words i c.loop-i.k c.args.out.now c.loop-i.out c.wide_row-bottom.new.out
    c.loop-i.invariant.at c.loop-i.invariant.rest c.wide_row-bottom.ensures.rest j
    (subst (λ (n : ℕ). IsOutside 4 c.args.at c.args.words n j) end outside)

pub returns-clause-block : goal.returns-clause-block
returns-clause-block g c r is =
    let rows = c.args.rows.now in
    let words = c.args.words in
    let at = c.args.at in
    let k = c.loop-i.k in
    let i = c.loop-i._i in
    let inv = c.loop-i.invariant in
    let N : ℕ → ℕ = flat_next r rows (64 * words) in
    let old = c.args.out.now in
    let new = c.wide_row-bottom.new.out in
    let last : i ≡ 15 = omega (arith, c.loop-i.auto._i-end (lit≤ tt), c.loop-i-test.false) in
    let row : IsRowStep 4 N k c.loop-i.out new c.wide_row-bottom.result = c.wide_row-bottom.ensures.row r rows words is
    (omega (arith, inv.at, c.requires.first)) inv.above inv.here c.wide_sums-after.ensures in
    let size : length c.loop-i.all ≡ length c.wide_row-bottom.result = omega arith in
    let all : List ℕ = zip2 bit_or c.loop-i.all c.wide_row-bottom.result in
    let whole : IsBlockStep 4 N at words (i + 1) old new all = block_more 4 N at words i k
    old c.loop-i.out new c.loop-i.all c.wide_row-bottom.result c.requires.wide inv.at size (inv.done r is) row in
    let end : i + 1 ≡ 16 = omega arith in
    let here : k ≡ at + 15 * words = inv.at ∙ ap (λ (m : ℕ). at + m * words) last in
    record {
      all = subst (λ (n : ℕ). IsBlockStep 4 N at words n old new all) end whole;
      top =
          λ p lt dead. block_top 4 N at words i k c.loop-i.out new c.wide_row-bottom.result
          c.requires.wide c.loop-i.auto._i inv.at row p lt ∙ inv.top r is p lt dead;
      bottom =
          λ p lt dead. subst (λ (m : ℕ). place new (64 * m + p) ≡ place old (64 * m + p)) here
          (block_last 4 N at words i k old c.loop-i.out new c.loop-i.all c.wide_row-bottom.result c.requires.wide inv.at
          (inv.done r is) row p lt dead);
    }
