use Rattle.std.proofs.Common.{◌≡◌, arith, pos, ◌+ℤ◌, ◌<ℤ◌, to_z, of_z, w64, subst}
use Rattle.std.proofs.lemmas.Int.{ints, by_lt_z}
use Rattle.life_census.proofs.NearLaws.{rows_near}
use Rattle.life_census.proofs.FloodLaws.{grown_none, grown_trans, order_kept, none_kept}
use Rattle.life_census.proofs.flood.take_near.Goals as goal

pub loop-near-init : goal.loop-near-init
loop-near-init g c = record {
  low = omega (arith, ints);
  grown = grown_none _ _ _;
  clear = λ d round before. let up = round.rows_up in absurd (omega (arith, ints));
}

pub take_row-requires-clause-order : goal.take_row-requires-clause-order
take_row-requires-clause-order g c =
    order_kept c.args.left.now c.loop-near.left c.loop-near.invariant.grown.kept c.requires

pub take_row-requires-clause-row : goal.take_row-requires-clause-row
take_row-requires-clause-row g c =
    let high : to_z w64 c.loop-near.near-bits <ℤ (c.args.run.row +ℤ pos 3) = omega (arith, ints) in
    rows_near c.args.run.row (to_z w64 c.loop-near.near-bits) c.loop-near.invariant.low high

pub loop-near-preserved : goal.loop-near-preserved
loop-near-preserved g c =
    let row = to_z w64 c.loop-near.near-bits in
    let next : to_z w64 (of_z w64 (row +ℤ pos 1)) ≡ (row +ℤ pos 1) = omega (arith, ints) in
    let grown = c.in_ok-take_row.ensures.grown in
    record {
      low = omega (arith, ints, c.loop-near.invariant.low);
      grown = grown_trans _ _ _ _ _ _ _ c.loop-near.invariant.grown grown;
      clear = λ d round before.
          let low : d.row <ℤ (row +ℤ pos 1) = subst (λ n. d.row <ℤ n) next before in
          by_lt_z d.row row (λ earlier. none_kept c.loop-near.left c.take_row.new.left d grown.kept
          (c.loop-near.invariant.clear d round earlier))
          (λ here. c.in_ok-take_row.ensures.clear d round (omega (arith, ints)));
    }

pub returns-clause-clear : goal.returns-clause-clear
returns-clause-clear g c d round =
    let down = round.rows_down in c.loop-near.invariant.clear d round (omega (arith, ints))
