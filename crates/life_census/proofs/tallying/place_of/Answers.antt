use Rattle.std.proofs.Common.{sym, ◌∙◌, arith}
use Rattle.life_census.proofs.RowsLaws.{compared, below_next}
use Rattle.life_census.proofs.tallying.place_of.Goals as goal

pub loop-i-init : goal.loop-i-init
loop-i-init g c k d none = absurd (omega (arith, none))

pub offset_bounds-rows-i : goal.offset_bounds-rows-i
offset_bounds-rows-i g c = c.loop-i.auto.i-end

pub bounds-rows-i : goal.bounds-rows-i
bounds-rows-i g c = c.loop-i-test.true

pub returns-in-Equal-clause-before : goal.returns-in-Equal-clause-before
returns-in-Equal-clause-before g c = c.loop-i.invariant

pub returns-in-Equal-clause-here : goal.returns-in-Equal-clause-here
returns-in-Equal-clause-here g c = (
  c.loop-i-test.true,
  compared c.args.rows.now c.loop-i.i c.index-rows-i.result c.args.code.now c.as_bytes.result.now
      _ c.loop-i-test.true c.index-rows-i.is c.as_bytes.ensures.bytes (sym c.cmp.ensures ∙ c.in-Equal.is),
)

pub returns-in-Less-clause-before : goal.returns-in-Less-clause-before
returns-in-Less-clause-before g c = c.loop-i.invariant

pub returns-in-Less-clause-here : goal.returns-in-Less-clause-here
returns-in-Less-clause-here g c = (
  c.loop-i.auto.i-end,
  λ low. compared c.args.rows.now c.loop-i.i c.index-rows-i.result c.args.code.now c.as_bytes.result.now
      _ c.loop-i-test.true c.index-rows-i.is c.as_bytes.ensures.bytes (sym c.cmp.ensures ∙ c.in-Less.is),
)

pub loop-i-smaller : goal.loop-i-smaller
loop-i-smaller g c = omega (arith, c.loop-i-test.true)

pub loop-i-preserved : goal.loop-i-preserved
loop-i-preserved g c =
    below_next c.args.rows.now c.args.code.now c.loop-i.i c.loop-i.invariant
    (compared c.args.rows.now c.loop-i.i c.index-rows-i.result c.args.code.now c.as_bytes.result.now
    _ c.loop-i-test.true c.index-rows-i.is c.as_bytes.ensures.bytes (sym c.cmp.ensures ∙ c.in-Greater.is))

pub returns-clause-before : goal.returns-clause-before
returns-clause-before g c k d low = c.loop-i.invariant k d (omega (arith, low, c.loop-i-test.false))

pub returns-clause-here : goal.returns-clause-here
returns-clause-here g c = (omega arith, λ wrong. absurd (omega (arith, wrong)))
