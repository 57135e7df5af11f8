use Rattle.std.proofs.Common.{inl, inr, arith}
use Rattle.std.proofs.lemmas.Int.{ints}
use Rattle.std.proofs.lemmas.Bool.{cases_lt}
use Rattle.life_core.proofs.PackedCells.{live_place}
use Rattle.life_core.proofs.FrameBounds.{near_fits}
use Rattle.life_core.proofs.packed.margins.top_is_free.Goals as goal

pub returns-else-frame-from-clause-free : goal.returns-else-frame-from-clause-free
returns-else-frame-from-clause-free c free d live =
    let f = c.args.frame in
    let p = live_place f c.args.rows.now c.requires.frame.wide c.requires.rows d live in
    elim (cases_lt p.y 48) [
      | inl edge ↦ absurd (omega (arith, p.live, c.rows_are_dead.ensures free p.x p.y (omega arith) edge p.narrow))
      | inr apart ↦ omega (arith, ints, p.row, apart)
    ]

pub overflow_sub-from : goal.overflow_sub-from
overflow_sub-from c = near_fits _ (omega (arith, ints, c.from.ensures)) (omega (arith, ints, c.from.ensures))

pub returns-then-frame-from-clause-free : goal.returns-then-frame-from-clause-free
returns-then-frame-from-clause-free c past d live =
    omega (arith, ints, c.from.ensures, c.if-frame-from.true, (c.requires.within d live).top)

pub returns-else-frame-from-clause-near : goal.returns-else-frame-from-clause-near
returns-else-frame-from-clause-near c _ = omega (arith, ints, c.from.ensures, c.if-frame-from.false)
