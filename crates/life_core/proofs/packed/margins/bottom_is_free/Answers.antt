use Rattle.std.proofs.Common.{◌+◌, inl, inr, arith}
use Rattle.std.proofs.lemmas.Int.{ints}
use Rattle.std.proofs.lemmas.Bool.{cases_lt}
use Rattle.life_core.proofs.FrameBounds.{near_fits, rows_few}
use Rattle.life_core.proofs.PackedCells.{live_place}
use Rattle.life_core.proofs.packed.margins.bottom_is_free.Goals as goal

pub overflow_cast-frame : goal.overflow_cast-frame
overflow_cast-frame c = record { sfits = omega (arith, ints, rows_few c.args.frame c.requires.frame) }

pub overflow_add-frame : goal.overflow_add-frame
overflow_add-frame c =
    let few = rows_few c.args.frame c.requires.frame in
    near_fits _ (omega (arith, ints, c.requires.frame.from_top, c.requires.frame.to_bottom))
    (omega (arith, ints, c.requires.frame.from_top, c.requires.frame.to_bottom))

pub overflow_add-from : goal.overflow_add-from
overflow_add-from c = near_fits _ (omega (arith, ints, c.from.ensures)) (omega (arith, ints, c.from.ensures))

pub overflow_sub-frame : goal.overflow_sub-frame
overflow_sub-frame c = omega (arith, c.requires.whole.tall, c.requires.whole.many)

pub returns-then-frame-from-clause-free : goal.returns-then-frame-from-clause-free
returns-then-frame-from-clause-free c past d live = omega (
  arith,
  ints,
  c.from.ensures,
  c.if-frame-from.true,
  (c.requires.within d live).bottom,
  c.requires.frame.from_top,
  c.requires.frame.to_bottom,
)

pub returns-else-frame-from-clause-free : goal.returns-else-frame-from-clause-free
returns-else-frame-from-clause-free c free d live =
    let f = c.args.frame in
    let p = live_place f c.args.rows.now c.requires.frame.wide c.requires.rows d live in
    elim (cases_lt (p.y + 48) f.height) [
      | inl apart ↦ omega (arith, ints, p.row, apart)
      | inr edge ↦
          absurd (omega (arith, p.live, c.rows_are_dead.ensures free p.x p.y (omega (arith, edge)) p.low p.narrow))
    ]

pub returns-else-frame-from-clause-near : goal.returns-else-frame-from-clause-near
returns-else-frame-from-clause-near c _ =
    omega (arith, ints, c.from.ensures, c.if-frame-from.false, c.requires.frame.from_top, c.requires.frame.to_bottom)
