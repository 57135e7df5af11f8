use Rattle.std.proofs.Common.{◌≡◌, ◌+◌, ◌-◌, ◌*◌, ap, inl, inr, arith}
use Rattle.std.proofs.lemmas.Int.{ints}
use Rattle.std.proofs.lemmas.Bool.{cases_lt}
use Rattle.std.proofs.lemmas.Nat.Bits.{bit_at_mask_inside}
use Rattle.life_core.specs.PackedRow.{place}
use Rattle.life_core.proofs.FrameBounds.{near_fits, words_few}
use Rattle.life_core.proofs.PackedCells.{live_place}
use Rattle.life_core.proofs.packed.margins.right_is_free.Goals as goal

pub overflow_mul-frame : goal.overflow_mul-frame
overflow_mul-frame c = record { fits = omega (arith, words_few c.args.frame c.requires.frame) }

pub overflow_cast-frame : goal.overflow_cast-frame
overflow_cast-frame c = record { sfits = omega (arith, ints, words_few c.args.frame c.requires.frame) }

pub overflow_add-frame : goal.overflow_add-frame
overflow_add-frame c =
    let few = words_few c.args.frame c.requires.frame in
    near_fits _ (omega (arith, ints, c.requires.frame.from_left, c.requires.frame.to_right))
    (omega (arith, ints, c.requires.frame.from_left, c.requires.frame.to_right))

pub overflow_add-from : goal.overflow_add-from
overflow_add-from c = near_fits _ (omega (arith, ints, c.from.ensures)) (omega (arith, ints, c.from.ensures))

pub overflow_sub-frame : goal.overflow_sub-frame
overflow_sub-frame c = c.requires.frame.wide

pub returns-then-frame-from-clause-free : goal.returns-then-frame-from-clause-free
returns-then-frame-from-clause-free c past d live =
    let few = words_few c.args.frame c.requires.frame in
    omega (
      arith,
      ints,
      c.from.ensures,
      c.if-frame-from.true,
      (c.requires.within d live).right,
      c.requires.frame.from_left,
      c.requires.frame.to_right,
    )

pub returns-else-frame-from-clause-free : goal.returns-else-frame-from-clause-free
returns-else-frame-from-clause-free c free d live =
    let f = c.args.frame in
    let p = live_place f c.args.rows.now c.requires.frame.wide c.requires.rows d live in
    elim (cases_lt (p.x + 32) (64 * f.words)) [
      | inl apart ↦ omega (arith, ints, p.column, apart)
      | inr edge ↦
          let last = 64 * (f.words - 1) in
          let at : last + (p.x - last) ≡ p.x = omega (arith, edge, c.requires.frame.wide) in
          let dead : place c.args.rows.now (p.y * (64 * f.words) + (last + (p.x - last))) ≡ 0 =
          c.column_is_dead.ensures free p.y (p.x - last) p.low (omega (arith, p.narrow)) (bit_at_mask_inside 32 64
          (p.x - last) (omega (arith, edge, c.requires.frame.wide)) (omega (arith, p.narrow))) in
          absurd (omega (arith, p.live, dead, ap (λ x. place c.args.rows.now (p.y * (64 * f.words) + x)) at))
    ]

pub returns-else-frame-from-clause-near : goal.returns-else-frame-from-clause-near
returns-else-frame-from-clause-near c _ =
    let few = words_few c.args.frame c.requires.frame in
    omega (arith, ints, c.from.ensures, c.if-frame-from.false, c.requires.frame.from_left, c.requires.frame.to_right)
