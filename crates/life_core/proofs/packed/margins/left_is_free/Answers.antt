use Rattle.std.proofs.Common.{◌≡◌, ◌+◌, ◌*◌, ap, inl, inr, arith}
use Rattle.std.proofs.lemmas.Int.{ints}
use Rattle.std.proofs.lemmas.Bool.{cases_lt}
use Rattle.std.proofs.lemmas.Nat.Bits.{bit_at_ones}
use Rattle.life_core.specs.PackedRow.{place}
use Rattle.life_core.proofs.PackedCells.{live_place}
use Rattle.life_core.proofs.FrameBounds.{near_fits}
use Rattle.life_core.proofs.packed.margins.left_is_free.Goals as goal

pub returns-else-frame-from-clause-free : goal.returns-else-frame-from-clause-free
returns-else-frame-from-clause-free c free d live =
    let f = c.args.frame in
    let p = live_place f c.args.rows.now c.requires.frame.wide c.requires.rows d live in
    elim (cases_lt p.x 32) [
      | inl edge ↦
          let dead : place c.args.rows.now (p.y * (64 * f.words) + (0 + p.x)) ≡ 0 =
          c.column_is_dead.ensures free p.y p.x p.low (omega (arith, edge)) (bit_at_ones 32 p.x edge) in
          let at : 0 + p.x ≡ p.x = omega arith in
          absurd (omega (arith, p.live, dead, ap (λ x. place c.args.rows.now (p.y * (64 * f.words) + x)) at))
      | inr apart ↦ omega (arith, ints, p.column, apart)
    ]

pub overflow_sub-from : goal.overflow_sub-from
overflow_sub-from c = near_fits _ (omega (arith, ints, c.from.ensures)) (omega (arith, ints, c.from.ensures))

pub column_is_dead-requires-clause-j : goal.column_is_dead-requires-clause-j
column_is_dead-requires-clause-j c = c.requires.frame.wide

pub returns-then-frame-from-clause-free : goal.returns-then-frame-from-clause-free
returns-then-frame-from-clause-free c past d live =
    omega (arith, ints, c.from.ensures, c.if-frame-from.true, (c.requires.within d live).left)

pub returns-else-frame-from-clause-near : goal.returns-else-frame-from-clause-near
returns-else-frame-from-clause-near c _ = omega (arith, ints, c.from.ensures, c.if-frame-from.false)
