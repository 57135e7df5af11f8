use Rattle.std.proofs.Common.{get_or, pos, subst, w64, sym, ap, ◌∙◌, arith}
use Rattle.std.specs.Int.{bit_at}
use Rattle.std.proofs.lemmas.Bool.{false≢true}
use Rattle.std.proofs.lemmas.Nat.Bits.{bit_at-trailing_zeros, bit_at-zero}
use Rattle.life_core.specs.Cell.{moved_cell}
use Rattle.life_core.specs.PackedFrameState.{framed}
use Rattle.life_core.specs.PackedShiftsState.{IsFirst}
use Rattle.life_core.proofs.FrameBounds.{places_few}
use Rattle.life_core.proofs.PatternMembers.{same_answer}
use Rattle.life_core.proofs.PackedCells.{cell_of-word}
use Rattle.life_core.proofs.PackedShifts.{first_bit, live_bit}
use Rattle.life_core.proofs.packed.shifts.first_cell.Goals as goal

pub overflow_mul-k : goal.overflow_mul-k
overflow_mul-k c = record { fits = omega (arith, places_few c.args.frame c.requires.frame) }

pub returns-then-rows-k-ne0-clause-first : goal.returns-then-rows-k-ne0-clause-first
returns-then-rows-k-ne0-clause-first c =
    let f = c.args.frame in
    let rows = c.args.rows.now in
    let k = c.loop-k.k in
    let tz = bit_at-trailing_zeros w64 (get_or rows k 0) (omega (arith, c.if-rows-k-ne0.true))
    (c.type_inv.rows k).fits in
    let at = c.to_the_right-cell.ensures ∙ ap (moved_cell (pos _) (pos 0)) c.cell.ensures
    ∙ sym (cell_of-word f.left f.top f.words k _ c.requires.frame.wide tz.0) in
    subst (IsFirst (framed f rows)) (sym at)
    (first_bit f rows c.requires.frame.wide c.requires.rows k _ c.loop-k-test.true tz.0 c.loop-k.invariant tz.1 tz.2)

pub returns-clause-none : goal.returns-clause-none
returns-clause-none c none d = same_answer _ _ (λ h.
    let b = live_bit c.args.frame c.args.rows.now c.requires.frame.wide c.requires.rows d h in
    absurd
    (omega (arith, b.bit, ap (λ w. bit_at w b.i) (c.loop-k.invariant b.k (omega (arith, b.inside))), bit_at-zero b.i)))
    (λ h. absurd (false≢true h))
