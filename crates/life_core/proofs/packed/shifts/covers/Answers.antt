use Rattle.std.proofs.Common.{◌≡◌, ◌*◌, ◌+◌, ◌-◌, ℕ, length, pos, get_or, refl, sym, ap, subst, ◌∙◌, inl, inr, arith}
use Rattle.std.specs.FinSet as set
use Rattle.std.proofs.lemmas.Bool.{false≢true, cases_lt}
use Rattle.life_core.specs.Cell.{moved_cell, IsCellWithin}
use Rattle.life_core.specs.PackedFrameState.{framed, cell_of}
use Rattle.life_core.proofs.FrameBounds.{places_few, cell_near}
use Rattle.life_core.proofs.PackedCells.{cell_of-word}
use Rattle.life_core.proofs.PackedShifts.{live_bit, bit_lives}
use Rattle.std.specs.Int.{bit_at}
use Rattle.std.proofs.lemmas.Nat.Bits.{bit_at-zero}
use Rattle.life_core.specs.declared.cell.Cell.{Cell}
use Rattle.life_core.proofs.packed.shifts.covers.Goals as goal
use Rattle.life_core.proofs.packed.shifts.covers.Goals.{else-rows-k-ne0-via-then-rows-k-ne0+else-not-covers_word}
use Rattle.life_core.proofs.packed.shifts.covers.Goals.{else-rows-k-ne0-via-else-rows-k-ne0}

pub overflow_mul-k : goal.overflow_mul-k
overflow_mul-k c =
    record { fits = omega (arith, places_few c.args.frame c.requires.frame, c.requires.rows, c.loop-passed-test.true) }

pub offset_bounds-rows-k : goal.offset_bounds-rows-k
offset_bounds-rows-k c =
    record { fits = omega (arith, places_few c.args.frame c.requires.frame, c.requires.rows, c.loop-passed-test.true) }

pub bounds-rows-k : goal.bounds-rows-k
bounds-rows-k c = omega (arith, c.loop-passed-test.true)

pub cell-requires-clause-p : goal.cell-requires-clause-p
cell-requires-clause-p c = omega (arith, c.requires.rows, c.loop-passed-test.true)

pub covers_word-requires-clause-start : goal.covers_word-requires-clause-start
covers_word-requires-clause-start c =
    subst (IsCellWithin 2000000000) (sym c.cell.ensures)
    (cell_near c.args.frame (64 * (length c.args.rows.now - 1 - c.loop-passed.passed)) c.requires.frame
    (omega (arith, c.requires.rows, c.loop-passed-test.true)))

pub covers_word-requires-clause-others : goal.covers_word-requires-clause-others
covers_word-requires-clause-others c = c.requires.others

pub covers_word-requires-clause-columns : goal.covers_word-requires-clause-columns
covers_word-requires-clause-columns c = c.requires.columns

pub covers_word-requires-clause-rows_moved : goal.covers_word-requires-clause-rows_moved
covers_word-requires-clause-rows_moved c = c.requires.rows_moved

pub covers_word-requires-clause-to : goal.covers_word-requires-clause-to
covers_word-requires-clause-to c = c.requires.to

pub cell-requires-clause-frame : goal.cell-requires-clause-frame
cell-requires-clause-frame c = c.requires.frame

pub returns-then-not-covers_word : goal.returns-then-not-covers_word
returns-then-not-covers_word c =
    let f = c.args.frame in
    let k = length c.args.rows.now - 1 - c.loop-passed.passed in (
      λ t. absurd (false≢true t),
      λ all. sym c.if-not-covers_word.true ∙ c.covers_word.ensures.1 (λ i low bit.
          ap (λ e. set.contains (framed c.args.to c.args.others.now) (moved_cell c.args.shift.0 c.args.shift.1 e))
          (ap (moved_cell (pos i) (pos 0)) c.cell.ensures
          ∙ sym (cell_of-word f.left f.top f.words k i c.requires.frame.wide low))
          ∙ all (cell_of f.left f.top (64 * f.words) (64 * k + i)) (bit_lives f c.args.rows.now
          c.requires.frame.wide c.requires.rows k i (omega (arith, c.loop-passed-test.true)) low bit)),
    )

pub returns : goal.returns
returns c = (
  λ t d h.
      let f = c.args.frame in
      let b = live_bit f c.args.rows.now c.requires.frame.wide c.requires.rows d h in
      ap (λ e. set.contains (framed c.args.to c.args.others.now) (moved_cell c.args.shift.0 c.args.shift.1 e))
      (b.cell ∙ cell_of-word f.left f.top f.words b.k b.i c.requires.frame.wide b.low)
      ∙ c.loop-passed.invariant b.k b.inside (omega (arith, c.loop-passed-test.false)) b.i b.low b.bit,
  λ all. refl,
)

pub loop-passed-preserved : goal.loop-passed-preserved
loop-passed-preserved c k lt from i low bit = elim (cases_lt (k + c.loop-passed.passed) (length c.args.rows.now)) [
  | inr before ↦ c.loop-passed.invariant k lt before i low bit
  | inl here ↦
      let f = c.args.frame in
      let same : k ≡ length c.args.rows.now - 1 - c.loop-passed.passed = omega (arith, here, from) in
      let there = λ (n : ℕ). set.contains (framed c.args.to c.args.others.now) (moved_cell c.args.shift.0 c.args.shift.1
      (moved_cell (pos i) (pos 0) (cell_of f.left f.top (64 * f.words) (64 * n)))) in
      let same_bit : bit_at (get_or c.args.rows.now (length c.args.rows.now - 1 - c.loop-passed.passed) 0) i ≡ 1 =
      ap (λ n. bit_at (get_or c.args.rows.now n 0) i) (sym same) ∙ bit in
      elim c.else-rows-k-ne0.branch [
        | else-rows-k-ne0-via-then-rows-k-ne0+else-not-covers_word w ↦
            ap there same ∙ ap (λ (s : Cell). set.contains (framed c.args.to c.args.others.now)
            (moved_cell c.args.shift.0 c.args.shift.1 (moved_cell (pos i) (pos 0) s))) (sym w.cell.ensures)
            ∙ w.covers_word.ensures.0 w.if-not-covers_word.false i low same_bit
        | else-rows-k-ne0-via-else-rows-k-ne0 w ↦
            absurd (omega (arith, same_bit, ap (λ w. bit_at w i) w.if-rows-k-ne0.false, bit_at-zero i))
      ]
]
