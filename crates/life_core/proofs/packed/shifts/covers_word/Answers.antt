use Rattle.std.proofs.Common.{◌≡◌, ℕ, pos, sym, ap, ◌∙◌, inl, inr, arith}
use Rattle.std.specs.Int.{bit_at}
use Rattle.std.specs.FinSet as set
use Rattle.std.proofs.lemmas.Bool.{false≢true, cases_lt}
use Rattle.std.proofs.lemmas.Nat.Bits.{shr_and_one}
use Rattle.life_core.specs.Cell.{moved_cell}
use Rattle.life_core.specs.PackedFrameState.{framed}
use Rattle.life_core.proofs.packed.shifts.covers_word.Goals as goal
use Rattle.life_core.proofs.packed.shifts.covers_word.Goals.{else-word-i-eq1-via-then-word-i-eq1+else-not-is_live}
use Rattle.life_core.proofs.packed.shifts.covers_word.Goals.{else-word-i-eq1-via-else-word-i-eq1}

pub returns-then-not-is_live : goal.returns-then-not-is_live
returns-then-not-is_live c =
    let i = c.loop-i.i in (
      λ t. absurd (false≢true t),
      λ all. sym c.if-not-is_live.true ∙ c.is_live.ensures ∙ ap (set.contains (framed c.args.to c.args.others.now))
          c.moved_place.ensures ∙ all i c.loop-i-test.true (sym (shr_and_one c.args.word i) ∙ c.if-word-i-eq1.true),
    )

pub loop-i-preserved : goal.loop-i-preserved
loop-i-preserved c i lt set_bit = elim (cases_lt i c.loop-i.i) [
  | inl before ↦ c.loop-i.invariant i before set_bit
  | inr here ↦
      let same : i ≡ c.loop-i.i = omega arith in
      elim c.else-word-i-eq1.branch [
        | else-word-i-eq1-via-then-word-i-eq1+else-not-is_live w ↦
            ap (λ (n : ℕ). set.contains (framed c.args.to c.args.others.now)
            (moved_cell c.args.shift.0 c.args.shift.1 (moved_cell (pos n) (pos 0) c.args.start))) same
            ∙ ap (set.contains (framed c.args.to c.args.others.now)) (sym w.moved_place.ensures)
            ∙ sym w.is_live.ensures ∙ w.if-not-is_live.false
        | else-word-i-eq1-via-else-word-i-eq1 w ↦
            absurd
            (w.if-word-i-eq1.false (shr_and_one c.args.word c.loop-i.i ∙ ap (bit_at c.args.word) (sym same) ∙ set_bit))
      ]
]
