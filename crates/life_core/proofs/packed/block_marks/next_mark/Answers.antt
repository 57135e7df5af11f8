use Rattle.std.proofs.Common.{◌/◌, ◌%◌, ◌^◌, get_or, refl, inl, inr, arith}
use Rattle.std.proofs.lemmas.Bool.{cases_lt}
use Rattle.life_core.proofs.PackedCells.{lowest_run}
use Rattle.life_core.proofs.BlockMarks.{none_below, none_in_word}
use Rattle.life_core.proofs.packed.block_marks.next_mark.Goals as goal

pub overflow_add-j : goal.overflow_add-j
overflow_add-j c =
    let j = c.loop-j.j in
    let w = get_or c.args.marks.now (j / 64) 0 in
    let lowest = lowest_run w (j % 64) (w / 2 ^ (j % 64)) (c.type_inv.marks (j / 64)).fits refl
    (omega (arith, c.if-rest-ne0.true)) in
    record { fits = omega (arith, c.requires.few, c.loop-j-test.true, lowest.fits) }

pub returns-then-rest-ne0-clause-none : goal.returns-then-rest-ne0-clause-none
returns-then-rest-ne0-clause-none c m from to =
    let j = c.loop-j.j in
    let w = get_or c.args.marks.now (j / 64) 0 in
    elim (cases_lt m j) [
      | inl before ↦ c.loop-j.invariant.none m from before
      | inr here ↦
          none_below c.args.marks.now j (w / 2 ^ (j % 64)) m (c.type_inv.marks (j / 64)).fits refl
          (omega (arith, c.if-rest-ne0.true)) here (omega (arith, to, c.min.ensures))
    ]

pub overflow_mul-j : goal.overflow_mul-j
overflow_mul-j c = record { fits = omega (arith, c.requires.few, c.loop-j-test.true) }

pub loop-j-preserved : goal.loop-j-preserved
loop-j-preserved c = record {
  from = omega (arith, c.loop-j.invariant.from);
  none = λ m from to. elim (cases_lt m c.loop-j.j) [
    | inl before ↦ c.loop-j.invariant.none m from before
    | inr here ↦ none_in_word c.args.marks.now c.loop-j.j m c.if-rest-ne0.false here to
  ];
}
