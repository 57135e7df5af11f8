use Rattle.std.proofs.Common.{◌+◌, ◌-◌, ◌/◌, refl, sym, subst, ◌∙◌, inl, inr, arith}
use Rattle.std.proofs.lemmas.Bool.{cases_lt, cases_eq}
use Rattle.std.proofs.lemmas.Nat.{mul-le}
use Rattle.life_core.specs.PackedMarksState.{IsMarked, mark_at}
use Rattle.life_core.proofs.MovedMarks.{marks_few}
use Rattle.life_core.proofs.packed.packed_rows.copy_marks.Goals as goal

pub overflow_mul-end : goal.overflow_mul-end
overflow_mul-end c = record {
  fits = omega (arith, marks_few c.args.from (c.args.from.height / 16 - 1) c.requires.from (omega arith));
}

pub overflow_add-end : goal.overflow_add-end
overflow_add-end c = record {
  fits = omega (arith, marks_few c.args.from (c.args.from.height / 16 - 1) c.requires.from (omega arith));
}

pub next_mark-b-requires-clause-few : goal.next_mark-b-requires-clause-few
next_mark-b-requires-clause-few c =
    omega (arith, marks_few c.args.from (c.args.from.height / 16 - 1) c.requires.from (omega arith))

pub loop-b-init : goal.loop-b-init
loop-b-init c = record {
  from = omega (arith, c.next_mark-b.ensures.from);
  to = c.next_mark-b.ensures.to;
  kept = record { long = refl; set = λ j h. h };
  moved = λ z m some lt below set.
      let n = c.args.from.words / 2 in
      absurd (omega (
        arith,
        set,
        c.next_mark-b.ensures.none (mark_at n z m) (omega (arith, mul-le 1 n z n some (omega arith))) below,
      ));
}

pub overflow_add-b : goal.overflow_add-b
overflow_add-b c = record {
  fits = omega (
    arith,
    marks_few c.args.from (c.args.from.height / 16 - 1) c.requires.from (omega arith),
    c.loop-b-test.true,
  );
}

pub next_mark-b-requires-in-loop-b-clause-few : goal.next_mark-b-requires-in-loop-b-clause-few
next_mark-b-requires-in-loop-b-clause-few c =
    omega (arith, marks_few c.args.from (c.args.from.height / 16 - 1) c.requires.from (omega arith))

pub loop-b-preserved : goal.loop-b-preserved
loop-b-preserved c =
    let n = c.args.from.words / 2 in
    let b = c.loop-b.b in
    let inv = c.loop-b.invariant in
    let on = c.next_mark-b-in-loop-b.ensures in
    let put = c.set_mark.ensures in
    record {
      from = omega (arith, on.from);
      to = on.to;
      kept = record { long = put.kept.long ∙ inv.kept.long; set = λ j h. put.kept.set j (inv.kept.set j h) };
      moved = λ z m some lt below set. elim (cases_lt (mark_at n z m) b) [
        | inl before ↦ put.kept.set _ (inv.moved z m some lt before set)
        | inr from ↦ elim (cases_eq (mark_at n z m) b) [
          | inl here ↦ subst (IsMarked c.set_mark.new.marks) (c.moved_mark.ensures.moved z m lt (sym here)) put.set
          | inr other ↦ absurd (omega (arith, set, on.none (mark_at n z m) (omega (arith, from, other)) below))
        ]
      ];
    }

pub returns-clause-moved : goal.returns-clause-moved
returns-clause-moved c = record {
  marked = λ z m some fit lt set.
      let n = c.args.from.words / 2 in
      let last = mul-le (z + 1) n (c.args.from.height / 16 - 1) n (omega (arith, fit)) (omega arith) in
      c.loop-b.invariant.moved z m some lt (omega (arith, last, lt, c.loop-b-test.false)) set;
}
