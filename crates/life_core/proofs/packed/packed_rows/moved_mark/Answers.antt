use Rattle.std.proofs.Common.{◌≡◌, ◌+◌, ◌-◌, ◌*◌, ◌/◌, ◌%◌, ap, ◌∙◌, arith}
use Rattle.std.proofs.lemmas.Nat.{div-mul-add, mod-mul-add}
use Rattle.life_core.specs.PackedMarksState.{mark_at}
use Rattle.life_core.proofs.MovedMarks.{mark_fits, marks_few}
use Rattle.life_core.proofs.packed.packed_rows.moved_mark.Goals as goal

pub overflow_mul-result : goal.overflow_mul-result
overflow_mul-result c = record {
  fits = omega (
    arith,
    marks_few c.args.to.frame (c.args.to.frame.height / 16) c.requires.to (omega arith),
    mark_fits c.args.from c.args.to c.args.b c.requires.from c.requires.whole c.requires.wider
        c.requires.first c.requires.last,
  );
}

pub overflow_add-result : goal.overflow_add-result
overflow_add-result c = record {
  fits = omega (
    arith,
    marks_few c.args.to.frame (c.args.to.frame.height / 16) c.requires.to (omega arith),
    mark_fits c.args.from c.args.to c.args.b c.requires.from c.requires.whole c.requires.wider
        c.requires.first c.requires.last,
  );
}

pub overflow_add-result-2 : goal.overflow_add-result-2
overflow_add-result-2 c = record {
  fits = omega (
    arith,
    marks_few c.args.to.frame (c.args.to.frame.height / 16) c.requires.to (omega arith),
    mark_fits c.args.from c.args.to c.args.b c.requires.from c.requires.whole c.requires.wider
        c.requires.first c.requires.last,
  );
}

pub returns-clause-last : goal.returns-clause-last
returns-clause-last c = omega (
  arith,
  mark_fits c.args.from c.args.to c.args.b c.requires.from c.requires.whole c.requires.wider
      c.requires.first c.requires.last,
)

pub returns-clause-moved : goal.returns-clause-moved
returns-clause-moved c line column narrow is =
    let n = c.args.from.words / 2 in
    let w = c.args.to in
    let at : c.args.b - 1 ≡ line * n + column = omega (arith, is) in
    let y : (c.args.b - 1) / n ≡ line = ap (λ m. m / n) at ∙ div-mul-add line n column narrow in
    let x : (c.args.b - 1) % n ≡ column = ap (λ m. m % n) at ∙ mod-mul-add line n column narrow in
    λ t. mark_at (w.frame.words / 2) (w.top / 16 + y t) (w.left / 2 + x t)
