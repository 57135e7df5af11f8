use Rattle.std.proofs.Common.{sym, ◌∙◌, arith}
use Rattle.std.proofs.lemmas.Bool.{false≢true}
use Rattle.std.proofs.lemmas.Int.{ints}
use Rattle.life_core.proofs.packed.frame.Frame.has.Goals as goal

pub returns-then-is_between : goal.returns-then-is_between
returns-then-is_between c =
    let f = c.requires in
    let columns = c.is_between.ensures.0 c.if-is_between.true in (
      λ t.
          let rows = c.is_between-then-is_between.ensures.0 t in
          record {
            from_left = omega (arith, ints, columns.0, f.from_left, f.to_right);
            to_right = omega (arith, ints, columns.1, f.from_left, f.to_right);
            from_top = omega (arith, ints, rows.0, f.from_top, f.to_bottom);
            to_bottom = omega (arith, ints, rows.1, f.from_top, f.to_bottom);
          },
      λ h. c.is_between-then-is_between.ensures.1 (
        omega (arith, ints, h.from_top, f.from_top, f.to_bottom),
        omega (arith, ints, h.to_bottom, f.from_top, f.to_bottom),
      ),
    )

pub returns-else-is_between : goal.returns-else-is_between
returns-else-is_between c =
    let f = c.requires in (
      λ t. absurd (false≢true (sym c.if-is_between.false ∙ t)),
      λ h. c.is_between.ensures.1 (
        omega (arith, ints, h.from_left, f.from_left, f.to_right),
        omega (arith, ints, h.to_right, f.from_left, f.to_right),
      ),
    )
