use Rattle.std.proofs.Common.{◌≡◌, w64, to_z, of_z, ap, ◌∙◌, arith}
use Rattle.std.proofs.lemmas.Int.{ints}
use Rattle.life_core.specs.declared.cell.Cell.{Cell}
use Rattle.life_core.specs.Cell.{moved_cell}
use Rattle.life_core.proofs.FrameBounds.{near_fits}
use Rattle.life_core.proofs.packed.shifts.moved_place.Goals as goal

pub to_the_right-requires : goal.to_the_right-requires
to_the_right-requires c =
    near_fits _ (omega (arith, ints, c.requires.start.left)) (omega (arith, ints, c.requires.start.right, c.requires.i))

pub moved-requires-clause-row : goal.moved-requires-clause-row
moved-requires-clause-row c =
    let dy : to_z w64 (of_z w64 c.args.shift.1) ≡ c.args.shift.1 =
    omega (arith, ints, c.requires.rows.0, c.requires.rows.1) in
    let row = ap (λ (d : Cell). d.row) c.to_the_right.ensures in
    near_fits _ (omega (arith, ints, dy, row, c.requires.start.top, c.requires.rows.0))
    (omega (arith, ints, dy, row, c.requires.start.bottom, c.requires.rows.1))

pub moved-requires-clause-column : goal.moved-requires-clause-column
moved-requires-clause-column c =
    let dx : to_z w64 (of_z w64 c.args.shift.0) ≡ c.args.shift.0 =
    omega (arith, ints, c.requires.columns.0, c.requires.columns.1) in
    let column = ap (λ (d : Cell). d.column) c.to_the_right.ensures in
    near_fits _ (omega (arith, ints, dx, column, c.requires.start.left, c.requires.columns.0))
    (omega (arith, ints, dx, column, c.requires.start.right, c.requires.i, c.requires.columns.1))

pub returns : goal.returns
returns c =
    let dx : to_z w64 (of_z w64 c.args.shift.0) ≡ c.args.shift.0 =
    omega (arith, ints, c.requires.columns.0, c.requires.columns.1) in
    let dy : to_z w64 (of_z w64 c.args.shift.1) ≡ c.args.shift.1 =
    omega (arith, ints, c.requires.rows.0, c.requires.rows.1) in
    simp (dx, dy) at (c.moved.ensures ∙ (λ t. moved_cell (to_z w64 (of_z w64 c.args.shift.0))
    (to_z w64 (of_z w64 c.args.shift.1)) (c.to_the_right.ensures t)))
