use Rattle.std.proofs.Common.{◌≡◌, ◌+ℤ◌, arith, w32, w64, to_z, of_z}
use Rattle.std.proofs.lemmas.Int.{ints}
use Rattle.life_core.proofs.runs.Run.moved.Goals as goal

pub returns : goal.returns
returns c =
    let r = c.args.self in
    let by = c.args.by in
    let here = c.requires.here in
    let there = c.requires.there in
    let row : to_z w32 (of_z w32 (to_z w64
    (of_z w64 (to_z w64 (of_z w64 c.from.result) +ℤ to_z w64 (of_z w64 by.row))))) ≡ r.row +ℤ by.row =
    omega (arith, ints, c.from.ensures, here.top, here.bottom, there.top, there.bottom) in
    let first : to_z w32 (of_z w32 (to_z w64
    (of_z w64 (to_z w64 (of_z w64 c.from-2.result) +ℤ to_z w64 (of_z w64 by.column))))) ≡ r.first +ℤ by.column =
    omega (arith, ints, c.from-2.ensures, here.left, here.right, there.left, there.right) in
    λ i. record { row = row i; first = first i; len = r.len }
