-- The greatest size of a box of cells whose coordinates are not negative.
use Rattle.std.proofs.Common.{ℕ, ◌+◌, ◌≤◌, List, [], ◌∷◌, map, max, arith}
use Rattle.std.specs.List.{All, fold}
use Rattle.std.proofs.lemmas.Int.{ints}
use Rattle.std.proofs.lemmas.List.Elements.{All-head, All-tail}
use Rattle.life_core.specs.declared.cell.Cell.{Cell}
use Rattle.life_core.specs.declared.cell.TheConstants.{PLANE}
use Rattle.life_rle.specs.Writer.{coordinates, width_of, height_of, IsQuarterCell}

columns : (n : ℕ) (cs : List Cell) → n ≤ PLANE + 1 → All IsQuarterCell cs
    → fold (λ m (p : ℕ × ℕ). max m (p.0 + 1)) n (map coordinates cs) ≤ PLANE + 1
columns n [] low all = low
columns n (c ∷ cs) low all =
    let here = All-head IsQuarterCell c cs all in
    columns (max n ((coordinates c).0 + 1)) cs (omega (arith, ints, low, here.column_high, here.column_low))
    (All-tail IsQuarterCell c cs all)

rows : (n : ℕ) (cs : List Cell) → n ≤ PLANE + 1 → All IsQuarterCell cs
    → fold (λ m (p : ℕ × ℕ). max m (p.1 + 1)) n (map coordinates cs) ≤ PLANE + 1
rows n [] low all = low
rows n (c ∷ cs) low all =
    let here = All-head IsQuarterCell c cs all in
    rows (max n ((coordinates c).1 + 1)) cs (omega (arith, ints, low, here.row_high, here.row_low))
    (All-tail IsQuarterCell c cs all)

pub width_bounded : (cs : List Cell) → All IsQuarterCell cs → width_of (map coordinates cs) ≤ PLANE + 1
width_bounded cs all = columns 0 cs (omega arith) all

pub height_bounded : (cs : List Cell) → All IsQuarterCell cs → height_of (map coordinates cs) ≤ PLANE + 1
height_bounded cs all = rows 0 cs (omega arith) all
