-- Near cells and sets that are apart. Cells at most 2 apart can have a neighbour in common; sets without near cells
-- have none, so each evolves for itself (Life Lexicon, "cluster" and "interaction").
use Rattle.std.specs.Prelude.{◌≡◌, ℤ, pos, ◌+ℤ◌, Bool, true, false, ◌&&◌, int_le, List, [], ◌∷◌}
use Rattle.std.specs.List.{AllByRecursion}
use Rattle.std.specs.FinSet as set
use Rattle.life_core.specs.declared.cell.Cell.{Cell}
use Rattle.life_core.specs.Pattern.{Cells}

-- the numbers differ by at most 2
abbrev pub within_two : ℤ → ℤ → Bool
within_two a b = int_le a (b +ℤ pos 2) && int_le b (a +ℤ pos 2)

-- the rows and the columns differ by at most 2: (0, 0) is near (2, 2), but not near (3, 0)
unfoldable pub near : Cell → Cell → Bool
near c d = within_two c.row d.row && within_two c.column d.column

-- no cell of Y is near a cell of Z
abbrev pub AreApart : Cells → Cells → Type 0
AreApart Y Z = (c d : Cell) → set.contains Y c ≡ true → set.contains Z d ≡ true → near c d ≡ false

-- the sets are pairwise apart
abbrev pub AreAllApart : List Cells → Type 0
AreAllApart [] = Unit {0}
AreAllApart (P ∷ Ps) = AllByRecursion (AreApart P) Ps × AreAllApart Ps

-- the union of a list of sets
abbrev pub union_of : List Cells → Cells
union_of [] = set.empty
union_of (P ∷ Ps) = set.union P (union_of Ps)
