-- Facts that the search for parts moving apart finds out.
use Rattle.std.specs.Prelude.{◌≡◌, ◌≢◌, ◌⊎◌, ℕ, ◌<◌, ◌≤◌, ℤ, pos, ◌+ℤ◌, ◌-ℤ◌, ◌*ℤ◌, ◌<ℤ◌, ◌≤ℤ◌, true, List, map}
use Rattle.std.specs.List.{All, Contains}
use Rattle.std.specs.FinSet as set
use Rattle.life_core.specs.declared.cell.Cell.{Cell}
use Rattle.life_core.specs.Cell.{cell_cmp}
use Rattle.life_core.specs.Generations.{generation_of}
use Rattle.life_core.specs.Pattern.{Cells}
use Rattle.life_core.specs.Rule.{RuleSets}
use Rattle.life_code.specs.declared.apart.Orbit.{Orbit}
use Rattle.life_code.specs.declared.apart.Moving.{Moving}
use Rattle.life_code.specs.Apart.{AreAllApart}
use Rattle.life_code.specs.PartFramesState.{IsInFrame}
use Rattle.life_code.specs.Period.{Returns}

-- X returns after a period as the orbit says, and until then all its cells lie in the box
pub record IsOrbit (r : RuleSets) (X : Cells) (o : Orbit) : Type 0 where
  pub some : X ≢ set.empty
  pub from : 1 ≤ o.period
  pub back : Returns r X o.period o.dx o.dy
  pub inside : (i : ℕ) (c : Cell) → i < o.period → set.contains (generation_of r X i) c ≡ true → IsInFrame o.frame c

-- a part moving by dx in p generations never gets closer to a part after it, which moves by ex in q generations
abbrev pub ComesNoNearer : ℕ → ℤ → ℕ → ℤ → Type 0
ComesNoNearer p dx q ex = ((dx ≤ℤ pos 0) × (pos 0 ≤ℤ ex)) ⊎ ((p ≡ q) × (dx ≤ℤ ex))

-- the first stays more than 2 columns to the left of the second ..
abbrev pub KeepsLeft : Orbit → Orbit → Type 0
KeepsLeft o p =
    ((o.frame.columns.greatest +ℤ pos 2) <ℤ p.frame.columns.least) × ComesNoNearer o.period o.dx p.period p.dx

-- .. or more than 2 rows above it ..
abbrev pub KeepsAbove : Orbit → Orbit → Type 0
KeepsAbove o p = ((o.frame.rows.greatest +ℤ pos 2) <ℤ p.frame.rows.least) × ComesNoNearer o.period o.dy p.period p.dy

-- .. or beyond a diagonal: its sums of row and column stay more than 4 below ..
abbrev pub KeepsUpperLeft : Orbit → Orbit → Type 0
KeepsUpperLeft o p =
    ((o.frame.sums.greatest +ℤ pos 4) <ℤ p.frame.sums.least)
    × ComesNoNearer o.period (o.dy +ℤ o.dx) p.period (p.dy +ℤ p.dx)

-- .. or its differences row - column do
abbrev pub KeepsUpperRight : Orbit → Orbit → Type 0
KeepsUpperRight o p =
    ((o.frame.differences.greatest +ℤ pos 4) <ℤ p.frame.differences.least)
    × ComesNoNearer o.period (o.dy -ℤ o.dx) p.period (p.dy -ℤ p.dx)

-- the first stays on one side of the second
abbrev pub KeepsAside : Orbit → Orbit → Type 0
KeepsAside o p = (KeepsLeft o p ⊎ KeepsAbove o p) ⊎ (KeepsUpperLeft o p ⊎ KeepsUpperRight o p)

-- one of the two stays on one side of the other
abbrev pub KeepApart : Orbit → Orbit → Type 0
KeepApart o p = KeepsAside o p ⊎ KeepsAside p o

-- over p * q generations, where p and q are their periods, the two move by different amounts
abbrev pub MoveDifferently : Orbit → Orbit → Type 0
MoveDifferently o p =
    ¬ (((pos p.period *ℤ o.dx) ≡ (pos o.period *ℤ p.dx)) × ((pos p.period *ℤ o.dy) ≡ (pos o.period *ℤ p.dy)))

-- the orbit belongs to the part
abbrev pub IsMoving : {A : Type 0} → RuleSets → Moving A → Type 0
IsMoving {A} r m = IsOrbit r m.part m.orbit

-- the sets of the parts
abbrev pub parts_of : {A : Type 0} → List (Moving A) → List Cells
parts_of {A} parts = map (λ (m : Moving A). m.part) parts

-- each part has its orbit, and no two are ever near each other at the same time
pub record AreMoving {A : Type 0} (r : RuleSets) (parts : List (Moving A)) : Type 0 where
  pub each : All (IsMoving r) parts
  pub apart : (k : ℕ) → AreAllApart (map (λ P. generation_of r P k) (parts_of parts))

-- the orbit keeps apart from every part's orbit
abbrev pub KeepsApartFrom : {A : Type 0} → List (Moving A) → Orbit → Type 0
KeepsApartFrom {A} parts o = All (λ (m : Moving A). KeepApart m.orbit o) parts

-- m and n are parts that move differently
pub record SomeMoveDifferently {A : Type 0} (parts : List (Moving A)) : Type 0 where
  pub m : Moving A
  pub n : Moving A
  pub has_m : Contains parts m
  pub has_n : Contains parts n
  pub differ : MoveDifferently m.orbit n.orbit

-- the two lists together have the same cells
abbrev pub AreParted : List Cell → List Cell → List Cell → Type 0
AreParted cells inside outside =
    set.from_list {R = cell_cmp} cells ≡ set.union (set.from_list inside) (set.from_list outside)
