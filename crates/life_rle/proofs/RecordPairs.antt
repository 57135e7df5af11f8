-- The pairs of a normal set: they are in order, they give the set back, and they lie in its box.
use Rattle.std.proofs.Common.{◌≡◌, ℕ, ◌+◌, ◌≤◌, ◌<◌, ℤ, pos, negsuc, nat_abs, true, List, [], ◌∷◌, map, refl, ap, ◌∙◌}
use Rattle.std.proofs.Common.{sym, subst, arith}
use Rattle.std.specs.Prelude.{◌≤ℤ◌, ◌<ℤ◌}
use Rattle.std.proofs.lemmas.Int.{ints}
use Rattle.std.specs.declared.cmp.Ordering.{Ordering}
use Rattle.std.specs.declared.cmp.Ordering.TheVariants.{Less, Equal, Greater}
use Rattle.std.specs.Ordering.{int_cmp, ordering_then}
use Rattle.std.specs.List.{All, AllByRecursion}
use Rattle.std.specs.List.Sorted.{IsStrictlySortedBy}
use Rattle.std.specs.FinSet as set
use Rattle.std.proofs.lemmas.Cmp.{int_ranked}
use Rattle.std.proofs.lemmas.List.Elements.{All-head, All-tail, All-same, All-weaker}
use Rattle.std.proofs.lemmas.Map.Keys.{sorted_head, sorted_tail}
use Rattle.std.proofs.lemmas.Map.Views.{All-from_any}
use Rattle.life_core.specs.declared.cell.Cell.{Cell}
use Rattle.life_core.specs.declared.cell.TheConstants.{PLANE}
use Rattle.life_core.specs.Cell.{cell_cmp, IsCellWithin}
use Rattle.life_core.specs.Pattern.{Cells, in_order, IsWithin, normal}
use Rattle.life_core.proofs.PatternMembers.{same_cell_laws, within_from_list}
use Rattle.life_core.proofs.PatternOrder.{has_cell-in_order, in_order-sorted, from_list-in_order}
use Rattle.life_rle.specs.Body.{IsPlaced}
use Rattle.life_rle.specs.Record.{IsInside}
use Rattle.life_rle.specs.File.{cell_of}
use Rattle.life_rle.specs.Writer.{coordinates, pairs_of, IsQuarterCell}
use Rattle.life_rle.specs.WriterState.{InOrder}
use Rattle.life_rle.proofs.RecordCells.{IsFromZero, normal_from_zero}

-- the pairs lie in the columns and rows 0 to 1023
abbrev pub AllInside : List (ℕ × ℕ) → Type 0
AllInside [] = Unit {0}
AllInside (cell ∷ cells) = (cell.0 < 1024) × (cell.1 < 1024) × AllInside cells

by_recursion : (P : Cell → Type 0) (cs : List Cell) → All P cs → AllByRecursion P cs
by_recursion P [] all = tt
by_recursion P (c ∷ cs) all = (All-head P c cs all, by_recursion P cs (All-tail P c cs all))

-- ---- order

less_parts : (a b c d : ℤ) (o p : Ordering) → o ≡ int_cmp a c → p ≡ int_cmp b d → ordering_then o p ≡ Less
    → (a ≤ℤ c) × (a ≡ c → b <ℤ d)
less_parts a b c d Less p e f h =
    let k = int_ranked a c Less e in (omega (arith, ints, k), λ same. absurd (omega (arith, ints, k, same)))
less_parts a b c d Equal Less e f h =
    let k = int_ranked a c Equal e in let l = int_ranked b d Less f in (omega (arith, ints, k), λ _. l)
less_parts a b c d Equal Equal e f h = absurd cc
less_parts a b c d Equal Greater e f h = absurd cc
less_parts a b c d Greater p e f h = absurd cc

size_le : (a c : ℤ) → pos 0 ≤ℤ a → pos 0 ≤ℤ c → a ≤ℤ c → nat_abs a ≤ nat_abs c
size_le a c p q h = omega (arith, ints)

size_lt : (a c : ℤ) → pos 0 ≤ℤ a → pos 0 ≤ℤ c → a <ℤ c → nat_abs a + 1 ≤ nat_abs c
size_lt a c p q h = omega (arith, ints)

size_back : (a : ℤ) → pos 0 ≤ℤ a → pos (nat_abs a) ≡ a
size_back (pos n) h = refl
size_back (negsuc n) h = absurd (omega (arith, ints))

size_same : (a c : ℤ) → pos 0 ≤ℤ a → pos 0 ≤ℤ c → nat_abs a ≡ nat_abs c → a ≡ c
size_same a c p q h = sym (size_back a p) ∙ ap pos h ∙ size_back c q

from_cell : (c : Cell) (cs : List Cell) → IsFromZero c → AllByRecursion IsFromZero cs
    → IsStrictlySortedBy cell_cmp (c ∷ cs) → InOrder (nat_abs c.row) (nat_abs c.column + 1) (map coordinates cs)
from_cell c [] z all sorted = tt
from_cell c (d ∷ cs) z all sorted =
    let first : (cell_cmp c d ≡ Less) × AllByRecursion (λ y. cell_cmp c y ≡ Less) cs =
    sorted_head cell_cmp c (d ∷ cs) sorted in
    let parts = less_parts c.row c.column d.row d.column (int_cmp c.row d.row)
    (int_cmp c.column d.column) refl refl first.0 in (
      size_le c.row d.row z.row all.0.row parts.0,
      λ same. size_lt c.column d.column z.column all.0.column (parts.1 (size_same c.row d.row z.row all.0.row same)),
      from_cell d cs all.0 all.1 (sorted_tail cell_cmp c (d ∷ cs) sorted),
    )

cells_in_order : (cs : List Cell) → AllByRecursion IsFromZero cs → IsStrictlySortedBy cell_cmp cs
    → InOrder 0 0 (map coordinates cs)
cells_in_order [] all sorted = tt
cells_in_order (c ∷ cs) all sorted = (omega arith, λ _. omega arith, from_cell c cs all.0 all.1 sorted)

cells_back : (cs : List Cell) → AllByRecursion IsFromZero cs → map cell_of (map coordinates cs) ≡ cs
cells_back [] all = refl
cells_back (c ∷ cs) all =
    ap (λ r. (let d : Cell = record { row = r; column = pos (nat_abs c.column) } in d)
    ∷ map cell_of (map coordinates cs)) (size_back c.row all.0.row)
    ∙ ap (λ x. (let d : Cell = record { row = c.row; column = x } in d) ∷ map cell_of (map coordinates cs))
    (size_back c.column all.0.column)
    ∙ ap (λ ds. c ∷ ds) (cells_back cs all.1)

from_placed : (cs : List Cell) → All IsPlaced cs → AllByRecursion IsFromZero cs
from_placed cs all =
    by_recursion IsFromZero cs (All-weaker IsPlaced IsFromZero
    (λ c h. record { row = h.row_low; column = h.column_low }) cs all)

-- the cells of the pairs of placed cells are these cells
pub placed_back : (cs : List Cell) → All IsPlaced cs → map cell_of (map coordinates cs) ≡ cs
placed_back cs all = cells_back cs (from_placed cs all)

-- ---- normal sets

-- what holds of each cell of a set holds of each cell in order
cells_all : (P : Cell → Type 0) (X : Cells) → ((c : Cell) → set.contains X c ≡ true → P c) → All P (in_order X)
cells_all P X h = All-from_any same_cell_laws P (in_order X) (λ c m. h c (sym (has_cell-in_order X c) ∙ m))

from_zero : (X : Cells) → normal X ≡ X → (c : Cell) → set.contains X c ≡ true → IsFromZero c
from_zero X same c h = normal_from_zero X c (ap (λ (Y : Cells). set.contains Y c) same ∙ h)

all_from_zero : (X : Cells) → normal X ≡ X → AllByRecursion IsFromZero (in_order X)
all_from_zero X same = by_recursion IsFromZero (in_order X) (cells_all IsFromZero X (from_zero X same))

pub pairs_in_order : (X : Cells) → normal X ≡ X → InOrder 0 0 (pairs_of X)
pairs_in_order X same = cells_in_order (in_order X) (all_from_zero X same) (in_order-sorted X)

-- the set of the cells of the pairs is the set
pub pairs_back : (X : Cells) → normal X ≡ X → set.from_list (map cell_of (pairs_of X)) ≡ X
pairs_back X same = ap (λ cs. set.from_list cs) (cells_back (in_order X) (all_from_zero X same)) ∙ from_list-in_order X

record IsSmall (c : Cell) : Type 0 where
  zero : IsFromZero c
  within : IsCellWithin 1023 c

size_small : (a : ℤ) → pos 0 ≤ℤ a → a ≤ℤ pos 1023 → nat_abs a < 1024
size_small a p h = omega (arith, ints)

small_inside : (cs : List Cell) → AllByRecursion IsSmall cs → AllInside (map coordinates cs)
small_inside [] all = tt
small_inside (c ∷ cs) all = (
  size_small c.column all.0.zero.column all.0.within.right,
  size_small c.row all.0.zero.row all.0.within.bottom,
  small_inside cs all.1,
)

pub pairs_inside : (X : Cells) → normal X ≡ X → IsInside 1024 X → AllInside (pairs_of X)
pairs_inside X same inside =
    small_inside (in_order X) (by_recursion IsSmall (in_order X)
    (cells_all IsSmall X (λ c h. record { zero = from_zero X same c h; within = inside c h })))

size_below : (k : ℕ) (a : ℤ) → pos 0 ≤ℤ a → a ≤ℤ pos k → nat_abs a < k + 1
size_below k a p h = omega (arith, ints)

record IsFromZeroTo (k : ℕ) (c : Cell) : Type 0 where
  zero : IsFromZero c
  within : IsCellWithin k c

below_by : (k : ℕ) (cs : List Cell) → AllByRecursion (IsFromZeroTo k) cs
    → AllByRecursion (λ (cell : ℕ × ℕ). (cell.0 < k + 1) × (cell.1 < k + 1)) (map coordinates cs)
below_by k [] all = tt
below_by k (c ∷ cs) all = (
  (size_below k c.column all.0.zero.column all.0.within.right, size_below k c.row all.0.zero.row all.0.within.bottom),
  below_by k cs all.1,
)

-- the pairs of a normal set within k lie in its first columns and rows
pub pairs_below : (k : ℕ) (X : Cells) → normal X ≡ X → IsWithin k X
    → AllByRecursion (λ (cell : ℕ × ℕ). (cell.0 < k + 1) × (cell.1 < k + 1)) (pairs_of X)
pairs_below k X same within =
    below_by k (in_order X) (by_recursion (IsFromZeroTo k) (in_order X)
    (cells_all (IsFromZeroTo k) X (λ c h. record { zero = from_zero X same c h; within = within c h })))

-- ---- the cells of a record

quarter : (X : Cells) → normal X ≡ X → IsWithin PLANE X → (c : Cell) → set.contains X c ≡ true → IsQuarterCell c
quarter X same within c h =
    let zero = from_zero X same c h in
    let most = within c h in
    record { row_low = zero.row; row_high = most.bottom; column_low = zero.column; column_high = most.right }

in_plane : (X : Cells) → All (IsCellWithin PLANE) (in_order X) → IsWithin PLANE X
in_plane X all =
    subst (λ (Y : Cells). IsWithin PLANE Y) (from_list-in_order X) (within_from_list PLANE (in_order X) all)

-- the cells that the code has of a normal set
pub quarter_cells : (X : Cells) (cs : List Cell) → normal X ≡ X → cs ≡ in_order X → All (IsCellWithin PLANE) cs
    → All IsQuarterCell cs
quarter_cells X cs same is all =
    All-same IsQuarterCell cs (in_order X) is (cells_all IsQuarterCell X
    (quarter X same (in_plane X (All-same (IsCellWithin PLANE) (in_order X) cs (sym is) all))))
