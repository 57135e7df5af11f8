-- A cell's next state depends only on its block of 3 by 3; so the next set of a union of sets that are apart.
use Rattle.std.specs.Prelude.{◌≡◌, ◌+◌, ℤ, pos, negsuc, ◌≤ℤ◌, Bool, true, false, cond, ◌||◌, List, [], ◌∷◌, count_by}
use Rattle.std.specs.Prelude.{◌⊎◌, refl}
use Rattle.std.proofs.Common.{sym, ap, ◌∙◌, inl, inr, arith}
use Rattle.std.proofs.lemmas.Bool.{false≢true, cases_Bool, or_left, or_right, or_from, false_from_ne_true}
use Rattle.std.proofs.lemmas.Int.{ints}
use Rattle.std.proofs.lemmas.List.Elements.{All-contains, All-from_recursion}
use Rattle.std.proofs.lemmas.List.Sums.{sum_by-cons}
use Rattle.std.proofs.lemmas.Map.Views.{Contains-from_any}
use Rattle.std.specs.List.{list_any, All}
use Rattle.std.specs.FinSet as set
use Rattle.life_core.specs.declared.cell.Cell.{Cell}
use Rattle.life_core.specs.Cell.{cell_cmp, moved_cell, around}
use Rattle.life_core.specs.Pattern.{Cells}
use Rattle.life_core.specs.Rule.{RuleSets, lives_at}
use Rattle.life_core.specs.Generations.{neighbour_count, lives_next, next}
use Rattle.life_core.proofs.PatternMembers.{has_cell, same_cell, same_cell-self, same_cell-true, cell_cmp_total}
use Rattle.life_core.proofs.PatternMembers.{cells_by_members, passing_cell, passed_by_member}
use Rattle.life_core.proofs.GenerationsLaws.{contains-next, none_counted}
use Rattle.life_code.specs.Apart.{near, AreApart}
use Rattle.life_code.proofs.ApartNear.{AreWithin, within_near}

-- ---- the block of a cell

beside : (c : Cell) (dx dy : ℤ) → negsuc 0 ≤ℤ dx → dx ≤ℤ pos 1 → negsuc 0 ≤ℤ dy → dy ≤ℤ pos 1
    → AreWithin (pos 1) c (moved_cell dx dy c)
beside c dx dy p q s t = record {
  rows_up = omega (arith, ints);
  rows_down = omega (arith, ints);
  columns_up = omega (arith, ints);
  columns_down = omega (arith, ints);
}

block_beside : (c : Cell) → All (AreWithin (pos 1) c) (c ∷ around c)
block_beside c = All-from_recursion (AreWithin (pos 1) c) (c ∷ around c) (
  record {
    rows_up = omega (arith, ints);
    rows_down = omega (arith, ints);
    columns_up = omega (arith, ints);
    columns_down = omega (arith, ints);
  },
  (
    near_by (negsuc 0) (negsuc 0) (omega (arith, ints)) (omega (arith, ints)) (omega (arith, ints))
        (omega (arith, ints)),
    (
      near_by (pos 0) (negsuc 0) (omega (arith, ints)) (omega (arith, ints)) (omega (arith, ints))
          (omega (arith, ints)),
      (
        near_by (pos 1) (negsuc 0) (omega (arith, ints)) (omega (arith, ints)) (omega (arith, ints))
            (omega (arith, ints)),
        (
          near_by (negsuc 0) (pos 0) (omega (arith, ints)) (omega (arith, ints)) (omega (arith, ints))
              (omega (arith, ints)),
          (
            near_by (pos 1) (pos 0) (omega (arith, ints)) (omega (arith, ints)) (omega (arith, ints))
                (omega (arith, ints)),
            (
              near_by (negsuc 0) (pos 1) (omega (arith, ints)) (omega (arith, ints)) (omega (arith, ints))
                  (omega (arith, ints)),
              (
                near_by (pos 0) (pos 1) (omega (arith, ints)) (omega (arith, ints)) (omega (arith, ints))
                    (omega (arith, ints)),
                (
                  near_by (pos 1) (pos 1) (omega (arith, ints)) (omega (arith, ints)) (omega (arith, ints))
                      (omega (arith, ints)),
                  tt,
                ),
              ),
            ),
          ),
        ),
      ),
    ),
  ),
)
  where
    near_by : (dx dy : ℤ) → negsuc 0 ≤ℤ dx → dx ≤ℤ pos 1 → negsuc 0 ≤ℤ dy → dy ≤ℤ pos 1
        → AreWithin (pos 1) c (moved_cell dx dy c)
    near_by dx dy p q s t = beside c dx dy p q s t

-- two cells of one block are near
block_near : (c d e : Cell) → has_cell (c ∷ around c) d ≡ true → has_cell (c ∷ around c) e ≡ true → near d e ≡ true
block_near c d e h k =
    let a = All-contains (AreWithin (pos 1) c) (c ∷ around c) d (block_beside c)
    (Contains-from_any same_cell-true d (c ∷ around c) h) in
    let b = All-contains (AreWithin (pos 1) c) (c ∷ around c) e (block_beside c)
    (Contains-from_any same_cell-true e (c ∷ around c) k) in
    within_near d e (record {
      rows_up = omega (arith, ints, a.rows_down, b.rows_up);
      rows_down = omega (arith, ints, a.rows_up, b.rows_down);
      columns_up = omega (arith, ints, a.columns_down, b.columns_up);
      columns_down = omega (arith, ints, a.columns_up, b.columns_down);
    })

-- ---- what a cell's block decides

count_agree : (p q : Cell → Bool) (cs : List Cell) → ((d : Cell) → has_cell cs d ≡ true → p d ≡ q d)
    → count_by p cs ≡ count_by q cs
count_agree p q [] same = refl
count_agree p q (x ∷ xs) same =
    sum_by-cons (λ y. cond (p y) 1 0) x xs
    ∙ (λ i. cond (same x (or_left (same_cell x x) (has_cell xs x) (same_cell-self x)) i) 1 0
    + count_agree p q xs (λ d h. same d (or_right (same_cell d x) (has_cell xs d) h)) i)
    ∙ sym (sum_by-cons (λ y. cond (q y) 1 0) x xs)

-- two sets that agree on the block of c
block_decides : (r : RuleSets) (Y Z : Cells) (c : Cell)
    → ((d : Cell) → has_cell (c ∷ around c) d ≡ true → set.contains Y d ≡ set.contains Z d)
    → lives_next r Y c ≡ lives_next r Z c
block_decides r Y Z c same =
    λ i. lives_at r (same c (or_left (same_cell c c) (has_cell (around c) c) (same_cell-self c)) i)
    (count_agree (set.contains Y) (set.contains Z) (around c)
    (λ d h. same d (or_right (same_cell d c) (has_cell (around c) d) h)) i)

-- the block of c has no cell of Y
abbrev IsQuiet : Cells → Cell → Type 0
IsQuiet Y c = (d : Cell) → has_cell (c ∷ around c) d ≡ true → set.contains Y d ≡ false

quiet_from_none : (Y : Cells) (c : Cell) → list_any (set.contains Y) (c ∷ around c) ≡ false → IsQuiet Y c
quiet_from_none Y c none d h =
    false_from_ne_true (set.contains Y d)
    (λ live. false≢true (sym none ∙ passed_by_member (set.contains Y) (c ∷ around c) d h live))

-- nothing is born if nothing is
quiet_dies : (r : RuleSets) (Y : Cells) (c : Cell) → set.contains r.birth 0 ≡ false → IsQuiet Y c
    → lives_next r Y c ≡ false
quiet_dies r Y c none quiet =
    block_decides r Y set.empty c (λ d h. quiet d h ∙ sym (set.contains-empty cell_cmp d))
    ∙ (λ i. lives_at r (set.contains-empty cell_cmp c i) (neighbour_count set.empty c))
    ∙ ap (set.contains r.birth) (none_counted (set.contains (set.empty {R = cell_cmp})) (around c) (nothing (around c)))
    ∙ none
  where
    nothing : (cs : List Cell) → list_any (set.contains (set.empty {R = cell_cmp})) cs ≡ false
    nothing [] = refl
    nothing (x ∷ xs) = or_from _ _ (set.contains-empty cell_cmp x) (nothing xs)

pub or-false : (b : Bool) → (b || false) ≡ b
or-false true = refl
or-false false = refl

-- at most one of two sets that are apart has a cell in the block of c
quiet_beside : (Y Z : Cells) (c : Cell) → AreApart Y Z → list_any (set.contains Y) (c ∷ around c) ≡ true → IsQuiet Z c
quiet_beside Y Z c apart some d h =
    let y = passing_cell (set.contains Y) (c ∷ around c) some in
    false_from_ne_true (set.contains Z d)
    (λ live. false≢true (sym (apart y.cell d y.passes live) ∙ block_near c y.cell d y.member h))

-- the next set of a union of sets that are apart
pub next-union : (r : RuleSets) (Y Z : Cells) → set.contains r.birth 0 ≡ false → AreApart Y Z
    → next r (set.union Y Z) ≡ set.union (next r Y) (next r Z)
next-union r Y Z none apart = cells_by_members _ _ (λ c.
    contains-next r (set.union Y Z) c none ∙ split c (cases_Bool (list_any (set.contains Y) (c ∷ around c)))
    ∙ sym (set.contains-union cell_cmp_total (next r Y) (next r Z) c
    ∙ (λ i. contains-next r Y c none i || contains-next r Z c none i)))
  where
    split : (c : Cell) → (list_any (set.contains Y) (c ∷ around c) ≡ true)
        ⊎ (list_any (set.contains Y) (c ∷ around c) ≡ false)
        → lives_next r (set.union Y Z) c ≡ (lives_next r Y c || lives_next r Z c)
    split c (inl some) =
        let quiet = quiet_beside Y Z c apart some in
        block_decides r (set.union Y Z) Y c (λ d h. set.contains-union cell_cmp_total Y Z d
        ∙ ap (λ b. set.contains Y d || b) (quiet d h) ∙ or-false (set.contains Y d))
        ∙ sym (ap (λ b. lives_next r Y c || b) (quiet_dies r Z c none quiet) ∙ or-false (lives_next r Y c))
    split c (inr free) =
        let quiet = quiet_from_none Y c free in
        block_decides r (set.union Y Z) Z c
        (λ d h. set.contains-union cell_cmp_total Y Z d ∙ ap (λ b. b || set.contains Z d) (quiet d h))
        ∙ sym (ap (λ b. b || lives_next r Z c) (quiet_dies r Y c none quiet))

pub next-empty : (r : RuleSets) → set.contains r.birth 0 ≡ false → next r set.empty ≡ set.empty
next-empty r none =
    cells_by_members _ _ (λ c. contains-next r set.empty c none
    ∙ quiet_dies r set.empty c none (λ d h. set.contains-empty cell_cmp d) ∙ sym (set.contains-empty cell_cmp c))
