-- The corners of the box around two sets, and the upper left cell and the extent that corners give.
use Rattle.std.specs.Prelude.{◌≡◌, ◌≤ℤ◌, ◌-ℤ◌, ◌+ℤ◌, ℤ, pos, neg_ℤ, Bool, true, false, ◌||◌, ◌⊎◌, Option, None, Some}
use Rattle.std.specs.Prelude.{List, [], ◌∷◌, IfSome}
use Rattle.std.proofs.Common.{w64, to_z, of_z, ℕ, map, sym, ap, subst, ◌∙◌, inl, inr, arith, refl}
use Rattle.std.specs.Int.{int_min, int_max}
use Rattle.std.proofs.lemmas.Int.{ints, clamps, to_z-of_z}
use Rattle.std.proofs.lemmas.Bool.{false≢true, or_cases, or_left, or_right}
use Rattle.std.specs.FinSet as set
use Rattle.life_core.specs.declared.cell.Cell.{Cell}
use Rattle.life_core.specs.declared.orientation.Orientation.TheVariants.{O0}
use Rattle.life_core.specs.Cell.{cell_cmp, IsCellWithin}
use Rattle.life_core.specs.Pattern.{Cells, IsLeast, IsGreatest, IsBox, corner, normal, in_order, least_in}
use Rattle.life_core.proofs.CellLemmas.{same_coordinates}
use Rattle.life_core.proofs.FrameBounds.{near_fits}
use Rattle.life_core.proofs.PatternBoxes.{least_is, normal-empty}
use Rattle.life_core.proofs.PatternCorners.{normal-normal}
use Rattle.life_core.proofs.PatternMembers.{same_cell, has_cell, same_cell-self, contains-items, cells_by_members}
use Rattle.life_core.proofs.PatternOrder.{has_cell-in_order}
use Rattle.life_core.proofs.Placements.{minus, plus, moved, plus_minus, minus_plus, contains-placed}
use Rattle.life_rle.specs.Record.{IsRecord, plain}
use Rattle.life_rle.specs.Writer.{coordinates, pairs_of, width_of, height_of}
use Rattle.life_rle.proofs.LawsCuts.{headers_give_the_box}
use Rattle.life_pictures.specs.declared.corners.Corners.{Corners}
use Rattle.life_pictures.specs.Corners.{AreCorners, AreNear, AreTogether, HasCorners}

same : (v : ℤ) → neg_ℤ (pos 4096) ≤ℤ v → v ≤ℤ pos 4096 → to_z w64 (of_z w64 v) ≡ v
same v low high = to_z-of_z w64 v (near_fits v (omega (arith, ints, low)) (omega (arith, ints, high)))

-- the lesser of two near scalars
pub lesser : (r a b : ℤ) → neg_ℤ (pos 4096) ≤ℤ a → a ≤ℤ pos 4096 → neg_ℤ (pos 4096) ≤ℤ b → b ≤ℤ pos 4096
    → r ≡ int_min (to_z w64 (of_z w64 a)) (to_z w64 (of_z w64 b)) → to_z w64 (of_z w64 r) ≡ int_min a b
lesser r a b la ha lb hb is =
    let e : r ≡ int_min a b = is ∙ ap (λ (x : ℤ). int_min x (to_z w64 (of_z w64 b))) (same a la ha)
    ∙ ap (int_min a) (same b lb hb) in
    same r (omega (arith, ints, clamps, e, la, lb)) (omega (arith, ints, clamps, e, ha, hb)) ∙ e

-- the greater of two near scalars
pub greater : (r a b : ℤ) → neg_ℤ (pos 4096) ≤ℤ a → a ≤ℤ pos 4096 → neg_ℤ (pos 4096) ≤ℤ b → b ≤ℤ pos 4096
    → r ≡ int_max (to_z w64 (of_z w64 a)) (to_z w64 (of_z w64 b)) → to_z w64 (of_z w64 r) ≡ int_max a b
greater r a b la ha lb hb is =
    let e : r ≡ int_max a b = is ∙ ap (λ (x : ℤ). int_max x (to_z w64 (of_z w64 b))) (same a la ha)
    ∙ ap (int_max a) (same b lb hb) in
    same r (omega (arith, ints, clamps, e, la, lb)) (omega (arith, ints, clamps, e, ha, hb)) ∙ e

-- ---- two sets together

module _ (f : Cell → ℤ) (X Y Z : Cells) (both : AreTogether X Y Z) where
  least_of_both : (a b : ℤ) → IsLeast f X a → IsLeast f Y b → IsLeast f Z (int_min a b)
  least_of_both a b low other = record {
    below = λ c has. elim (or_cases (set.contains X c) (set.contains Y c) (sym (both c) ∙ has)) [
      | inl here ↦ let at = low.below c here in omega (arith, ints, clamps, at)
      | inr there ↦ let at = other.below c there in omega (arith, ints, clamps, at)
    ];
    reached = elim (least_one a b) [
      | inl own ↦ (low.reached.0, both low.reached.0 ∙ or_left _ _ low.reached.1, low.reached.2 ∙ sym own)
      | inr new ↦ (other.reached.0, both other.reached.0 ∙ or_right _ _ other.reached.1, other.reached.2 ∙ sym new)
    ];
  }
    where
      least_one : (a b : ℤ) → (int_min a b ≡ a) ⊎ (int_min a b ≡ b)
      least_one a b = grind (arith, ints, clamps)

  greatest_of_both : (a b : ℤ) → IsGreatest f X a → IsGreatest f Y b → IsGreatest f Z (int_max a b)
  greatest_of_both a b high other = record {
    above = λ c has. elim (or_cases (set.contains X c) (set.contains Y c) (sym (both c) ∙ has)) [
      | inl here ↦ let at = high.above c here in omega (arith, ints, clamps, at)
      | inr there ↦ let at = other.above c there in omega (arith, ints, clamps, at)
    ];
    reached = elim (greatest_one a b) [
      | inl own ↦ (high.reached.0, both high.reached.0 ∙ or_left _ _ high.reached.1, high.reached.2 ∙ sym own)
      | inr new ↦ (other.reached.0, both other.reached.0 ∙ or_right _ _ other.reached.1, other.reached.2 ∙ sym new)
    ];
  }
    where
      greatest_one : (a b : ℤ) → (int_max a b ≡ a) ⊎ (int_max a b ≡ b)
      greatest_one a b = grind (arith, ints, clamps)

-- the corners of two sets together
pub corners_together : (X Y Z : Cells) (one other e : Corners) → AreTogether X Y Z → AreCorners one X
    → AreCorners other Y
    → e.first.column ≡ int_min one.first.column other.first.column → e.first.row ≡ int_min one.first.row other.first.row
    → e.last.column ≡ int_max one.last.column other.last.column → e.last.row ≡ int_max one.last.row other.last.row
    → AreCorners e Z
corners_together X Y Z one other e both own new left top right bottom =
    let a = own.near in
    let b = new.near in
    record {
      left =
          subst (IsLeast (λ (c : Cell). c.column) Z) (sym left)
          (least_of_both (λ c. c.column) X Y Z both _ _ own.left new.left);
      right =
          subst (IsGreatest (λ (c : Cell). c.column) Z) (sym right)
          (greatest_of_both (λ c. c.column) X Y Z both _ _ own.right new.right);
      top =
          subst (IsLeast (λ (c : Cell). c.row) Z) (sym top) (least_of_both (λ c. c.row) X Y Z both _ _ own.top new.top);
      bottom =
          subst (IsGreatest (λ (c : Cell). c.row) Z) (sym bottom)
          (greatest_of_both (λ c. c.row) X Y Z both _ _ own.bottom new.bottom);
      near = record {
        left = omega (arith, ints, clamps, left, a.left, b.left);
        across = omega (arith, ints, clamps, left, right, a.across, b.across);
        right = omega (arith, ints, clamps, right, a.right, b.right);
        top = omega (arith, ints, clamps, top, a.top, b.top);
        down = omega (arith, ints, clamps, top, bottom, a.down, b.down);
        bottom = omega (arith, ints, clamps, bottom, a.bottom, b.bottom);
      };
    }

alone : (X Y Z : Cells) → AreTogether X Y Z → Y ≡ set.empty → Z ≡ X
alone X Y Z both none =
    cells_by_members Z X (λ c. both c ∙ ap (λ (W : Cells). set.contains X c || set.contains W c) none
    ∙ ap (λ b. set.contains X c || b) (set.contains-empty cell_cmp c) ∙ or_false (set.contains X c))
  where
    or_false : (b : Bool) → (b || false) ≡ b
    or_false true = refl
    or_false false = refl

other_alone : (X Y Z : Cells) → AreTogether X Y Z → X ≡ set.empty → Z ≡ Y
other_alone X Y Z both none =
    cells_by_members Z Y (λ c. both c ∙ ap (λ (W : Cells). set.contains W c || set.contains Y c) none
    ∙ ap (λ b. b || set.contains Y c) (set.contains-empty cell_cmp c))

-- a set with an empty one
pub corners_left : (X Y Z : Cells) (e : Corners) → AreTogether X Y Z → AreCorners e X → Y ≡ set.empty → AreCorners e Z
corners_left X Y Z e both own none = subst (AreCorners e) (sym (alone X Y Z both none)) own

-- an empty set with another
pub corners_right : (X Y Z : Cells) (e : Option Corners) → AreTogether X Y Z → X ≡ set.empty
    → HasCorners Y e → HasCorners Z e
corners_right X Y Z e both none other = subst (λ (W : Cells). HasCorners W e) (sym (other_alone X Y Z both none)) other

-- the first corner
pub first_is : (X : Cells) (e : Corners) → AreCorners e X → e.first ≡ corner X
first_is X e are =
    same_coordinates _ _ (sym (least_is (λ c. c.row) X e.first.row are.top))
    (sym (least_is (λ c. c.column) X e.first.column are.left))

-- a list that has no cell
none_in : (cs : List Cell) → ((c : Cell) → has_cell cs c ≡ false) → cs ≡ []
none_in [] none = refl
none_in (c ∷ cs) none = absurd (false≢true (sym (none c) ∙ or_left (same_cell c c) (has_cell cs c) (same_cell-self c)))

no_items : (X : Cells) → X ≡ set.empty → set.items X ≡ []
no_items X is =
    none_in (set.items X)
    (λ c. sym (contains-items X c) ∙ ap (λ (Y : Cells). set.contains Y c) is ∙ set.contains-empty cell_cmp c)

-- an empty set has the origin for its corner
pub first_of_none : (X : Cells) → X ≡ set.empty → record { row = pos 0; column = pos 0 } ≡ corner X
first_of_none X is =
    same_coordinates _ _ (ap (least_in (λ c. c.row)) (sym (no_items X is)))
    (ap (least_in (λ c. c.column)) (sym (no_items X is)))

-- the corners of a set's box are near
pub near_of : (X : Cells) (e : Option Corners) → HasCorners X e → IfSome e AreNear
near_of X None has = tt
near_of X (Some e) has = has.near

-- the first corner lies near
pub first_within : (X : Cells) (e : Option Corners) → HasCorners X e → IsCellWithin 4096 (corner X)
first_within X None has = subst (IsCellWithin 4096) (first_of_none X has) (record {
  top = omega (arith, ints);
  bottom = omega (arith, ints);
  left = omega (arith, ints);
  right = omega (arith, ints);
})
first_within X (Some e) has =
    let near = has.near in
    subst (IsCellWithin 4096) (first_is X e has) (record {
      top = near.top;
      bottom = omega (arith, ints, near.down, near.bottom);
      left = near.left;
      right = omega (arith, ints, near.across, near.right);
    })

-- ---- the box of the normal form

module _ (f : Cell → ℤ) (sums : (c d : Cell) → f (plus c d) ≡ f c +ℤ f d) (X : Cells) (v : Cell) (a : ℤ) where
  back : (c : Cell) → f c ≡ f (plus c (minus v)) +ℤ f v
  back c = ap f (sym (plus_minus c v)) ∙ sums (plus c (minus v)) v

  there : (c : Cell) → set.contains X c ≡ true → set.contains (moved v X) (plus c v) ≡ true
  there c has = contains-placed O0 v X (plus c v) ∙ ap (set.contains X) (minus_plus c v) ∙ has

  least_moved : IsLeast f X a → IsLeast f (moved v X) (a +ℤ f v)
  least_moved low = record {
    below =
        λ c h. let under = low.below (plus c (minus v)) (sym (contains-placed O0 v X c) ∙ h) in
        let sum = back c in omega (arith, ints, under, sum);
    reached = (
      plus low.reached.0 v,
      there low.reached.0 low.reached.1,
      sums low.reached.0 v ∙ ap (λ z. z +ℤ f v) low.reached.2,
    );
  }

  greatest_moved : IsGreatest f X a → IsGreatest f (moved v X) (a +ℤ f v)
  greatest_moved high = record {
    above =
        λ c h. let over = high.above (plus c (minus v)) (sym (contains-placed O0 v X c) ∙ h) in
        let sum = back c in omega (arith, ints, over, sum);
    reached = (
      plus high.reached.0 v,
      there high.reached.0 high.reached.1,
      sums high.reached.0 v ∙ ap (λ z. z +ℤ f v) high.reached.2,
    );
  }

-- the box of the normal form has the same size
pub normal_box : (X : Cells) (e : Corners) (width height : ℕ) → AreCorners e X
    → (e.first.column +ℤ pos width) -ℤ pos 1 ≡ e.last.column → (e.first.row +ℤ pos height) -ℤ pos 1 ≡ e.last.row
    → IsBox (normal X) (e.first.column +ℤ neg_ℤ (corner X).column) (e.first.row +ℤ neg_ℤ (corner X).row) width height
normal_box X e width height are wide high =
    let v = minus (corner X) in
    let right : e.last.column +ℤ v.column ≡ ((e.first.column +ℤ v.column) +ℤ pos width) -ℤ pos 1 =
    omega (arith, ints, wide) in
    let bottom : e.last.row +ℤ v.row ≡ ((e.first.row +ℤ v.row) +ℤ pos height) -ℤ pos 1 = omega (arith, ints, high) in
    record {
      from_column = least_moved (λ c. c.column) (λ c d. refl) X v e.first.column are.left;
      to_column =
          subst (IsGreatest (λ (c : Cell). c.column) (normal X)) right
          (greatest_moved (λ c. c.column) (λ c d. refl) X v e.last.column are.right);
      from_row = least_moved (λ c. c.row) (λ c d. refl) X v e.first.row are.top;
      to_row =
          subst (IsGreatest (λ (c : Cell). c.row) (normal X)) bottom
          (greatest_moved (λ c. c.row) (λ c d. refl) X v e.last.row are.bottom);
    }

-- the set without cells has no pairs
no_pairs : (X : Cells) → X ≡ set.empty → pairs_of (normal X) ≡ []
no_pairs X is =
    let same : normal X ≡ set.empty = ap (λ (W : Cells). normal W) is ∙ normal-empty in
    ap (map coordinates) (none_in (in_order (normal X))
    (λ c. has_cell-in_order (normal X) c ∙ ap (λ (W : Cells). set.contains W c) same ∙ set.contains-empty cell_cmp c))

pub no_width : (X : Cells) → X ≡ set.empty → 0 ≡ width_of (pairs_of (normal X))
no_width X is = sym (ap width_of (no_pairs X is))

pub no_height : (X : Cells) → X ≡ set.empty → 0 ≡ height_of (pairs_of (normal X))
no_height X is = sym (ap height_of (no_pairs X is))

is_record : (X : Cells) → IsRecord (plain (record { birth = set.empty; survival = set.empty }) X)
is_record X = record { name = tt; author = tt; comments = tt; few = omega arith; cells = normal-normal X }

-- the size of the box is that of the normal form
pub box_is_extent : (X : Cells) (e : Corners) (width height : ℕ) → AreCorners e X
    → (e.first.column +ℤ pos width) -ℤ pos 1 ≡ e.last.column → (e.first.row +ℤ pos height) -ℤ pos 1 ≡ e.last.row
    → (width ≡ width_of (pairs_of (normal X))) × (height ≡ height_of (pairs_of (normal X)))
box_is_extent X e width height are wide high =
    let sizes = headers_give_the_box (plain (record { birth = set.empty; survival = set.empty }) X) _ _ width height
    (is_record X) (normal_box X e width height are wide high) in
    (sym sizes.0, sym sizes.1)
