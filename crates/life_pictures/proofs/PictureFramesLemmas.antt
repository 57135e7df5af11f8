-- Sets in a box, the cells of several generations, and their frames.
use Rattle.std.specs.Prelude.{◌≤ℤ◌, ◌+ℤ◌, ◌-ℤ◌, ◌-◌, ◌*◌, ℤ, pos, neg_ℤ, Option}
use Rattle.std.proofs.Common.{w64, to_z, of_z, ◌≡◌, ◌≤◌, ◌<◌, ℕ, zero, suc, ◌+◌, true, ◌||◌, ◌⊎◌, List, [], ◌∷◌, ◌++◌}
use Rattle.std.proofs.Common.{map, take, length, get_or, codes, refl, ap, ◌∙◌, sym, subst, inl, inr, arith}
use Rattle.std.specs.List.{All, flat_map, range_with_len}
use Rattle.std.specs.FinSet as set
use Rattle.std.proofs.Math.Nat.{eq-or-lt_of_le}
use Rattle.std.proofs.lemmas.Int.{ints, to_z-of_z}
use Rattle.std.proofs.lemmas.Bool.{or_left, or_right}
use Rattle.std.proofs.lemmas.List.Concat.{flat_map-append}
use Rattle.std.proofs.lemmas.List.Folds.{flat_map-map, list_any-append}
use Rattle.std.proofs.lemmas.List.FromFn.{get_or-map-range_with_len, length-map-range_with_len, map-range_with_len_more}
use Rattle.std.proofs.lemmas.List.{append_assoc, append-nil, take_more}
use Rattle.std.proofs.lemmas.List.Elements.{All-same}
use Rattle.std.proofs.lemmas.Map.Views.{All-from_any}
use Rattle.life_core.specs.declared.cell.Cell.{Cell}
use Rattle.life_core.specs.declared.cell.TheConstants.{PLANE}
use Rattle.life_core.specs.declared.orientation.Orientation.TheVariants.{O0}
use Rattle.life_core.specs.Cell.{moved_cell, IsCellWithin}
use Rattle.life_core.specs.Pattern.{Cells, image, in_order, corner, IsWithin}
use Rattle.life_core.specs.Rule.{RuleSets}
use Rattle.life_core.specs.Generations.{next, generation_of}
use Rattle.life_core.proofs.FrameBounds.{near_fits}
use Rattle.life_core.proofs.GenerationsLaws.{generation_within, within_more}
use Rattle.life_core.proofs.PatternCorners.{Has, least-IsLeast}
use Rattle.life_core.proofs.PatternMembers.{same_cell, has_cell, same_cell_laws, contains-list}
use Rattle.life_core.proofs.PatternOrder.{has_cell-in_order, from_list-in_order}
use Rattle.life_core.proofs.Placements.{minus, plus, contains-placed}
use Rattle.life_rle.specs.Writer.{coordinates, IsQuarterCell}
use Rattle.life_pictures.specs.declared.corners.Corners.{Corners}
use Rattle.life_pictures.specs.Corners.{AreTogether, HasCorners}
use Rattle.life_pictures.specs.Numbers.{with_number}
use Rattle.life_pictures.specs.PictureRuns.{runs_of, run_path, path}
use Rattle.life_pictures.specs.Frames.{trail_cells, trail, in_box, frame, animated_path}
use Rattle.life_pictures.specs.PictureFramesState.{IsCornerOf, IsFrame, generations_after, all_cells, path_of_frames}
use Rattle.life_pictures.specs.PictureLaws.{FramesAreInTheBox}
use Rattle.life_pictures.proofs.PictureLinesLemmas.{flat_map_range}
use Rattle.life_pictures.proofs.PartLemmas.{three_parts}

-- ---- corners

pub corner_first : (X : Cells) → IsCornerOf (corner X) X
corner_first X c has =
    ((least-IsLeast (λ c. c.column) X c has).below c has, (least-IsLeast (λ c. c.row) X c has).below c has)

-- ---- sets in a box

-- a cell of a set in a box comes from a cell of the set
unplaced : (at : Cell) (X : Cells) (c : Cell) → Has (in_box at X) c → Has X (plus c (minus (minus at)))
unplaced at X c has = sym (contains-placed O0 (minus at) X c) ∙ has

from_zero : (a b : ℤ) → a ≤ℤ (b +ℤ neg_ℤ (neg_ℤ a)) → pos 0 ≤ℤ b
from_zero a b h = omega (arith, ints)

up_to : (a b : ℤ) → neg_ℤ (pos 4096) ≤ℤ a → (b +ℤ neg_ℤ (neg_ℤ a)) ≤ℤ pos 4096 → b ≤ℤ pos PLANE
up_to a b low h = omega (arith, ints)

pub quarter_in_box : (at : Cell) (X : Cells) → IsCellWithin 4096 at → IsWithin 4096 X → IsCornerOf at X
    → (c : Cell) → Has (in_box at X) c → IsQuarterCell c
quarter_in_box at X here within first c has =
    let d = plus c (minus (minus at)) in
    let there = unplaced at X c has in
    let low = first d there in
    let high = within d there in
    record {
      row_low = from_zero at.row c.row low.1;
      row_high = up_to at.row c.row here.top high.bottom;
      column_low = from_zero at.column c.column low.0;
      column_high = up_to at.column c.column here.left high.right;
    }

above_low : (a : ℤ) → pos 0 ≤ℤ a → neg_ℤ (pos PLANE) ≤ℤ a
above_low a h = omega (arith, ints)

pub within_in_box : (at : Cell) (X : Cells) → IsCellWithin 4096 at → IsWithin 4096 X → IsCornerOf at X
    → IsWithin PLANE (in_box at X)
within_in_box at X here within first c has =
    let q = quarter_in_box at X here within first c has in
    record {
      top = above_low c.row q.row_low;
      bottom = q.row_high;
      left = above_low c.column q.column_low;
      right = q.column_high;
    }

pub quarters_in_box : (at : Cell) (X Y : Cells) (cs : List Cell) → IsCellWithin 4096 at → IsWithin 4096 X
    → IsCornerOf at X → Y ≡ in_box at X → cs ≡ in_order Y → All IsQuarterCell cs
quarters_in_box at X Y cs here within first is cells =
    All-same IsQuarterCell cs (in_order (in_box at X)) (cells ∙ ap (λ Z. in_order Z) is)
    (All-from_any same_cell_laws IsQuarterCell (in_order (in_box at X))
    (λ c m. quarter_in_box at X here within first c (sym (has_cell-in_order (in_box at X) c) ∙ m)))

-- ---- generations in a trail

-- the generation after one
pub next_one : (rule : RuleSets) (X Y Z : Cells) (i : ℕ) → Y ≡ generation_of rule X i → Z ≡ next rule Y
    → Z ≡ generation_of rule X (i + 1)
next_one rule X Y Z i now is =
    let more : suc i ≡ i + 1 = omega arith in
    is ∙ ap (λ (W : Cells). next rule W) now ∙ ap (generation_of rule X) more

one_longer : (rule : RuleSets) (X : Cells) (i : ℕ)
    → generations_after rule X (i + 1) ≡ generations_after rule X i ++ generation_of rule X (i + 1) ∷ []
one_longer rule X i = map-range_with_len_more (λ k. generation_of rule X (k + 1)) 0 i i (omega arith)

-- one generation more
pub one_more_after : (rule : RuleSets) (X Y Z : Cells) (i : ℕ) (Ys Zs : List Cells) → Ys ≡ generations_after rule X i
    → Y ≡ generation_of rule X (i + 1) → Z ≡ Y → Zs ≡ Ys ++ Z ∷ []
    → Zs ≡ generations_after rule X (i + 1)
one_more_after rule X Y Z i Ys Zs before now same is =
    is ∙ ap (λ (l : List Cells). l ++ Z ∷ []) before
    ∙ ap (λ (W : Cells). generations_after rule X i ++ W ∷ []) (same ∙ now) ∙ sym (one_longer rule X i)

-- a generation lies near
pub roomy : (rule : RuleSets) (X Y : Cells) (i : ℕ) → Y ≡ generation_of rule X i → i ≤ 1024
    → IsWithin 3072 X → IsWithin 4096 Y
roomy rule X Y i is few within =
    let room : 3072 + i ≤ 4096 = omega (arith, few) in
    subst (IsWithin 4096) (sym is) (within_more _ _ _ room (generation_within rule 3072 X i within))

pub in_plane : (X : Cells) → IsWithin 4096 X → IsWithin (PLANE - 1) X
in_plane X within = within_more 4096 (PLANE - 1) X (omega arith) within

-- ---- all cells of some sets

with_one : (Xs : List Cells) (Y : Cells) → AreTogether (all_cells Xs) Y (all_cells (Xs ++ Y ∷ []))
with_one Xs Y c =
    contains-list (flat_map in_order (Xs ++ Y ∷ [])) c
    ∙ ap (λ cs. has_cell cs c) (flat_map-append in_order Xs (Y ∷ [])
    ∙ ap (λ cs. flat_map in_order Xs ++ cs) (append-nil (in_order Y)))
    ∙ list_any-append (same_cell c) (flat_map in_order Xs) (in_order Y)
    ∙ ap (λ b. b || has_cell (in_order Y) c) (sym (contains-list (flat_map in_order Xs) c))
    ∙ ap (λ b. set.contains (all_cells Xs) c || b) (has_cell-in_order Y c)

-- one set more
pub with_next : (X Y : Cells) (Ys : List Cells) (i : ℕ) → i < length Ys → Y ≡ get_or Ys i Y
    → AreTogether (all_cells (X ∷ take i Ys)) Y (all_cells (X ∷ take (i + 1) Ys))
with_next X Y Ys i low is =
    let more : take i Ys ++ Y ∷ [] ≡ take (i + 1) Ys = ap (λ (W : Cells). take i Ys ++ W ∷ []) is
    ∙ sym (take_more Ys i Y low) in
    subst (λ (l : List Cells). AreTogether (all_cells (X ∷ take i Ys)) Y (all_cells (X ∷ l))) more
    (with_one (X ∷ take i Ys) Y)

-- the corners of one set
pub begun : (X : Cells) (e : Option Corners) → HasCorners X e → HasCorners (all_cells (X ∷ [])) e
begun X e has =
    let same : all_cells (X ∷ []) ≡ X = ap (λ cs. set.from_list cs) (append-nil (in_order X)) ∙ from_list-in_order X in
    subst (λ (Y : Cells). HasCorners Y e) (sym same) has

cells_same : (rule : RuleSets) (X : Cells) (n : ℕ)
    → flat_map in_order (X ∷ generations_after rule X n) ≡ trail_cells rule X (n + 1)
cells_same rule X zero = refl
cells_same rule X (suc n) =
    let more : suc n ≡ n + 1 = omega arith in
    ap (λ m. flat_map in_order (X ∷ generations_after rule X m)) more
    ∙ ap (λ (l : List Cells). flat_map in_order (X ∷ l)) (one_longer rule X n)
    ∙ flat_map-append in_order (X ∷ generations_after rule X n) (generation_of rule X (n + 1) ∷ [])
    ∙ ap (λ cs. flat_map in_order (X ∷ generations_after rule X n) ++ cs)
    (append-nil (in_order (generation_of rule X (n + 1))))
    ∙ ap (λ cs. cs ++ in_order (generation_of rule X (n + 1))) (cells_same rule X n)
    ∙ sym (flat_map_range (λ k. in_order (generation_of rule X k)) (n + 1))
    ∙ ap (λ m. trail_cells rule X (m + 1)) (sym more)

-- all cells of a pattern and of the generations after it
pub all_are_trail : (rule : RuleSets) (X : Cells) (n : ℕ) (Ys : List Cells) → Ys ≡ generations_after rule X n
    → all_cells (X ∷ Ys) ≡ trail rule X (n + 1)
unfolding trail
all_are_trail rule X n Ys is =
    ap (λ (l : List Cells). all_cells (X ∷ l)) is ∙ ap (λ cs. set.from_list cs) (cells_same rule X n)

-- as many as are asked for
pub as_many : (rule : RuleSets) (X : Cells) (n : ℕ) (Ys : List Cells) → Ys ≡ generations_after rule X n → length Ys ≡ n
as_many rule X n Ys is = ap length is ∙ length-map-range_with_len (λ k. generation_of rule X (k + 1)) 0 n

-- generations lie near
pub near_after : (rule : RuleSets) (X : Cells) (n : ℕ) (Ys : List Cells) → Ys ≡ generations_after rule X n
    → n ≤ 1000 → IsWithin 3072 X → All (IsWithin 4096) Ys
near_after rule X n Ys is few within = subst (All (IsWithin 4096)) (sym is) each
  where
    each : All (IsWithin 4096) (generations_after rule X n)
    each i d low =
        let long : length (generations_after rule X n) ≡ n =
        length-map-range_with_len (λ k. generation_of rule X (k + 1)) 0 n in
        let less : i < n = omega (arith, low, long) in
        roomy rule X _ (i + 1) (get_or-map-range_with_len (λ k. generation_of rule X (k + 1)) 0 n i i d less
        (omega arith)) (omega (arith, less, few)) within

-- and are frames in the box
pub frames_after : (rule : RuleSets) (X : Cells) (n : ℕ) (at : Cell) (Ys : List Cells) → Ys ≡ generations_after rule X n
    → n ≤ 1000 → IsWithin 3072 X
    → ((k : ℕ) → k ≤ n → IsCornerOf at (generation_of rule X k)) → All (IsFrame at) Ys
frames_after rule X n at Ys is few within corner = subst (All (IsFrame at)) (sym is) each
  where
    each : All (IsFrame at) (generations_after rule X n)
    each i d low =
        let long : length (generations_after rule X n) ≡ n =
        length-map-range_with_len (λ k. generation_of rule X (k + 1)) 0 n in
        let less : i < n = omega (arith, low, long) in
        let one = get_or-map-range_with_len (λ k. generation_of rule X (k + 1)) 0 n i i d less (omega arith) in (
          roomy rule X _ (i + 1) one (omega (arith, less, few)) within,
          subst (IsCornerOf at) (sym one) (corner (i + 1) (omega (arith, less))),
        )

-- ---- the frame of a set

-- the other way by a scalar
back : (v : ℤ) → neg_ℤ (pos 4096) ≤ℤ v → v ≤ℤ pos 4096 → to_z w64 (of_z w64 (pos 0 -ℤ to_z w64 (of_z w64 v))) ≡ neg_ℤ v
back v low high =
    let here : to_z w64 (of_z w64 v) ≡ v =
    to_z-of_z w64 v (near_fits v (omega (arith, ints, low)) (omega (arith, ints, high))) in
    let there : to_z w64 (of_z w64 (pos 0 -ℤ v)) ≡ pos 0 -ℤ v =
    to_z-of_z w64 (pos 0 -ℤ v) (near_fits (pos 0 -ℤ v) (omega (arith, ints, high)) (omega (arith, ints, low))) in
    let opposite : pos 0 -ℤ v ≡ neg_ℤ v = omega (arith, ints) in
    ap (λ (x : ℤ). to_z w64 (of_z w64 (pos 0 -ℤ x))) here ∙ there ∙ opposite

pub moved_into_box : (at : Cell) (X : Cells) → IsCellWithin 4096 at
    → image (moved_cell (to_z w64 (of_z w64 (pos 0 -ℤ to_z w64 (of_z w64 at.column))))
    (to_z w64 (of_z w64 (pos 0 -ℤ to_z w64 (of_z w64 at.row))))) X ≡ in_box at X
moved_into_box at X here =
    ap (λ (dx : ℤ). image (moved_cell dx (to_z w64 (of_z w64 (pos 0 -ℤ to_z w64 (of_z w64 at.row))))) X)
    (back at.column here.left here.right)
    ∙ ap (λ (dy : ℤ). image (moved_cell (neg_ℤ at.column) dy) X) (back at.row here.top here.bottom)

pub framed : (at : Cell) (X Y : Cells) (cs : List Cell) (o₀ o₁ o₂ : List ℕ) → o₁ ≡ o₀ ++ codes "M0 0"
    → o₂ ≡ o₁ ++ flat_map run_path (runs_of (map coordinates cs)) → Y ≡ in_box at X → cs ≡ in_order Y
    → o₂ ≡ o₀ ++ frame at X
unfolding frame path
framed at X Y cs o₀ o₁ o₂ first second is cells =
    second
    ∙ ap (λ o. o ++ flat_map run_path (runs_of (map coordinates cs))) first
    ∙ append_assoc o₀ (codes "M0 0") (flat_map run_path (runs_of (map coordinates cs)))
    ∙ ap (λ (l : List Cell). o₀ ++ (codes "M0 0" ++ flat_map run_path (runs_of (map coordinates l))))
    (cells ∙ ap (λ (Z : Cells). in_order Z) is)

-- ---- the frames of some sets

-- the frames of sets, with a semicolon before each
abbrev frames_of : Cell → List Cells → List ℕ
frames_of at Ys = flat_map (λ Y. codes ";" ++ frame at Y) Ys

-- one frame more
pub one_more_frame : (at : Cell) (Y : Cells) (Ys : List Cells) (i : ℕ) (o₀ o₁ o₂ o₃ : List ℕ)
    → i < length Ys → Y ≡ get_or Ys i Y → o₁ ≡ o₀ ++ frames_of at (take i Ys) → o₂ ≡ o₁ ++ codes ";"
    → o₃ ≡ o₂ ++ frame at Y → o₃ ≡ o₀ ++ frames_of at (take (i + 1) Ys)
one_more_frame at Y Ys i o₀ o₁ o₂ o₃ low is first second third =
    let more : take i Ys ++ Y ∷ [] ≡ take (i + 1) Ys = ap (λ (W : Cells). take i Ys ++ W ∷ []) is
    ∙ sym (take_more Ys i Y low) in
    three_parts o₀ o₁ o₂ o₃ (frames_of at (take i Ys)) (codes ";") (frame at Y) first second third
    ∙ ap (λ text. o₀ ++ text) (
    append_assoc (frames_of at (take i Ys)) (codes ";") (frame at Y)
    ∙ ap (λ text. frames_of at (take i Ys) ++ text) (sym (append-nil (codes ";" ++ frame at Y)))
    ∙ sym (flat_map-append (λ Y. codes ";" ++ frame at Y) (take i Ys) (Y ∷ []))
    ∙ ap (frames_of at) more)

-- a path with these frames, of which there are this many after the first
abbrev path_with : Cell → Cells → ℕ → List ℕ → List ℕ
path_with at X count frames =
    codes "<path d=\"" ++ frame at X
    ++ with_number (codes "\"><animate attributeName=\"d\" calcMode=\"discrete\" dur=\"") (125 * (count + 1))
    ++ codes "ms\" repeatCount=\"indefinite\" values=\"" ++ frame at X ++ frames ++ codes "\"/></path>\n"

-- the path of a pattern and of the generations after it
pub path_is_animated : (rule : RuleSets) (X : Cells) (at : Cell) (n : ℕ) (Ys : List Cells)
    → Ys ≡ generations_after rule X n → path_of_frames at X Ys ≡ animated_path rule X at n
unfolding animated_path
path_is_animated rule X at n Ys is =
    ap (path_of_frames at X) is
    ∙ ap (λ count. path_with at X count (frames_of at (generations_after rule X n)))
    (length-map-range_with_len (λ k. generation_of rule X (k + 1)) 0 n)
    ∙ ap (path_with at X n) (flat_map-map (λ (Y : Cells). codes ";" ++ frame at Y) (λ k. generation_of rule X (k + 1))
    (range_with_len 0 n))

in_range : (f : ℕ → List Cell) (k : ℕ) (c : Cell) → has_cell (f k) c ≡ true → (count : ℕ) → k < count
    → has_cell (flat_map f (range_with_len 0 count)) c ≡ true
in_range f k c has zero less = absurd (omega (arith, less))
in_range f k c has (suc m) less =
    let more : suc m ≡ m + 1 = omega arith in
    let split : has_cell (flat_map f (range_with_len 0 (suc m))) c
    ≡ (has_cell (flat_map f (range_with_len 0 m)) c || has_cell (f m) c) =
    ap (λ j. has_cell (flat_map f (range_with_len 0 j)) c) more ∙ ap (λ cs. has_cell cs c) (flat_map_range f m)
    ∙ list_any-append (same_cell c) (flat_map f (range_with_len 0 m)) (f m) in
    let below : k ≤ m = omega (arith, less) in
    split ∙ elim (eq-or-lt_of_le below)
    as (λ (which : (k ≡ m) ⊎ (k < m)). (has_cell (flat_map f (range_with_len 0 m)) c || has_cell (f m) c) ≡ true) [
      | inl last ↦
          or_right (has_cell (flat_map f (range_with_len 0 m)) c) (has_cell (f m) c)
          (subst (λ j. has_cell (f j) c ≡ true) last has)
      | inr before ↦
          or_left (has_cell (flat_map f (range_with_len 0 m)) c) (has_cell (f m) c) (in_range f k c has m before)
    ]

-- what is live in one of the generations is in their trail
pub trail_has : (rule : RuleSets) (X : Cells) (count k : ℕ) (c : Cell) → k < count → Has (generation_of rule X k) c
    → Has (trail rule X count) c
unfolding trail
trail_has rule X count k c less has =
    contains-list (trail_cells rule X count) c
    ∙ in_range (λ i. in_order (generation_of rule X i)) k c
    (has_cell-in_order (generation_of rule X k) c ∙ has) count less

-- so the corner of the trail is one of each generation
pub corner_of_each : (rule : RuleSets) (X Y : Cells) (more : ℕ) (at : Cell) → Y ≡ trail rule X (more + 1)
    → IsCornerOf at Y → (k : ℕ) → k ≤ more → IsCornerOf at (generation_of rule X k)
corner_of_each rule X Y more at is first k le c has =
    first c (ap (λ (Z : Cells). set.contains Z c) is ∙ trail_has rule X (more + 1) k c (omega (arith, le)) has)

pub frames_are_in_the_box : FramesAreInTheBox
frames_are_in_the_box rule X more k c le has =
    let at = corner (trail rule X (more + 1)) in
    contains-placed O0 (minus at) (trail rule X (more + 1)) c
    ∙ trail_has rule X (more + 1) k (plus c (minus (minus at))) (omega (arith, le))
    (unplaced at (generation_of rule X k) c has)
