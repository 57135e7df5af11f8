-- Normal sets: their coordinates begin at 0, they are their own normal, and the cells that a body places fit their box.
use Rattle.std.proofs.Common.{◌≡◌, ℕ, ◌<◌, ℤ, pos, neg_ℤ, ◌≤ℤ◌, true, List, [], ◌∷◌, refl, ap, ◌∙◌, sym, subst, arith}
use Rattle.std.proofs.lemmas.Int.{ints}
use Rattle.std.specs.List.{All}
use Rattle.std.proofs.lemmas.List.Elements.{All-contains, All-weaker}
use Rattle.std.proofs.lemmas.Map.Views.{Contains-from_any}
use Rattle.std.proofs.lemmas.Bool.{or_left}
use Rattle.std.specs.FinSet as set
use Rattle.life_core.specs.declared.cell.Cell.{Cell}
use Rattle.life_core.specs.Cell.{cell_cmp, moved_cell, IsCellWithin}
use Rattle.life_core.specs.Pattern.{Cells, image, in_order, IsWithin, IsLeast, least, normal}
use Rattle.life_core.proofs.GenerationsLaws.{move_back}
use Rattle.life_core.proofs.PatternMembers.{same_cell, has_cell, same_cell-true, same_cell-self, contains-list}
use Rattle.life_core.proofs.PatternMembers.{contains-image, cells_by_members, within_from_list}
use Rattle.life_core.proofs.PatternOrder.{has_cell-in_order, from_list-in_order}
use Rattle.life_core.proofs.PatternBoxes.{least_by, IsLeast-list, least_is, normal-empty}
use Rattle.life_rle.specs.Body.{IsPlaced}
use Rattle.life_rle.specs.Record.{IsInside}

abbrev column_of : Cell → ℤ
column_of c = c.column

abbrev row_of : Cell → ℤ
row_of c = c.row

-- both coordinates are 0 or more
pub record IsFromZero (c : Cell) : Type 0 where
  pub row : pos 0 ≤ℤ c.row
  pub column : pos 0 ≤ℤ c.column

-- a cell is in a moved set where the cell before the move is in the set
contains-moved : (dx dy : ℤ) (X : Cells) (c : Cell)
    → set.contains (image (moved_cell dx dy) X) c ≡ set.contains X (moved_cell (neg_ℤ dx) (neg_ℤ dy) c)
contains-moved dx dy X c =
    contains-image (moved_cell dx dy) (moved_cell (neg_ℤ dx) (neg_ℤ dy))
    (move_back _ _ _ _ (omega (arith, ints)) (omega (arith, ints)))
    (move_back _ _ _ _ (omega (arith, ints)) (omega (arith, ints))) X c

-- a set with a cell has a least
has_least : (f : Cell → ℤ) (X : Cells) (c : Cell) → set.contains X c ≡ true → IsLeast f X (least f X)
has_least f X c h =
    let from_list = IsLeast-list f c (in_order X) (has_cell-in_order X c ∙ h) in
    let is = subst (λ (Y : Cells). IsLeast f Y (least_by f (f c) (in_order X))) (from_list-in_order X) from_list in
    subst (IsLeast f X) (sym (least_is f X _ is)) is

abbrev left_of : Cells → ℤ
left_of X = least column_of X

abbrev top_of : Cells → ℤ
top_of X = least row_of X

-- where a cell of the normal stood in the set
abbrev before : Cells → Cell → Cell
before X c = moved_cell (neg_ℤ (neg_ℤ (left_of X))) (neg_ℤ (neg_ℤ (top_of X))) c

-- the coordinates of a normal set are 0 or more
pub normal_from_zero : (X : Cells) (c : Cell) → set.contains (normal X) c ≡ true → IsFromZero c
normal_from_zero X c h =
    let in_set : set.contains X (before X c) ≡ true =
    sym (contains-moved (neg_ℤ (left_of X)) (neg_ℤ (top_of X)) X c) ∙ h in
    let left : left_of X ≤ℤ (before X c).column =
    (has_least column_of X (before X c) in_set).below (before X c) in_set in
    let top : top_of X ≤ℤ (before X c).row = (has_least row_of X (before X c) in_set).below (before X c) in_set in
    record { row = omega (arith, ints); column = omega (arith, ints) }

unmoved : (X : Cells) (left top : ℤ) → left ≡ pos 0 → top ≡ pos 0 → image (moved_cell (neg_ℤ left) (neg_ℤ top)) X ≡ X
unmoved X left top at_left at_top = cells_by_members _ _ (λ c.
    contains-moved (neg_ℤ left) (neg_ℤ top) X c
    ∙ ap (λ (d : Cell). set.contains X d)
    (let rows : (moved_cell (neg_ℤ (neg_ℤ left)) (neg_ℤ (neg_ℤ top)) c).row ≡ c.row = omega (arith, ints) in
    let columns : (moved_cell (neg_ℤ (neg_ℤ left)) (neg_ℤ (neg_ℤ top)) c).column ≡ c.column = omega (arith, ints) in
    λ i. record { row = rows i; column = columns i }))

-- a cell of the set is in the normal at its new place
in_normal : (X : Cells) (c : Cell) → set.contains X c ≡ true
    → set.contains (normal X) (moved_cell (neg_ℤ (left_of X)) (neg_ℤ (top_of X)) c) ≡ true
in_normal X c h =
    contains-moved (neg_ℤ (left_of X)) (neg_ℤ (top_of X)) X _
    ∙ ap (λ (d : Cell). set.contains X d) (move_back _ _ _ _ (omega (arith, ints)) (omega (arith, ints)) c) ∙ h

-- the least column and row of the normal are 0
normal_left : (X : Cells) (c : Cell) → set.contains X c ≡ true → left_of (normal X) ≡ pos 0
normal_left X c h =
    let there = (has_least column_of X c h).reached in
    let at : there.0.column ≡ left_of X = there.2 in
    least_is column_of (normal X) (pos 0) (record {
      below = λ d m. (normal_from_zero X d m).column;
      reached =
          (moved_cell (neg_ℤ (left_of X)) (neg_ℤ (top_of X)) there.0, in_normal X there.0 there.1, omega (arith, ints));
    })

normal_top : (X : Cells) (c : Cell) → set.contains X c ≡ true → top_of (normal X) ≡ pos 0
normal_top X c h =
    let there = (has_least row_of X c h).reached in
    let at : there.0.row ≡ top_of X = there.2 in
    least_is row_of (normal X) (pos 0) (record {
      below = λ d m. (normal_from_zero X d m).row;
      reached =
          (moved_cell (neg_ℤ (left_of X)) (neg_ℤ (top_of X)) there.0, in_normal X there.0 there.1, omega (arith, ints));
    })

normal_by_cells : (X : Cells) (cs : List Cell) → in_order X ≡ cs → normal (normal X) ≡ normal X
normal_by_cells X [] e =
    let empty : X ≡ set.empty = sym (from_list-in_order X) ∙ ap (λ cs. set.from_list cs) e in
    ap normal (ap normal empty ∙ normal-empty ∙ sym empty)
normal_by_cells X (c ∷ cs) e =
    let here : set.contains X c ≡ true = sym (has_cell-in_order X c) ∙ ap (λ ds. has_cell ds c) e
    ∙ or_left (same_cell c c) (has_cell cs c) (same_cell-self c) in
    unmoved (normal X) _ _ (normal_left X c here) (normal_top X c here)

-- a normal set is its own normal
pub normal-normal : (X : Cells) → normal (normal X) ≡ normal X
normal-normal X = normal_by_cells X (in_order X) refl

-- ---- the cells that a body places

placed_within : (k : ℕ) → 1023 < k → (c : Cell) → IsPlaced c → IsCellWithin k c
placed_within k more c h =
    record {
      top = omega (arith, ints, h.row_low);
      bottom = omega (arith, ints, h.row_high);
      left = omega (arith, ints, h.column_low);
      right = omega (arith, ints, h.column_high);
    }

-- they lie in the plane
pub cells_within : (k : ℕ) → 1023 < k → (cs : List Cell) → All IsPlaced cs → All (IsCellWithin k) cs
cells_within k more cs all = All-weaker IsPlaced (IsCellWithin k) (placed_within k more) cs all

-- and so does their set
pub set_within : (k : ℕ) → 1023 < k → (cs : List Cell) → All IsPlaced cs → IsWithin k (set.from_list cs)
set_within k more cs all = within_from_list k cs (cells_within k more cs all)

member_placed : (cs : List Cell) → All IsPlaced cs → (c : Cell)
    → set.contains (set.from_list {R = cell_cmp} cs) c ≡ true → IsPlaced c
member_placed cs all c h =
    All-contains IsPlaced cs c all (Contains-from_any same_cell-true c cs (sym (contains-list cs c) ∙ h))

-- the normal of their set fits in a box of 1024 by 1024
pub normal_inside : (cs : List Cell) → All IsPlaced cs → IsInside 1024 (normal (set.from_list cs))
normal_inside cs all c h =
    let X : Cells = set.from_list cs in
    let in_set : set.contains X (before X c) ≡ true =
    sym (contains-moved (neg_ℤ (left_of X)) (neg_ℤ (top_of X)) X c) ∙ h in
    let leftmost = (has_least column_of X (before X c) in_set).reached in
    let topmost = (has_least row_of X (before X c) in_set).reached in
    let at_left : leftmost.0.column ≡ left_of X = leftmost.2 in
    let at_top : topmost.0.row ≡ top_of X = topmost.2 in
    let here = member_placed cs all (before X c) in_set in
    let low = normal_from_zero X c h in
    record {
      top = omega (arith, ints, low.row);
      bottom = omega (arith, ints, here.row_high, (member_placed cs all topmost.0 topmost.1).row_low);
      left = omega (arith, ints, low.column);
      right = omega (arith, ints, here.column_high, (member_placed cs all leftmost.0 leftmost.1).column_low);
    }
