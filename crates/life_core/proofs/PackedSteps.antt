-- One generation of rows of packed words.
use Rattle.std.specs.Prelude.{◌≡◌, ℕ, ℤ, pos, negsuc, ◌+◌, ◌*◌, ◌<◌, ◌≤◌, ◌+ℤ◌, ◌-ℤ◌, ◌≤ℤ◌, Bool, true, false, cond}
use Rattle.std.specs.Prelude.{nat_eq, nat_lt, List, [], ◌∷◌, length, count_by, refl}
use Rattle.std.proofs.Common.{sym, ap, ◌∙◌, inl, inr, arith}
use Rattle.std.proofs.lemmas.Int.{ints}
use Rattle.std.proofs.lemmas.Nat.{mul-le}
use Rattle.std.specs.List.{flat_map, All}
use Rattle.std.proofs.lemmas.List.Elements.{All-contains, All-from_recursion}
use Rattle.std.proofs.lemmas.List.Sums.{sum_by-cons}
use Rattle.std.proofs.lemmas.Map.Views.{Contains-from_any}
use Rattle.std.proofs.lemmas.Bool.{false≢true, cases_lt, and_parts, and_from, lt-ltb, ltb-true}
use Rattle.std.specs.FinSet as set
use Rattle.life_core.specs.declared.cell.Cell.{Cell}
use Rattle.life_core.specs.Cell.{moved_cell, around}
use Rattle.life_core.specs.Pattern.{Cells}
use Rattle.life_core.specs.Rule.{RuleSets}
use Rattle.life_core.specs.Generations.{lives_next, reach, next}
use Rattle.life_core.specs.PackedRow.{one_if, place}
use Rattle.life_core.specs.PackedFrameState.{cell_in, cells_of, bit_in, IsIn, IsInner, HasRoom}
use Rattle.life_core.proofs.PatternMembers.{has_cell, same_answer, same_cell, same_cell-true, contains-list}
use Rattle.life_core.proofs.PatternMembers.{list_any-flat_map, passing_cell, contains-items, contains-keep}
use Rattle.life_core.proofs.PatternMembers.{cells_by_members}
use Rattle.life_core.proofs.PackedPlaces.{contains-rows}

counted_cons : (p : Cell → Bool) (x : Cell) (xs : List Cell) → count_by p (x ∷ xs) ≡ one_if (p x) + count_by p xs
counted_cons p x xs = sum_by-cons (λ y. cond (p y) 1 0) x xs

pub counted_eight : (p : Cell → Bool) (a b c d e f g h : Cell)
    → count_by p (a ∷ b ∷ c ∷ d ∷ e ∷ f ∷ g ∷ h ∷ []) ≡ one_if (p a)
    + (one_if (p b) + (one_if (p c) + (one_if (p d) + (one_if (p e) + (one_if (p f) + (one_if (p g) + one_if (p h)))))))
counted_eight p a b c d e f g h = omega (
  arith,
  counted_cons p a (b ∷ c ∷ d ∷ e ∷ f ∷ g ∷ h ∷ []),
  counted_cons p b (c ∷ d ∷ e ∷ f ∷ g ∷ h ∷ []),
  counted_cons p c (d ∷ e ∷ f ∷ g ∷ h ∷ []),
  counted_cons p d (e ∷ f ∷ g ∷ h ∷ []),
  counted_cons p e (f ∷ g ∷ h ∷ []),
  counted_cons p f (g ∷ h ∷ []),
  counted_cons p g (h ∷ []),
  counted_cons p h [],
)

pub one_if-true : (b : Bool) → nat_eq (one_if b) 1 ≡ b
one_if-true true = refl
one_if-true false = refl

next_to : (left top : ℤ) (width height : ℕ) (d : Cell) (dx dy : ℤ) → negsuc 0 ≤ℤ dx → dx ≤ℤ pos 1
    → negsuc 0 ≤ℤ dy → dy ≤ℤ pos 1 → IsInner left top width height d → IsIn left top width height (moved_cell dx dy d)
next_to left top width height d dx dy a b e f h = record {
  from_left = omega (arith, ints, h.from_left);
  to_right = omega (arith, ints, h.to_right);
  from_top = omega (arith, ints, h.from_top);
  to_bottom = omega (arith, ints, h.to_bottom);
}

next_in_box : (left top : ℤ) (width height : ℕ) (d : Cell) → IsInner left top width height d
    → All (IsIn left top width height) (d ∷ around d)
next_in_box left top width height d h = All-from_recursion (IsIn left top width height) (d ∷ around d) (
  record {
    from_left = omega (arith, ints, h.from_left);
    to_right = omega (arith, ints, h.to_right);
    from_top = omega (arith, ints, h.from_top);
    to_bottom = omega (arith, ints, h.to_bottom);
  },
  (
    near (negsuc 0) (negsuc 0) (omega (arith, ints)) (omega (arith, ints)) (omega (arith, ints)) (omega (arith, ints)),
    (
      near (pos 0) (negsuc 0) (omega (arith, ints)) (omega (arith, ints)) (omega (arith, ints)) (omega (arith, ints)),
      (
        near (pos 1) (negsuc 0) (omega (arith, ints)) (omega (arith, ints)) (omega (arith, ints)) (omega (arith, ints)),
        (
          near (negsuc 0) (pos 0) (omega (arith, ints)) (omega (arith, ints)) (omega (arith, ints))
              (omega (arith, ints)),
          (
            near (pos 1) (pos 0) (omega (arith, ints)) (omega (arith, ints)) (omega (arith, ints))
                (omega (arith, ints)),
            (
              near (negsuc 0) (pos 1) (omega (arith, ints)) (omega (arith, ints)) (omega (arith, ints))
                  (omega (arith, ints)),
              (
                near (pos 0) (pos 1) (omega (arith, ints)) (omega (arith, ints)) (omega (arith, ints))
                    (omega (arith, ints)),
                (
                  near (pos 1) (pos 1) (omega (arith, ints)) (omega (arith, ints)) (omega (arith, ints))
                      (omega (arith, ints)),
                  tt,
                ),
              ),
            ),
          ),
        ),
      ),
    ),
  ),
)
  where
    near : (dx dy : ℤ) → negsuc 0 ≤ℤ dx → dx ≤ℤ pos 1 → negsuc 0 ≤ℤ dy → dy ≤ℤ pos 1
        → IsIn left top width height (moved_cell dx dy d)
    near dx dy a b e f = next_to left top width height d dx dy a b e f h

-- the next set lies in the box
pub next_in : (r : RuleSets) (left top : ℤ) (width height : ℕ) (X : Cells) → HasRoom left top width height X
    → (c : Cell) → set.contains (next r X) c ≡ true → IsIn left top width height c
unfolding next
next_in r left top width height X room c h =
    let in_reach = (and_parts _ _ (sym (contains-keep (reach X) (lives_next r X) c) ∙ h)).0 in
    let d = passing_cell (λ x. has_cell (x ∷ around x) c)
    (set.items X) (sym (list_any-flat_map (same_cell c) (λ x. x ∷ around x) (set.items X))
    ∙ sym (contains-list (flat_map (λ x. x ∷ around x) (set.items X)) c) ∙ in_reach) in
    All-contains (IsIn left top width height) (d.cell ∷ around d.cell) c
    (next_in_box left top width height d.cell (room.inner d.cell (contains-items X d.cell ∙ d.member)))
    (Contains-from_any same_cell-true c (d.cell ∷ around d.cell) d.passes)

-- words whose places in a box are the members of a set that lies in the box
pub rows_are : (left top : ℤ) (width height : ℕ) (out : List ℕ) (Y : Cells) → 0 < width
    → 64 * length out ≡ height * width
    → ((c : Cell) → set.contains Y c ≡ true → IsIn left top width height c)
    → ((x y : ℕ) → x < width → y < height → place out (y * width + x) ≡ one_if (set.contains Y (cell_in left top x y)))
    → cells_of left top width out ≡ Y
rows_are left top width height out Y wide size inside places = cells_by_members _ _ (λ c.
    contains-rows left top width out c wide
    ∙ at c (c.column -ℤ left) (c.row -ℤ top) (omega (arith, ints)) (omega (arith, ints)))
  where
    row_of : (x y : ℕ) → x < width → y * width + x < height * width → y < height
    row_of x y narrow below = elim (cases_lt y height) [
      | inl low ↦ low
      | inr past ↦ absurd (omega (arith, mul-le height width y width past (omega arith)))
    ]

    at : (c : Cell) (dx dy : ℤ) → c.column ≡ left +ℤ dx → c.row ≡ top +ℤ dy → bit_in width out dx dy ≡ set.contains Y c
    at c (negsuc x) dy column row =
        same_answer _ _ (λ h. absurd (false≢true h))
        (λ h. let i = inside c h in absurd (omega (arith, ints, i.from_left)))
    at c (pos x) (negsuc y) column row =
        same_answer _ _ (λ h. absurd (false≢true h))
        (λ h. let i = inside c h in absurd (omega (arith, ints, i.from_top)))
    at c (pos x) (pos y) column row =
        let is : cell_in left top x y ≡ c = (λ i. record { row = sym row i; column = sym column i }) in
        same_answer _ _
        (λ h.
        let parts = and_parts (nat_lt x width) _ h in
        let inner = and_parts (nat_lt (y * width + x) (64 * length out)) _ parts.1 in
        let narrow : x < width = ltb-true x width parts.0 in
        let below : y * width + x < 64 * length out = ltb-true _ _ inner.0 in
        ap (set.contains Y) (sym is) ∙ sym (one_if-true _)
        ∙ ap (λ n. nat_eq n 1) (sym (places x y narrow (row_of x y narrow (omega arith)))) ∙ inner.1)
        (λ h.
        let i = inside c h in
        let narrow : x < width = omega (arith, ints, i.to_right) in
        let low : y < height = omega (arith, ints, i.to_bottom) in
        let next_low : y + 1 ≤ height = omega arith in
        let below : y * width + x < 64 * length out =
        omega (arith, mul-le (y + 1) width height width next_low (omega arith)) in
        and_from _ _ (lt-ltb x width narrow) (and_from _ _ (lt-ltb (y * width + x) (64 * length out) below)
        (ap (λ n. nat_eq n 1) (places x y narrow low) ∙ one_if-true _ ∙ ap (set.contains Y) is ∙ h)))
