-- Steps of the search for the least candidate.
use Rattle.std.proofs.Common.{◌≡◌, ◌⊎◌, inl, inr, ℕ, zero, suc, ◌+◌, ◌-◌, ◌≤◌, ◌<◌, max, nat_le, nat_abs, ℤ, true}
use Rattle.std.proofs.Common.{false, cond, ◌&&◌, Option, None, List, [], ◌∷◌, ◌++◌, take, get_or, refl, sym, ap, ◌∙◌}
use Rattle.std.proofs.Common.{subst, arith, append_assoc, append-nil, add-zero, add-one}
use Rattle.std.proofs.lemmas.Bool.{or_left, false≢true}
use Rattle.std.proofs.lemmas.List.{take_more, take_all}
use Rattle.std.specs.List.{fold, flat_map, range_with_len}
use Rattle.std.specs.FinSet as set
use Rattle.life_core.specs.declared.cell.Cell.{Cell}
use Rattle.life_core.specs.declared.orientation.Orientation.{Orientation}
use Rattle.life_core.specs.declared.orientation.Orientation.TheVariants.{O0}
use Rattle.life_core.specs.Cell.{cell_cmp, IsCellWithin}
use Rattle.life_core.specs.Orientation.{turned_cell}
use Rattle.life_core.specs.Pattern.{Cells, IsBox, image, IsWithin, normal}
use Rattle.life_core.specs.Rule.{RuleSets}
use Rattle.life_core.specs.Generations.{next, generation_of}
use Rattle.life_core.proofs.PatternMembers.{same_cell, has_cell, same_cell-self, contains-items, contains-image}
use Rattle.life_core.proofs.PatternExtents.{box_extents}
use Rattle.life_core.proofs.Placements.{turn_back, turn_there}
use Rattle.life_core.proofs.GenerationsLaws.{generation_within, within_more}
use Rattle.life_core.proofs.OrientationLemmas.{opposite, turned_within}
use Rattle.life_code.specs.Wechsler.{width, height, wechsler}
use Rattle.life_code.specs.Codes.{orientations, shape, text_of, texts_of, candidates}
use Rattle.life_code.specs.CodesState.{kept_least}
use Rattle.life_code.proofs.TextLists.{keep-append}

-- ---- the box of a normal set

-- its columns are as many as it is wide
pub width_of_box : (X : Cells) (left top : ℤ) (columns rows : ℕ) → normal X ≡ X → IsBox X left top columns rows
    → columns ≡ width X
unfolding width
width_of_box X left top columns rows same box = sym (box_extents X left top columns rows same box).0

-- its rows are as many as it is high
pub height_of_box : (X : Cells) (left top : ℤ) (columns rows : ℕ) → normal X ≡ X → IsBox X left top columns rows
    → rows ≡ height X
unfolding height
height_of_box X left top columns rows same box = sym (box_extents X left top columns rows same box).1

-- the empty set has no items
no_items : (X : Cells) → X ≡ set.empty → set.items X ≡ []
no_items X e =
    by (set.items X) (λ c. sym (contains-items X c) ∙ ap (λ Y. set.contains Y c) e ∙ set.contains-empty cell_cmp c)
  where
    by : (cs : List Cell) → ((c : Cell) → has_cell cs c ≡ false) → cs ≡ []
    by [] h = refl
    by (d ∷ ds) h = absurd (false≢true (sym (h d) ∙ or_left (same_cell d d) (has_cell ds d) (same_cell-self d)))

-- the box of the empty set has no columns and no rows
pub empty_box : (X : Cells) → X ≡ set.empty → (0 ≡ width X) × (0 ≡ height X)
unfolding width height
empty_box X e = (
  ap (λ cs. fold (λ n (c : Cell). max n (nat_abs c.column + 1)) 0 cs) (sym (no_items X e)),
  ap (λ cs. fold (λ n (c : Cell). max n (nat_abs c.row + 1)) 0 cs) (sym (no_items X e)),
)

-- ---- the text of a normal set

-- where the box is small enough, its text is the one
pub text_fits : (X : Cells) (t : List ℕ) (columns rows : ℕ) → columns ≡ width X → rows ≡ height X
    → columns ≤ 40 → rows ≤ 40 → t ≡ wechsler X → t ∷ [] ≡ text_of X
unfolding text_of
text_fits X t columns rows a b narrow low e =
    ap (λ u. u ∷ []) e ∙ ap (λ f. cond f (wechsler X ∷ []) [])
    (sym (both (width X) (height X) (subst (λ n. n ≤ 40) a narrow) (subst (λ n. n ≤ 40) b low)))
  where
    both : (m n : ℕ) → m ≤ 40 → n ≤ 40 → (nat_le m 40 && nat_le n 40) ≡ true
    both m n h k = grind arith

-- where the box is too large, it has none
pub no_text : (X : Cells) (columns rows : ℕ) → columns ≡ width X → rows ≡ height X
    → (columns ≤ 40 × 40 < rows) ⊎ (40 < columns) → [] ≡ text_of X
unfolding text_of
no_text X columns rows a b large =
    ap (λ f. cond f (wechsler X ∷ []) [])
    (sym ((λ i. nat_le (sym a i) 40 && nat_le (sym b i) 40) ∙ out columns rows large))
  where
    out : (m n : ℕ) → (m ≤ 40 × 40 < n) ⊎ (40 < m) → (nat_le m 40 && nat_le n 40) ≡ false
    out m n (inl h) = grind (arith, h.1)
    out m n (inr h) = grind arith

-- ---- orientations of a set

-- an orientation takes no set further out
pub turned_set_within : (k : ℕ) (o : Orientation) (X : Cells) → IsWithin k X → IsWithin k (image (turned_cell o) X)
turned_set_within k o X within c h =
    subst (IsCellWithin k) (turn_there o c)
    (turned_within k o (turned_cell (opposite o) c) (within (turned_cell (opposite o) c)
    (sym (contains-image (turned_cell o) (turned_cell (opposite o)) (turn_there o) (turn_back o) X c) ∙ h)))

-- ---- what is kept of some texts

-- what is kept of the texts of the orientations taken so far
abbrev pub kept_of : Option (List ℕ) → Cells → List Orientation → Option (List ℕ)
kept_of best X os = kept_least best (flat_map (λ o. text_of (shape o X)) os)

-- one orientation more
kept_of-more : (best : Option (List ℕ)) (X : Cells) (os : List Orientation) (o : Orientation)
    → kept_of best X (os ++ o ∷ []) ≡ kept_least (kept_of best X os) (text_of (shape o X))
kept_of-more best X os o =
    ap (kept_least best) (flat (λ o. text_of (shape o X)) os o)
    ∙ keep-append best (flat_map (λ o. text_of (shape o X)) os) (text_of (shape o X))
  where
    flat : (f : Orientation → List (List ℕ)) (os : List Orientation) (o : Orientation)
        → flat_map f (os ++ o ∷ []) ≡ flat_map f os ++ f o
    flat f [] o = append-nil (f o)
    flat f (u ∷ os) o = ap (λ s. f u ++ s) (flat f os o) ∙ sym (append_assoc (f u) (flat_map f os) (f o))

-- a step of the loop over the orientations
pub keep_orientation : (first before best : Option (List ℕ)) (X : Cells) (i : ℕ) → i < 8 → before
    ≡ kept_of first X (take i orientations) → best ≡ kept_least before (text_of (shape (get_or orientations i O0) X))
    → best ≡ kept_of first X (take (i + 1) orientations)
keep_orientation first before best X i inside kept now =
    now ∙ ap (λ b. kept_least b (text_of (shape (get_or orientations i O0) X))) kept
    ∙ sym (ap (kept_of first X) (take_more orientations i O0 inside)
    ∙ kept_of-more first X (take i orientations) (get_or orientations i O0))

-- after the last orientation all texts of the set are taken
pub kept_all : (first best : Option (List ℕ)) (X : Cells) (i : ℕ) → 8 ≤ i → best ≡ kept_of first X (take i orientations)
    → best ≡ kept_least first (texts_of X)
kept_all first best X i end kept = kept ∙ ap (kept_of first X) (take_all i orientations end)

-- ---- what is kept of the first phases

-- one phase more
flat_range : (f : ℕ → List (List ℕ)) (a n : ℕ)
    → flat_map f (range_with_len a (suc n)) ≡ flat_map f (range_with_len a n) ++ f (a + n)
flat_range f a zero = append-nil (f a) ∙ ap f (sym (add-zero a))
flat_range f a (suc n) =
    ap (λ s. f a ++ s) (flat_range f (a + 1) n)
    ∙ sym (append_assoc (f a) (flat_map f (range_with_len (a + 1) n)) (f (a + 1 + n)))
    ∙ ap (λ k. (f a ++ flat_map f (range_with_len (a + 1) n)) ++ f k) (let e : a + 1 + n ≡ a + suc n = omega arith in e)

-- a step of the loop over the phases
pub keep_more : (r : RuleSets) (X phase : Cells) (i : ℕ) (now best : Option (List ℕ)) → phase ≡ generation_of r X i
    → now ≡ kept_least None (candidates r X i) → best ≡ kept_least now (texts_of phase)
    → best ≡ kept_least None (candidates r X (i + 1))
unfolding candidates
keep_more r X phase i now best is before after =
    after ∙ ap (λ Z. kept_least now (texts_of Z)) is ∙ ap (λ b. kept_least b (texts_of (generation_of r X i))) before
    ∙ sym (keep-append None (candidates r X i) (texts_of (generation_of r X i)))
    ∙ ap (kept_least None)
    (sym (ap (λ n. candidates r X n) (add-one i) ∙ flat_range (λ i. texts_of (generation_of r X i)) 0 i
    ∙ ap (λ k. candidates r X i ++ texts_of (generation_of r X k)) (let e : 0 + i ≡ i = omega arith in e)))

-- before the first phase nothing is kept
pub keep_none : (r : RuleSets) (X : Cells) → None ≡ kept_least None (candidates r X 0)
unfolding candidates
keep_none r X = refl

-- the generation after generation i
pub generation_next : (r : RuleSets) (X phase on : Cells) (i : ℕ) → phase ≡ generation_of r X i
    → on ≡ generation_of r phase 1 → on ≡ generation_of r X (i + 1)
generation_next r X phase on i is e = e ∙ ap (next r) is ∙ ap (generation_of r X) (sym (add-one i))

-- generation i, if the phase so far is the one before it, or none is needed
pub phase_after : (r : RuleSets) (X phase on : Cells) (i : ℕ) → 0 < i → phase ≡ generation_of r X (i - 1)
    → on ≡ generation_of r phase 1 → on ≡ generation_of r X i
phase_after r X phase on i some is e =
    generation_next r X phase on (i - 1) is e ∙ ap (generation_of r X) (let e : i - 1 + 1 ≡ i = omega arith in e)

pub phase_at_first : (r : RuleSets) (X phase : Cells) (i : ℕ) → i ≤ 0 → phase ≡ generation_of r X (i - 1)
    → phase ≡ generation_of r X i
phase_at_first r X phase i none is = is ∙ ap (generation_of r X) (let e : i - 1 ≡ i = omega arith in e)

-- generation i of a set within 400 million lies i cells further out at most
pub phase_within : (r : RuleSets) (X phase : Cells) (i m : ℕ) → phase ≡ generation_of r X i
    → IsWithin 400000000 X → 400000000 + i ≤ m → IsWithin m phase
phase_within r X phase i m is within room =
    subst (IsWithin m) (sym is) (within_more (400000000 + i) m (generation_of r X i) room
    (generation_within r 400000000 X i within))
