-- Parts of a set that are taken from it one by one, each with its orbit.
use Rattle.std.specs.Prelude.{◌≡◌, ◌⊎◌, ℤ, ℕ, ◌+◌, ◌<◌, Bool, true, false, ◌||◌, List, [], ◌∷◌, ◌++◌, length, map, take}
use Rattle.std.specs.Prelude.{get_or, refl}
use Rattle.std.specs.List.{All, AllByRecursion, Contains}
use Rattle.std.proofs.Common.{sym, ap, subst, ◌∙◌, inl, inr, arith}
use Rattle.std.proofs.lemmas.Bool.{or_left, or_right}
use Rattle.std.proofs.lemmas.List.{take_more, length-map}
use Rattle.std.proofs.Math.ListN.{get_or-map}
use Rattle.std.proofs.lemmas.List.Elements.{All-contains, All-push, recursion_from_All}
use Rattle.std.proofs.lemmas.List.Folds.{list_any-append}
use Rattle.std.specs.FinSet as set
use Rattle.life_core.specs.declared.cell.Cell.{Cell}
use Rattle.life_core.specs.Cell.{cell_cmp, moved_cell}
use Rattle.life_core.specs.Generations.{generation_of}
use Rattle.life_core.specs.Pattern.{Cells, image, IsWithin}
use Rattle.life_core.specs.Rule.{RuleSets, IsRule}
use Rattle.life_core.proofs.CellLemmas.{same_coordinates}
use Rattle.life_core.proofs.PatternMembers.{same_cell, has_cell, cell_cmp_total, cells_by_members, contains-list}
use Rattle.life_code.specs.declared.apart.Moving.{Moving}
use Rattle.life_code.specs.declared.part_frames.Frame.{Frame}
use Rattle.life_code.specs.Apart.{AreApart, AreAllApart, union_of}
use Rattle.life_code.specs.PartFramesState.{HasMoved}
use Rattle.life_code.specs.ApartState.{IsOrbit, IsMoving, AreMoving, KeepApart, KeepsApartFrom, AreParted}
use Rattle.life_code.specs.ApartState.{SomeMoveDifferently, parts_of}
use Rattle.life_code.specs.Period.{Returns}
use Rattle.life_code.specs.PeriodState.{NeverReturns}
use Rattle.life_code.proofs.ApartBlocks.{or-false}
use Rattle.life_code.proofs.ApartMoves.{parting_never_returns}
use Rattle.life_code.proofs.ApartOrbits.{orbits_apart, orbit_moved}

pub has_cell-append : (cs ds : List Cell) (c : Cell) → has_cell (cs ++ ds) c ≡ (has_cell cs c || has_cell ds c)
has_cell-append cs ds c = list_any-append (same_cell c) cs ds

-- ---- cells that are parted

pub parted_none : (xs ys : List Cell) → xs ≡ [] → ys ≡ [] → AreParted [] xs ys
parted_none xs ys none nothing = cells_by_members _ _ (λ c.
    contains-list [] c ∙ sym (set.contains-union cell_cmp_total (set.from_list xs) (set.from_list ys) c
    ∙ (λ i. contains-list xs c i || contains-list ys c i) ∙ (λ i. has_cell (none i) c || has_cell (nothing i) c)))

-- one cell more, in the one list or the other
pub parted_more : (cs xs ys us vs : List Cell) (i : ℕ) (d : Cell) → i < length cs → AreParted (take i cs) xs ys
    → ((us ≡ xs ++ get_or cs i d ∷ []) × (vs ≡ ys)) ⊎ ((us ≡ xs) × (vs ≡ ys ++ get_or cs i d ∷ []))
    → AreParted (take (i + 1) cs) us vs
parted_more cs xs ys us vs i d low parted more = cells_by_members _ _ (λ c.
    ap (λ zs. set.contains (set.from_list {R = cell_cmp} zs) c) (take_more cs i d low)
    ∙ contains-list (take i cs ++ x ∷ []) c ∙ has_cell-append (take i cs) (x ∷ []) c
    ∙ ap (λ b. b || has_cell (x ∷ []) c)
    (sym (contains-list (take i cs) c) ∙ ap (λ Z. set.contains Z c) parted ∙ both xs ys c)
    ∙ place c more
    ∙ sym (both us vs c))
  where
    x : Cell
    x = get_or cs i d

    both : (ps qs : List Cell) (c : Cell)
        → set.contains (set.union (set.from_list {R = cell_cmp} ps) (set.from_list qs)) c
        ≡ (has_cell ps c || has_cell qs c)
    both ps qs c =
        set.contains-union cell_cmp_total (set.from_list ps) (set.from_list qs) c
        ∙ (λ j. contains-list ps c j || contains-list qs c j)

    first : (a b e : Bool) → ((a || b) || e) ≡ ((a || e) || b)
    first true b e = refl
    first false true true = refl
    first false true false = refl
    first false false e = sym (or-false e)

    second : (a b e : Bool) → ((a || b) || e) ≡ (a || (b || e))
    second true b e = refl
    second false b e = refl

    place : (c : Cell) → ((us ≡ xs ++ x ∷ []) × (vs ≡ ys)) ⊎ ((us ≡ xs) × (vs ≡ ys ++ x ∷ []))
        → ((has_cell xs c || has_cell ys c) || has_cell (x ∷ []) c) ≡ (has_cell us c || has_cell vs c)
    place c (inl (in_us, in_vs)) =
        first (has_cell xs c) (has_cell ys c) (has_cell (x ∷ []) c)
        ∙ (λ j. sym (has_cell-append xs (x ∷ []) c) j || has_cell ys c)
        ∙ (λ j. has_cell (sym in_us j) c || has_cell (sym in_vs j) c)
    place c (inr (in_us, in_vs)) =
        second (has_cell xs c) (has_cell ys c) (has_cell (x ∷ []) c)
        ∙ (λ j. has_cell xs c || sym (has_cell-append ys (x ∷ []) c) j)
        ∙ (λ j. has_cell (sym in_us j) c || has_cell (sym in_vs j) c)

-- ---- parts that go their orbits

module _ {A : Type 0} (r : RuleSets) (m : Moving A) (moving : IsMoving r m) where
  -- what one part is apart from, with one part more
  apart_from_more : (k : ℕ) (Y : Cells) (parts : List (Moving A))
      → AllByRecursion (AreApart Y) (map (λ P. generation_of r P k) (parts_of parts))
      → AreApart Y (generation_of r m.part k)
      → AllByRecursion (AreApart Y) (map (λ P. generation_of r P k) (parts_of (parts ++ m ∷ [])))
  apart_from_more k Y [] all last = (last, tt)
  apart_from_more k Y (n ∷ parts) all last = (all.0, apart_from_more k Y parts all.1 last)

  apart_more : (k : ℕ) (parts : List (Moving A)) → AllByRecursion (IsMoving r) parts
      → AllByRecursion (λ n. KeepApart n.orbit m.orbit) parts
      → AreAllApart (map (λ P. generation_of r P k) (parts_of parts))
      → AreAllApart (map (λ P. generation_of r P k) (parts_of (parts ++ m ∷ [])))
  apart_more k [] each keep apart = (tt, tt)
  apart_more k (n ∷ parts) each keep apart = (
    apart_from_more k (generation_of r n.part k) parts apart.0
        (orbits_apart r n.part m.part n.orbit m.orbit each.0 moving keep.0 k),
    apart_more k parts each.1 keep.1 apart.1,
  )

  -- one part more
  pub moving_more : (parts : List (Moving A)) → AreMoving r parts → KeepsApartFrom parts m.orbit
      → AreMoving r (parts ++ m ∷ [])
  moving_more parts are keep = record {
    each = All-push (IsMoving r) parts m are.each moving;
    apart =
        λ k. apart_more k parts (recursion_from_All (IsMoving r) parts are.each)
        (recursion_from_All (λ n. KeepApart n.orbit m.orbit) parts keep) (are.apart k);
  }

pub moving_none : {A : Type 0} (r : RuleSets) (parts : List (Moving A)) → parts ≡ [] → AreMoving r parts
moving_none {A} r parts none = subst (λ (xs : List (Moving A)). AreMoving r xs) (sym none) (record {
  each = λ k d low. absurd (let no : k < 0 = low in let nothing : ⊥ = omega arith in nothing);
  apart = λ k. tt;
})

-- ---- the parts and what is left of X

-- X has the cells of the parts and those that are left
abbrev pub AreTaken : {A : Type 0} → Cells → List (Moving A) → List Cell → Type 0
AreTaken {A} X parts rest = set.union (union_of (parts_of parts)) (set.from_list rest) ≡ X

pub taken_none : {A : Type 0} (X : Cells) (parts : List (Moving A)) (rest : List Cell) → parts ≡ []
    → set.from_list {R = cell_cmp} rest ≡ X → AreTaken X parts rest
taken_none {A} X parts rest none all =
    subst (λ (xs : List (Moving A)). AreTaken X xs rest) (sym none) (cells_by_members _ _ (λ c.
    set.contains-union cell_cmp_total set.empty (set.from_list rest) c
    ∙ ap (λ b. b || set.contains (set.from_list {R = cell_cmp} rest) c) (set.contains-empty cell_cmp c)
    ∙ ap (λ Y. set.contains Y c) all))

in_more : {A : Type 0} (parts : List (Moving A)) (m : Moving A) (c : Cell)
    → set.contains (union_of (parts_of (parts ++ m ∷ []))) c
    ≡ (set.contains (union_of (parts_of parts)) c || set.contains m.part c)
in_more [] m c =
    set.contains-union cell_cmp_total m.part set.empty c
    ∙ ap (λ b. set.contains m.part c || b) (set.contains-empty cell_cmp c) ∙ or-false (set.contains m.part c)
    ∙ ap (λ b. b || set.contains m.part c) (sym (set.contains-empty cell_cmp c))
in_more (n ∷ parts) m c =
    set.contains-union cell_cmp_total n.part (union_of (parts_of (parts ++ m ∷ []))) c
    ∙ ap (λ b. set.contains n.part c || b) (in_more parts m c)
    ∙ assoc (set.contains n.part c) (set.contains (union_of (parts_of parts)) c) (set.contains m.part c)
    ∙ ap (λ b. b || set.contains m.part c)
    (sym (set.contains-union cell_cmp_total n.part (union_of (parts_of parts)) c))
  where
    assoc : (a b e : Bool) → (a || (b || e)) ≡ ((a || b) || e)
    assoc true b e = refl
    assoc false b e = refl

-- one part is taken
pub taken_more : {A : Type 0} (X : Cells) (parts : List (Moving A)) (m : Moving A) (rest inside outside : List Cell)
    → AreTaken X parts rest → AreParted rest inside outside → m.part ≡ set.from_list inside
    → AreTaken X (parts ++ m ∷ []) outside
taken_more {A} X parts m rest inside outside taken parted is = sym (cells_by_members _ _ (λ c.
    set.contains-union cell_cmp_total (union_of (parts_of parts)) (set.from_list rest) c
    ∙ ap (λ b. set.contains (union_of (parts_of parts)) c || b) (ap (λ Y. set.contains Y c) parted
    ∙ set.contains-union cell_cmp_total (set.from_list inside) (set.from_list outside) c)
    ∙ assoc (set.contains (union_of (parts_of parts)) c) (set.contains (set.from_list {R = cell_cmp} inside) c)
    (set.contains (set.from_list {R = cell_cmp} outside) c)
    ∙ ap (λ b. b || set.contains (set.from_list {R = cell_cmp} outside) c)
    (ap (λ Y. set.contains (union_of (parts_of parts)) c || set.contains Y c) (sym is) ∙ sym (in_more parts m c))
    ∙ sym (set.contains-union cell_cmp_total (union_of (parts_of (parts ++ m ∷ []))) (set.from_list outside) c)))
    ∙ taken
  where
    assoc : (a b e : Bool) → (a || (b || e)) ≡ ((a || b) || e)
    assoc true b e = refl
    assoc false b e = refl

-- the cells that are taken next lie where X does
pub taken_room : {A : Type 0} (k : ℕ) (X : Cells) (parts : List (Moving A)) (rest inside outside : List Cell)
    → AreTaken X parts rest → AreParted rest inside outside → IsWithin k X → IsWithin k (set.from_list inside)
taken_room {A} k X parts rest inside outside taken parted within c has =
    within c (ap (λ Y. set.contains Y c) (sym taken)
    ∙ set.contains-union cell_cmp_total (union_of (parts_of parts)) (set.from_list rest) c
    ∙ or_right _ _ (ap (λ Y. set.contains Y c) parted
    ∙ set.contains-union cell_cmp_total (set.from_list inside) (set.from_list outside) c ∙ or_left _ _ has))

pub taken_all : {A : Type 0} (X : Cells) (parts : List (Moving A)) (rest : List Cell) → rest ≡ []
    → AreTaken X parts rest → union_of (parts_of parts) ≡ X
taken_all {A} X parts rest none taken = cells_by_members _ _ (λ c.
    sym (or-false (set.contains (union_of (parts_of parts)) c))
    ∙ ap (λ b. set.contains (union_of (parts_of parts)) c || b)
    (sym (contains-list [] c) ∙ ap (λ zs. set.contains (set.from_list {R = cell_cmp} zs) c) (sym none))
    ∙ sym (set.contains-union cell_cmp_total (union_of (parts_of parts)) (set.from_list rest) c)
    ∙ ap (λ Y. set.contains Y c) taken)

-- ---- parts that part ways

pub part_in : {A : Type 0} (parts : List (Moving A)) (m : Moving A) → Contains parts m
    → Contains (parts_of parts) m.part
part_in {A} parts m (k, low, at) = (
  k,
  subst (λ n. k < n) (sym (length-map parts (λ (n : Moving A). n.part))) low,
  get_or-map (λ (n : Moving A). n.part) parts k m ∙ ap (λ (n : Moving A). n.part) at,
)

pub never_by_parts : {A : Type 0} (r : RuleSets) (X : Cells) (parts : List (Moving A)) → IsRule r
    → AreMoving r parts → union_of (parts_of parts) ≡ X → SomeMoveDifferently parts → NeverReturns r X
never_by_parts {A} r X parts rule are whole ways n from dx dy back =
    let m = All-contains (IsMoving r) parts ways.m are.each ways.has_m in
    let o = All-contains (IsMoving r) parts ways.n are.each ways.has_n in
    parting_never_returns r (parts_of parts) rule.quiet are.apart ways.m.part ways.n.part ways.m.orbit.period
    ways.n.orbit.period ways.m.orbit.dx ways.m.orbit.dy ways.n.orbit.dx ways.n.orbit.dy
    (part_in parts ways.m ways.has_m)
    (part_in parts ways.n ways.has_n) m.some o.some m.from o.from m.back o.back ways.differ n from dx dy
    (subst (λ Y. Returns r Y n dx dy) (sym whole) back)

-- ---- parts that are known

-- the orbit of a known part that is moved; x, y, dx and dy are the moves as the code gives them on
pub orbit_known : {A : Type 0} (r : RuleSets) (known : List (Moving A)) (m : Moving A) (Y : Cells)
    (i : ℕ) (column row x y dx dy : ℤ) (f : Frame) → All (IsMoving r) known → i < length known → m ≡ get_or known i m
    → x ≡ column → y ≡ row → dx ≡ m.orbit.dx → dy ≡ m.orbit.dy → image (moved_cell column row) m.part ≡ Y
    → HasMoved m.orbit.frame (record { row = y; column = x }) f
    → IsOrbit r Y (record { period = m.orbit.period; dx = dx; dy = dy; frame = f })
orbit_known {A} r known m Y i column row x y dx dy f all low item columns rows right down is moves =
    subst (λ (w : ℤ × ℤ). IsOrbit r Y (record { period = m.orbit.period; dx = w.0; dy = w.1; frame = f }))
    (λ k. (sym right k, sym down k))
    (orbit_moved r m.part Y m.orbit (record { row = row; column = column }) f (subst (IsMoving r) (sym item)
    (all i m low)) (subst (λ (v : Cell). HasMoved m.orbit.frame v f) (same_coordinates _ _ rows columns) moves) is)

-- one known part more
pub known_more : {A : Type 0} (r : RuleSets) (known after : List (Moving A)) (m : Moving A) (X : Cells)
    → All (IsMoving r) known → m.part ≡ X → IsOrbit r X m.orbit → after ≡ known ++ m ∷ [] → All (IsMoving r) after
known_more {A} r known after m X all is orbit made =
    subst (λ (ms : List (Moving A)). All (IsMoving r) ms) (sym made)
    (All-push (IsMoving r) known m all (subst (λ (Z : Cells). IsOrbit r Z m.orbit) (sym is) orbit))
