-- Later generations of parts, computed from their orbits.
use Rattle.std.specs.Prelude.{◌≡◌, ℕ, ◌+◌, ◌-◌, ◌/◌, ◌%◌, ◌<◌, ◌≤◌, Bool, true, false, ◌||◌, Option, Some, None, Result}
use Rattle.std.specs.Prelude.{Ok, Err, IfOk, IfSome, pos, ◌*ℤ◌, List, [], ◌∷◌, ◌++◌, length, map, take, get_or, refl}
use Rattle.std.specs.List.{All}
use Rattle.std.proofs.Common.{sym, ap, subst, ◌∙◌, arith}
use Rattle.std.proofs.lemmas.List.{take_more, get_or_default}
use Rattle.std.specs.FinSet as set
use Rattle.life_core.specs.declared.cell.Cell.{Cell}
use Rattle.life_core.specs.Cell.{cell_cmp}
use Rattle.life_core.specs.Generations.{generation_of, HasRoomFor, GivesGeneration}
use Rattle.life_core.specs.Pattern.{Cells, in_order, IsWithin}
use Rattle.life_core.specs.Rule.{RuleSets}
use Rattle.life_core.proofs.CellLemmas.{same_coordinates}
use Rattle.life_core.proofs.GenerationsLaws.{generation_within, within_more}
use Rattle.life_core.proofs.PatternMembers.{cell_cmp_total, cells_by_members, contains-list, has_cell}
use Rattle.life_core.proofs.PatternOrder.{from_list_of}
use Rattle.life_core.proofs.Placements.{moved}
use Rattle.life_code.specs.declared.apart.Moving.{Moving}
use Rattle.life_code.specs.Apart.{union_of}
use Rattle.life_code.specs.ApartState.{AreMoving, parts_of}
use Rattle.life_code.specs.Period.{Returns}
use Rattle.life_code.specs.SettledState.{IsMovingWithin}
use Rattle.life_code.proofs.ApartBlocks.{or-false}
use Rattle.life_code.proofs.ApartParts.{has_cell-append, part_in}
use Rattle.life_code.proofs.ApartUnions.{generation-union_of, in_from_contains, in_union_of}
use Rattle.life_code.proofs.PeriodLemmas.{many, phase_mod, generation-add}

-- ---- one part

-- a phase, moved as far as the whole periods lead, is the later generation
pub later_is : (r : RuleSets) (X : Cells) (p : ℕ) (by : Cell) → 1 ≤ p → Returns r X p by.column by.row
    → (n : ℕ) (v : Cell) → v.column ≡ pos (n / p) *ℤ by.column → v.row ≡ pos (n / p) *ℤ by.row
    → moved v (generation_of r X (n % p)) ≡ generation_of r X n
later_is r X p by from back n v column row =
    ap (λ (u : Cell). moved u (generation_of r X (n % p))) (same_coordinates v (many (n / p) by) row column)
    ∙ sym (phase_mod r X p by from back n)

-- a phase can be made
pub phase_room : (X : Cells) (n p : ℕ) → 1 ≤ p → n ≤ 2048 → IsWithin 500000000 X → HasRoomFor (n % p) X
phase_room X n p from few within =
    record { few = small; room = within_more 500000000 (1000000000 - n % p) X (omega (arith, small)) within }
  where
    most : (n p : ℕ) → 1 ≤ p → n % p ≤ n
    most n p from = grind arith

    small : n % p ≤ 2048
    small = omega (arith, most n p from)

-- a later generation lies on the plane
pub later_room : (r : RuleSets) (X Y : Cells) (n : ℕ) → IsWithin 500000000 X → n ≤ 2048 → Y ≡ generation_of r X n
    → IsWithin 1000000000 Y
later_room r X Y n h few is =
    subst (IsWithin 1000000000) (sym is)
    (within_more (500000000 + n) 1000000000 (generation_of r X n) (omega arith) (generation_within r 500000000 X n h))

-- ---- parts together

-- the cells that are listed are those of a union
pub none_together : (cells : List Cell) → cells ≡ [] → set.from_list cells ≡ union_of []
none_together cells none =
    cells_by_members _ _
    (λ c. contains-list cells c ∙ ap (λ ds. has_cell ds c) none ∙ sym (set.contains-empty cell_cmp c))

union_push : (Ps : List Cells) (P : Cells) → union_of (Ps ++ P ∷ []) ≡ set.union (union_of Ps) P
union_push [] P = cells_by_members _ _ (λ c.
    set.contains-union cell_cmp_total P set.empty c ∙ ap (λ b. set.contains P c || b) (set.contains-empty cell_cmp c)
    ∙ or-false (set.contains P c)
    ∙ sym (set.contains-union cell_cmp_total set.empty P c
    ∙ ap (λ b. b || set.contains P c) (set.contains-empty cell_cmp c)))
union_push (Q ∷ Qs) P = ap (set.union Q) (union_push Qs P) ∙ cells_by_members _ _ (λ c.
    set.contains-union cell_cmp_total Q (set.union (union_of Qs) P) c
    ∙ ap (λ b. set.contains Q c || b) (set.contains-union cell_cmp_total (union_of Qs) P c)
    ∙ assoc (set.contains Q c) (set.contains (union_of Qs) c) (set.contains P c)
    ∙ sym (set.contains-union cell_cmp_total (set.union Q (union_of Qs)) P c
    ∙ ap (λ b. b || set.contains P c) (set.contains-union cell_cmp_total Q (union_of Qs) c)))
  where
    assoc : (a b e : Bool) → (a || (b || e)) ≡ ((a || b) || e)
    assoc true b e = refl
    assoc false b e = refl

map_push : {A : Type 0} (f : Moving A → Cells) (ms : List (Moving A)) (m : Moving A)
    → map f (ms ++ m ∷ []) ≡ map f ms ++ f m ∷ []
map_push f [] m = refl
map_push f (n ∷ ms) m = ap (λ (Qs : List Cells). f n ∷ Qs) (map_push f ms m)

map_twice : {A : Type 0} (f : Cells → Cells) (ms : List (Moving A))
    → map f (parts_of ms) ≡ map (λ (m : Moving A). f m.part) ms
map_twice f [] = refl
map_twice f (n ∷ ms) = ap (λ (Qs : List Cells). f n.part ∷ Qs) (map_twice f ms)

-- one part more
pub more_together : {A : Type 0} (r : RuleSets) (n : ℕ) (ms : List (Moving A)) (i : ℕ) (m : Moving A)
    (Y : Cells) (cells after ds : List Cell) → i < length ms → m ≡ get_or ms i m → Y ≡ generation_of r m.part n
    → ds ≡ in_order Y → after ≡ cells ++ ds
    → set.from_list cells ≡ union_of (map (λ P. generation_of r P n) (parts_of (take i ms)))
    → set.from_list after ≡ union_of (map (λ P. generation_of r P n) (parts_of (take (i + 1) ms)))
more_together {A} r n ms i m Y cells after ds low item is listed made before = sym (
    ap (λ (ns : List (Moving A)). union_of (map f (parts_of ns))) (take_more ms i m low)
    ∙ ap union_of (map_twice f (take i ms ++ get_or ms i m ∷ [])
    ∙ map_push (λ (o : Moving A). f o.part) (take i ms) (get_or ms i m))
    ∙ union_push (map (λ (o : Moving A). f o.part) (take i ms)) (f (get_or ms i m).part)
    ∙ (λ k. set.union ((ap union_of (sym (map_twice f (take i ms))) ∙ sym before) k)
    ((ap (λ (o : Moving A). f o.part) (sym item) ∙ sym is) k))
    ∙ sym both)
  where
    f : Cells → Cells
    f P = generation_of r P n

    both : set.from_list after ≡ set.union (set.from_list cells) Y
    both = cells_by_members _ _ (λ c.
        contains-list after c ∙ ap (λ es. has_cell es c) made ∙ has_cell-append cells ds c
        ∙ (λ k. sym (contains-list cells c) k
        || (sym (contains-list ds c) ∙ ap (λ Z. set.contains Z c) (from_list_of Y ds listed)) k)
        ∙ sym (set.contains-union cell_cmp_total (set.from_list cells) Y c))

-- ---- a field that has settled

-- the parts lie where the field does
pub moving_within : {A : Type 0} (k : ℕ) (r : RuleSets) (X : Cells) (ms : List (Moving A))
    → AreMoving r ms → union_of (parts_of ms) ≡ X → IsWithin k X → All (IsMovingWithin k r) ms
moving_within {A} k r X ms are whole within = λ i d low. record {
  moving = are.each i d low;
  room =
      λ c has. within c (ap (λ (Y : Cells). set.contains Y c) (sym whole)
      ∙ ap (λ (Ps : List Cells). set.contains (union_of Ps) c) (sym (same (parts_of ms)))
      ∙ in_union_of (λ P. P) (parts_of ms) (get_or ms i d).part c
      (in_from_contains (parts_of ms) (get_or ms i d).part (part_in ms (get_or ms i d) (i, low, at i d low))) has);
}
  where
    same : (Ps : List Cells) → map (λ (P : Cells). P) Ps ≡ Ps
    same [] = refl
    same (P ∷ Ps) = ap (λ (Qs : List Cells). P ∷ Qs) (same Ps)

    at : (i : ℕ) (d : Moving A) → i < length ms → get_or ms i (get_or ms i d) ≡ get_or ms i d
    at i d low = get_or_default ms i (get_or ms i d) d low

-- the field's later generation is that of its parts
pub settled_is : {A : Type 0} (r : RuleSets) (X Y : Cells) (n : ℕ) (ms : List (Moving A))
    → set.contains r.birth 0 ≡ false → AreMoving r ms → union_of (parts_of ms) ≡ X
    → Y ≡ union_of (map (λ P. generation_of r P n) (parts_of ms)) → Y ≡ generation_of r X n
settled_is {A} r X Y n ms quiet are whole is =
    is ∙ sym (generation-union_of r (parts_of ms) quiet are.apart n) ∙ ap (λ (Z : Cells). generation_of r Z n) whole

-- what is said of a set, if there is one
pub if_some : {E : Type 0} (result : Result (Option Cells) E) (F G : Cells → Type 0) → ((X : Cells) → F X → G X)
    → IfOk result (λ o. IfSome o F) → IfOk result (λ o. IfSome o G)
if_some {E} (Ok (Some X)) F G weaker h = weaker X h
if_some {E} (Ok None) F G weaker h = h
if_some {E} (Err e) F G weaker h = h

-- ---- the generations until then

pub rest_is : (r : RuleSets) (X Y Z : Cells) (i n : ℕ) → i < n → Y ≡ generation_of r X i → Z ≡ generation_of r Y (n - i)
    → Z ≡ generation_of r X n
rest_is r X Y Z i n less now later =
    later ∙ ap (λ (W : Cells). generation_of r W (n - i)) now ∙ sym (generation-add r X i (n - i))
    ∙ ap (generation_of r X) (let e : i + (n - i) ≡ n = omega arith in e)

pub rest_within : (r : RuleSets) (X Z : Cells) (n : ℕ) → Z ≡ generation_of r X n → (k : ℕ)
    → IsWithin k X → IsWithin (k + n) Z
rest_within r X Z n is k within = subst (IsWithin (k + n)) (sym is) (generation_within r k X n within)

-- a result that is the later generation, if it is one, is what the call gives
pub given_generation : {E : Type 0} (r : RuleSets) (X Y : Cells) (n : ℕ) (result : Result Cells E)
    → Y ≡ generation_of r X n → IfOk result (λ Z. Z ≡ Y) → GivesGeneration r X n result
given_generation {E} r X Y n (Ok Z) is h = record { value = h ∙ is; grown = rest_within r X Z n (h ∙ is) }
given_generation {E} r X Y n (Err e) is h = record { value = h; grown = h }
