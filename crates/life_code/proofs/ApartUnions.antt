-- Sets that are apart evolve independently.
use Rattle.std.specs.Prelude.{◌≡◌, ℕ, zero, suc, ◌<◌, true, false, ◌||◌, List, [], ◌∷◌, map, ◌⊎◌}
use Rattle.std.proofs.Common.{sym, ap, ◌∙◌, inl, inr, refl, arith}
use Rattle.std.proofs.lemmas.Bool.{false≢true, cases_Bool, or_left, or_right}
use Rattle.std.proofs.lemmas.List.Elements.{Contains-append_cases, Contains-push_cases}
use Rattle.std.specs.List.{AllByRecursion, Contains}
use Rattle.std.specs.FinSet as set
use Rattle.life_core.specs.declared.cell.Cell.{Cell}
use Rattle.life_core.specs.Cell.{cell_cmp}
use Rattle.life_core.specs.Pattern.{Cells}
use Rattle.life_core.specs.Rule.{RuleSets}
use Rattle.life_core.specs.Generations.{next, generation_of}
use Rattle.life_core.proofs.PatternMembers.{cell_cmp_total}
use Rattle.life_code.specs.Apart.{AreApart, AreAllApart, union_of}
use Rattle.life_code.specs.CodeLaws.{ApartEvolveIndependently}
use Rattle.life_code.proofs.ApartBlocks.{next-union, next-empty}

apart_from_union : (P : Cells) (Ps : List Cells) → AllByRecursion (AreApart P) Ps → AreApart P (union_of Ps)
apart_from_union P [] all c d h k = absurd (false≢true (sym (set.contains-empty cell_cmp d) ∙ k))
apart_from_union P (Q ∷ Qs) all c d h k = elim (cases_Bool (set.contains Q d)) [
  | inl held ↦ all.0 c d h held
  | inr free ↦
      apart_from_union P Qs all.1 c d h (ap (λ b. b || set.contains (union_of Qs) d) (sym free)
      ∙ sym (set.contains-union cell_cmp_total Q (union_of Qs) d) ∙ k)
]

pub next-union_of : (r : RuleSets) (Ps : List Cells) → set.contains r.birth 0 ≡ false → AreAllApart Ps
    → next r (union_of Ps) ≡ union_of (map (next r) Ps)
next-union_of r [] none apart = next-empty r none
next-union_of r (P ∷ Ps) none apart =
    next-union r P (union_of Ps) none (apart_from_union P Ps apart.0)
    ∙ ap (set.union (next r P)) (next-union_of r Ps none apart.1)

map_next : (r : RuleSets) (k : ℕ) (Ps : List Cells)
    → map (next r) (map (λ P. generation_of r P k) Ps) ≡ map (λ P. generation_of r P (suc k)) Ps
map_next r k [] = refl
map_next r k (P ∷ Ps) = ap (λ (Qs : List Cells). next r (generation_of r P k) ∷ Qs) (map_next r k Ps)

map_none : (r : RuleSets) (Ps : List Cells) → map (λ P. generation_of r P 0) Ps ≡ Ps
map_none r [] = refl
map_none r (P ∷ Ps) = ap (λ (Qs : List Cells). P ∷ Qs) (map_none r Ps)

-- sets whose generations stay apart evolve each for itself
pub generation-union_of : (r : RuleSets) (Ps : List Cells) → set.contains r.birth 0 ≡ false
    → ((k : ℕ) → AreAllApart (map (λ P. generation_of r P k) Ps))
    → (k : ℕ) → generation_of r (union_of Ps) k ≡ union_of (map (λ P. generation_of r P k) Ps)
generation-union_of r Ps none apart zero = ap union_of (sym (map_none r Ps))
generation-union_of r Ps none apart (suc k) =
    ap (next r) (generation-union_of r Ps none apart k)
    ∙ next-union_of r (map (λ P. generation_of r P k) Ps) none (apart k) ∙ ap union_of (map_next r k Ps)

-- ---- members of a list, by cases on the list

abbrev pub IsIn : {X : Type 0} → List X → X → Type 0
IsIn [] P = ⊥
IsIn (Q ∷ Qs) P = (Q ≡ P) ⊎ IsIn Qs P

nowhere : {X : Type 0} (P : X) → Contains [] P → ⊥
nowhere P h = let none : h.0 < 0 = h.1 in omega arith

pub in_from_contains : {X : Type 0} (Ps : List X) (P : X) → Contains Ps P → IsIn Ps P
in_from_contains [] P h = nowhere P h
in_from_contains (Q ∷ Qs) P h = elim (Contains-append_cases (Q ∷ []) Qs P h) [
  | inl first ↦ elim (Contains-push_cases [] Q P first) [ inl none ↦ absurd (nowhere P none) | inr same ↦ inl same ]
  | inr rest ↦ inr (in_from_contains Qs P rest)
]

-- a cell of what one of them becomes is in the union
pub in_union_of : (f : Cells → Cells) (Ps : List Cells) (P : Cells) (c : Cell) → IsIn Ps P
    → set.contains (f P) c ≡ true → set.contains (union_of (map f Ps)) c ≡ true
in_union_of f [] P c h live = absurd h
in_union_of f (Q ∷ Qs) P c h live = set.contains-union cell_cmp_total (f Q) (union_of (map f Qs)) c ∙ elim h [
  | inl same ↦ or_left _ _ (ap (λ (R : Cells). set.contains (f R) c) same ∙ live)
  | inr rest ↦ or_right _ _ (in_union_of f Qs P c rest live)
]

pub apart_evolve_independently : ApartEvolveIndependently
apart_evolve_independently r Ps none apart k = generation-union_of r Ps none apart k
