-- The candidates of a pattern, and the least of them.
use Rattle.std.proofs.Common.{Option, Some, None, ◌≡◌, ℕ, ◌+◌, ◌<◌, true, false, cond, List, [], ◌∷◌, refl, sym, subst}
use Rattle.std.proofs.Common.{arith, inl, ⊎_elim}
use Rattle.std.specs.List.{range_with_len}
use Rattle.std.specs.Prelude.{MatchOption}
use Rattle.std.specs.Ordering.{is_gt}
use Rattle.life_core.specs.Pattern.{Cells}
use Rattle.life_core.specs.Rule.{RuleSets}
use Rattle.life_core.specs.Generations.{generation_of}
use Rattle.life_code.specs.Wechsler.{wechsler}
use Rattle.life_code.specs.Codes.{text_cmp, orientations, fits, shape, text_of, texts_of, candidates, least_text}
use Rattle.life_code.specs.CodeLaws.{IsCandidate, LeastIsLeast}
use Rattle.life_code.proofs.TextLists.{least_is, IsLeastText, In, one_flat, flat_one, one_some, each_orientation}
use Rattle.life_code.proofs.TextLists.{range_one, one_range}

-- a set has a text exactly if its box is small enough, and one only
in_text_of : (X : Cells) (t : List ℕ) → In t (text_of X) → (fits X ≡ true) × (wechsler X ≡ t)
unfolding text_of
in_text_of X t h =
    elim (fits X) as (λ b. fits X ≡ b → In t (cond b (wechsler X ∷ []) []) → (fits X ≡ true) × (wechsler X ≡ t)) [
      | true ↦ λ e h. (e, ⊎_elim (λ g. g) (λ g. absurd g) h)
      | false ↦ λ e h. absurd h
    ] refl h

text_of_in : (X : Cells) (t : List ℕ) → fits X ≡ true → wechsler X ≡ t → In t (text_of X)
unfolding text_of
text_of_in X t e is = subst (λ b. In t (cond b (wechsler X ∷ []) [])) (sym e) (inl is)

-- what is in the list of the candidates is a candidate, and back
pub in_candidates : (r : RuleSets) (X : Cells) (p : ℕ) (t : List ℕ) → In t (candidates r X p) → IsCandidate r X p t
unfolding candidates
in_candidates r X p t h =
    let i = one_range (λ i. In t (texts_of (generation_of r X i))) 0 p
    (flat_one (λ u. u ≡ t) (λ i. texts_of (generation_of r X i)) (range_with_len 0 p) h) in
    let phase = generation_of r X (0 + i.0) in
    let o = one_some (λ o. In t (text_of (shape o phase))) orientations
    (flat_one (λ u. u ≡ t) (λ o. text_of (shape o phase)) orientations i.2) in
    let found = in_text_of (shape o.0 phase) t o.1 in
    (0 + i.0, lower i.0 p i.1, o.0, found.0, found.1)
  where
    lower : (i p : ℕ) → i < p → 0 + i < p
    lower i p h = omega arith

pub candidates_in : (r : RuleSets) (X : Cells) (p : ℕ) (t : List ℕ) → IsCandidate r X p t → In t (candidates r X p)
unfolding candidates
candidates_in r X p t (i, below, o, f, is) =
    one_flat (λ u. u ≡ t) (λ i. texts_of (generation_of r X i)) (range_with_len 0 p)
    (range_one (λ i. In t (texts_of (generation_of r X i))) 0 p i below
    (one_flat (λ u. u ≡ t) (λ o. text_of (shape o (generation_of r X (0 + i)))) orientations
    (each_orientation (λ o. In t (text_of (shape o (generation_of r X (0 + i))))) o
    (subst (λ k. In t (text_of (shape o (generation_of r X k)))) (let e : i ≡ 0 + i = omega arith in e)
    (text_of_in (shape o (generation_of r X i)) t f is)))))

-- the least candidate is one that no other undercuts
pub least_candidate : (r : RuleSets) (X : Cells) (p : ℕ)
    → MatchOption (least_text (candidates r X p)) ((t : List ℕ) → ¬ IsCandidate r X p t)
    (λ t. IsCandidate r X p t × ((u : List ℕ) → IsCandidate r X p u → is_gt (text_cmp t u) ≡ false))
least_candidate r X p = by (least_text (candidates r X p)) (least_is (candidates r X p))
  where
    by : (o : Option (List ℕ)) → MatchOption o (candidates r X p ≡ []) (λ t. IsLeastText (candidates r X p) t)
        → MatchOption o ((t : List ℕ) → ¬ IsCandidate r X p t)
        (λ t. IsCandidate r X p t × ((u : List ℕ) → IsCandidate r X p u → is_gt (text_cmp t u) ≡ false))
    by None none = λ t c. subst (λ ts. In t ts) none (candidates_in r X p t c)
    by (Some t) (has, low) = (in_candidates r X p t has, λ u c. low u (candidates_in r X p u c))

pub least_is_least : LeastIsLeast
least_is_least = least_candidate
