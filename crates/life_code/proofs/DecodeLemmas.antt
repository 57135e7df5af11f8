-- Steps of reading a text.
use Rattle.std.proofs.Common.{◌≡◌, ℕ, zero, suc, ◌+◌, ◌<◌, ◌≤◌, ◌%◌, ◌/◌, Bool, true, false, cond, List, ◌∷◌, map, refl}
use Rattle.std.proofs.Common.{sym, ap, ◌∙◌, subst, arith}
use Rattle.std.specs.List.{AllByRecursion, All, filter, range_with_len}
use Rattle.std.specs.FinSet as set
use Rattle.std.proofs.lemmas.Int.{ints}
use Rattle.std.proofs.lemmas.List.Elements.{All-from_recursion}
use Rattle.life_core.specs.declared.cell.Cell.{Cell}
use Rattle.life_core.specs.Cell.{IsCellWithin}
use Rattle.life_core.specs.Pattern.{Cells, IsWithin}
use Rattle.life_core.proofs.PatternMembers.{within_from_list}
use Rattle.life_code.specs.DecodeState.{spells_cell, is_live, cell_of_index, decoded}

-- ---- the cells of places

module _ (k : ℕ) (far : 39 ≤ k) where
  place_within : (i : ℕ) → i < 1600 → IsCellWithin k (cell_of_index i)
  place_within i h = record {
    top = omega (arith, ints);
    bottom = omega (arith, ints);
    left = omega (arith, ints);
    right = omega (arith, ints);
  }

  each_within : (p : ℕ → Bool) (a n : ℕ) → a + n ≤ 1600
      → AllByRecursion (IsCellWithin k) (map cell_of_index (filter p (range_with_len a n)))
  each_within p a zero h = tt
  each_within p a (suc n) h =
      let rest = each_within p (a + 1) n (omega arith) in
      elim (p a) as (λ b. AllByRecursion (IsCellWithin k)
      (map cell_of_index (cond b (a ∷ filter p (range_with_len (a + 1) n)) (filter p (range_with_len (a + 1) n))))) [
        | true ↦ (place_within a (omega arith), rest)
        | false ↦ rest
      ]

  -- the cells of places lie within the box, and so within what is larger
  pub places_within : (p : ℕ → Bool) (n : ℕ) (cells : List Cell) → n ≤ 1600
      → cells ≡ map cell_of_index (filter p (range_with_len 0 n)) → All (IsCellWithin k) cells
  places_within p n cells few is =
      subst (λ (cs : List Cell). All (IsCellWithin k) cs) (sym is)
      (All-from_recursion (IsCellWithin k) _ (each_within p 0 n (omega arith)))

  -- so does what is decoded
  pub decoded_within : (text : List ℕ) → IsWithin k (decoded text)
  unfolding decoded
  decoded_within text =
      within_from_list k _ (places_within (λ i. spells_cell 0 false text (i % 40) (i / 40)) 1600 _ (omega arith) refl)

-- tests that agree at some numbers pass the same of them
same_places : (p q : ℕ → Bool) (a n : ℕ) → ((i : ℕ) → i < a + n → p i ≡ q i)
    → filter p (range_with_len a n) ≡ filter q (range_with_len a n)
same_places p q a zero same = refl
same_places p q a (suc n) same =
    ap (λ b. cond b (a ∷ filter p (range_with_len (a + 1) n)) (filter p (range_with_len (a + 1) n)))
    (same a (omega arith))
    ∙ ap (λ is. cond (q a) (a ∷ is) is) (same_places p q (a + 1) n (λ i h. same i (omega arith)))

-- the set of the cells that are live by the values of the columns, which are those of a text
pub decoded_from : (text columns : List ℕ) (cells : List Cell) (X : Cells)
    → ((x y : ℕ) → x < 40 → y < 40 → spells_cell 0 false text x y ≡ is_live columns x y)
    → cells ≡ map cell_of_index (filter (λ i. is_live columns (i % 40) (i / 40)) (range_with_len 0 1600))
    → X ≡ set.from_list cells → X ≡ decoded text
unfolding decoded
decoded_from text columns cells X spelled is made =
    made
    ∙ ap set.from_list (is ∙ ap (map cell_of_index)
    (same_places (λ i. is_live columns (i % 40) (i / 40)) (λ i. spells_cell 0 false text (i % 40) (i / 40)) 0 1600
    (λ i h. sym (spelled (i % 40) (i / 40) (omega arith) (omega arith)))))
