-- A haul after one more soup.
use Rattle.std.specs.Prelude.{◌≡◌, ℕ, ◌+◌, true, false, cond, List, [], ◌∷◌, ◌++◌, fold, length, count_by, is_none}
use Rattle.std.specs.Prelude.{Option, None, Some, ◌⊎◌, refl}
use Rattle.std.proofs.Common.{sym, ap, subst, ◌∙◌, inl, inr, arith}
use Rattle.std.specs.List.{flat_map, list_any}
use Rattle.std.proofs.lemmas.Bool.{cases_Bool, or_parts}
use Rattle.std.proofs.lemmas.List.{length_push, append-nil}
use Rattle.std.proofs.lemmas.List.Folds.{list_any-append}
use Rattle.std.proofs.lemmas.List.Sums.{sum_by-cons, sum_by_push}
use Rattle.life_census.specs.Counting.{how_often}
use Rattle.life_census.proofs.CountingLaws.{Texts, same_text, same_text_is, how_often_none, one_if}
use Rattle.life_hauls.specs.declared.haul_rows.Occurrences.{Occurrences}
use Rattle.life_hauls.specs.Hauls.{HaulCounts, seen, more, joined, texts_in, rows_by, counts_over}
use Rattle.life_hauls.specs.HaulsState.{once, noted, with_code, with_codes, with_soup}
use Rattle.life_hauls.proofs.SeenLemmas.{seen-none, seen-one, seen-append, seen-push, occurs, occurs-more}
use Rattle.life_hauls.proofs.HaulRows.{Rows, IsSorted, found, rows_are, sorted-put, found-put, sorted-rows, rows_say}
use Rattle.life_hauls.proofs.HaulRows.{how_often_push}

-- ---- what with_codes does to each part

pub with_codes-rows : (i : ℕ) (os : List (Option (List ℕ))) (h : HaulCounts)
    → (with_codes i h os).rows ≡ fold (noted i) h.rows (texts_in os)
with_codes-rows i [] h = refl
with_codes-rows i (None ∷ os) h = with_codes-rows i os (with_code i h None)
with_codes-rows i (Some t ∷ os) h = with_codes-rows i os (with_code i h (Some t))

pub with_codes-soups : (i : ℕ) (os : List (Option (List ℕ))) (h : HaulCounts) → (with_codes i h os).soups ≡ h.soups
with_codes-soups i [] h = refl
with_codes-soups i (None ∷ os) h = with_codes-soups i os (with_code i h None)
with_codes-soups i (Some t ∷ os) h = with_codes-soups i os (with_code i h (Some t))

pub with_codes-total : (i : ℕ) (os : List (Option (List ℕ))) (h : HaulCounts)
    → (with_codes i h os).total ≡ h.total + length os
with_codes-total i [] h = omega arith
with_codes-total i (None ∷ os) h = let rest = with_codes-total i os (with_code i h None) in omega (arith, rest)
with_codes-total i (Some t ∷ os) h = let rest = with_codes-total i os (with_code i h (Some t)) in omega (arith, rest)

pub with_codes-unresolved : (i : ℕ) (os : List (Option (List ℕ))) (h : HaulCounts) (x : Option Occurrences) (n : ℕ)
    → h.unresolved ≡ joined x (occurs n i)
    → (with_codes i h os).unresolved ≡ joined x (occurs (n + count_by is_none os) i)
with_codes-unresolved i [] h x n is = is ∙ ap (λ k. joined x (occurs k i)) (nothing n)
  where
    nothing : (n : ℕ) → n ≡ n + 0
    nothing n = omega arith
with_codes-unresolved i (None ∷ os) h x n is =
    let whole = sum_by-cons (λ (o : Option (List ℕ)). cond (is_none o) 1 0) None os in
    let more' : (n + 1) + count_by is_none os ≡ n + count_by is_none (None ∷ os) = omega (arith, whole) in
    with_codes-unresolved i os (with_code i h None) x (n + 1) (ap (λ o. Some (more o (once i))) is ∙ occurs-more x n i)
    ∙ ap (λ k. joined x (occurs k i)) more'
with_codes-unresolved i (Some t ∷ os) h x n is =
    let whole = sum_by-cons (λ (o : Option (List ℕ)). cond (is_none o) 1 0) (Some t) os in
    let same : n + count_by is_none os ≡ n + count_by is_none (Some t ∷ os) = omega (arith, whole) in
    with_codes-unresolved i os (with_code i h (Some t)) x n is ∙ ap (λ k. joined x (occurs k i)) same

-- ---- rows

-- what was seen before, and so many of each text in soup i
abbrev IsPartial : (List ℕ → Option Occurrences) → ℕ → Texts → Rows → Type 0
IsPartial f i ts es = IsSorted es × ((q : List ℕ) → found q es ≡ joined (f q) (occurs (how_often q ts) i))

module _ (f : List ℕ → Option Occurrences) (i : ℕ) where
  partial_more : (ts : Texts) (t : List ℕ) (es : Rows) → IsPartial f i ts es
      → IsPartial f i (ts ++ t ∷ []) (noted i es t)
  partial_more ts t es is = (
    sorted-put es is.0 t (more (found t es) (once i)),
    λ q. found-put es is.0 t (more (found t es) (once i)) q ∙ go q (cases_Bool (same_text q t)),
  )
    where
      go : (q : List ℕ) → (same_text q t ≡ true) ⊎ (same_text q t ≡ false)
          → cond (same_text q t) (Some (more (found t es) (once i))) (found q es)
          ≡ joined (f q) (occurs (how_often q (ts ++ t ∷ [])) i)
      go q (inl same) =
          let count : how_often q (ts ++ t ∷ []) ≡ how_often q ts + 1 = how_often_push ts t q
          ∙ ap (λ b. how_often q ts + one_if b) same in
          ap (λ b. cond b (Some (more (found t es) (once i))) (found q es)) same
          ∙ ap (λ u. Some (more (found u es) (once i))) (sym (same_text_is q t same))
          ∙ ap (λ o. Some (more o (once i))) (is.1 q) ∙ occurs-more (f q) (how_often q ts) i
          ∙ ap (λ n. joined (f q) (occurs n i)) (sym count)
      go q (inr other) =
          let count : how_often q (ts ++ t ∷ []) ≡ how_often q ts = how_often_push ts t q
          ∙ ap (λ b. how_often q ts + one_if b) other ∙ nothing (how_often q ts) in
          ap (λ b. cond b (Some (more (found t es) (once i))) (found q es)) other ∙ is.1 q
          ∙ ap (λ n. joined (f q) (occurs n i)) (sym count)
        where
          nothing : (n : ℕ) → n + 0 ≡ n
          nothing n = omega arith

  partial_all : (us ts : Texts) (es : Rows) → IsPartial f i ts es → IsPartial f i (ts ++ us) (fold (noted i) es us)
  partial_all [] ts es is = subst (λ vs. IsPartial f i vs es) (sym (append-nil ts)) is
  partial_all (u ∷ us) ts es is =
      subst (λ vs. IsPartial f i vs (fold (noted i) (noted i es u) us)) (shift ts u us)
      (partial_all us (ts ++ u ∷ []) (noted i es u) (partial_more ts u es is))
    where
      shift : (xs : Texts) (y : List ℕ) (ys : Texts) → (xs ++ y ∷ []) ++ ys ≡ xs ++ y ∷ ys
      shift [] y ys = refl
      shift (x ∷ xs) y ys = ap (λ zs. x ∷ zs) (shift xs y ys)

-- ---- the texts of many soups

module _ (texts : ℕ → Texts) where
  pub none_seen : (ns : List ℕ) (q : List ℕ) → list_any (same_text q) (flat_map texts ns) ≡ false
      → seen (λ i. how_often q (texts i)) ns ≡ None
  none_seen [] q none = seen-none (λ i. how_often q (texts i))
  none_seen (n ∷ ns) q none =
      let both = or_parts (list_any (same_text q) (texts n)) (list_any (same_text q) (flat_map texts ns))
      (sym (list_any-append (same_text q) (texts n) (flat_map texts ns)) ∙ none) in
      let here : occurs (how_often q (texts n)) n ≡ None = ap (λ k. occurs k n) (how_often_none (texts n) q both.0) in
      seen-append (λ i. how_often q (texts i)) (n ∷ []) ns
      ∙ (λ k. joined ((seen-one (λ i. how_often q (texts i)) n ∙ here) k) (none_seen ns q both.1 k))

  abbrev pub rows_over : List ℕ → Rows
  rows_over ns = rows_by (λ t. seen (λ i. how_often t (texts i)) ns) (flat_map texts ns)

  -- what is found in the rows is what is seen
  pub found-over : (ns : List ℕ) (q : List ℕ) → found q (rows_over ns) ≡ seen (λ i. how_often q (texts i)) ns
  found-over ns q = rows_say (λ t. seen (λ i. how_often t (texts i)) ns) (flat_map texts ns) q (none_seen ns q)

  pub sorted-over : (ns : List ℕ) → IsSorted (rows_over ns)
  sorted-over ns = sorted-rows (λ t. seen (λ i. how_often t (texts i)) ns) (flat_map texts ns)

  pub rows-push : (ns : List ℕ) (i : ℕ) → fold (noted i) (rows_over ns) (texts i) ≡ rows_over (ns ++ i ∷ [])
  rows-push ns i =
      let f : List ℕ → Option Occurrences = λ q. seen (λ j. how_often q (texts j)) ns in
      let whole = partial_all f i (texts i) [] (rows_over ns) (sorted-over ns, found-over ns) in
      rows_are (fold (noted i) (rows_over ns) (texts i)) (rows_over (ns ++ i ∷ [])) whole.0 (sorted-over (ns ++ i ∷ []))
      (λ q. whole.1 q ∙ sym (found-over (ns ++ i ∷ []) q ∙ seen-push (λ j. how_often q (texts j)) ns i))

-- ---- the whole haul

pub counts-push : (codes : ℕ → List (Option (List ℕ))) (ns : List ℕ) (i : ℕ)
    → with_soup i (counts_over codes ns) (codes i) ≡ counts_over codes (ns ++ i ∷ [])
unfolding counts_over
counts-push codes ns i =
    let h = counts_over codes ns in
    let texts : ℕ → Texts = λ j. texts_in (codes j) in
    let rows = with_codes-rows i (codes i) h ∙ rows-push texts ns i in
    let nothing : 0 + count_by is_none (codes i) ≡ count_by is_none (codes i) = omega arith in
    let before : Option Occurrences = seen (λ j. count_by is_none (codes j)) ns in
    let unresolved = with_codes-unresolved i (codes i) h before 0 refl ∙ ap (λ k. joined before (occurs k i)) nothing
    ∙ sym (seen-push (λ j. count_by is_none (codes j)) ns i) in
    let soups = sym (length_push ns i) in
    let total = with_codes-total i (codes i) h ∙ sym (sum_by_push (λ j. length (codes j)) ns i) in
    λ k. record { rows = rows k; unresolved = unresolved k; soups = soups k; total = total k }

pub sorted-haul : (codes : ℕ → List (Option (List ℕ))) (ns : List ℕ) → IsSorted (counts_over codes ns).rows
unfolding counts_over
sorted-haul codes ns = sorted-over (λ j. texts_in (codes j)) ns

pub no-soups : (codes : ℕ → List (Option (List ℕ)))
    → counts_over codes [] ≡ record { rows = []; unresolved = None; soups = 0; total = 0 }
unfolding counts_over
no-soups codes =
    let rows = rows_are (rows_over (λ j. texts_in (codes j)) []) [] (sorted-over (λ j. texts_in (codes j)) []) tt
    (λ q. found-over (λ j. texts_in (codes j)) [] q ∙ seen-none (λ i. how_often q (texts_in (codes i)))) in
    λ k. record { rows = rows k; unresolved = seen-none (λ i. count_by is_none (codes i)) k; soups = 0; total = 0 }

-- sorted rows stay so
pub sorted-more : (i : ℕ) (h : HaulCounts) (o : Option (List ℕ)) → IsSorted h.rows → IsSorted (with_code i h o).rows
sorted-more i h None sorted = sorted
sorted-more i h (Some t) sorted = sorted-put h.rows sorted t (more (found t h.rows) (once i))
