-- The rows of a haul, from looking up each code.
use Rattle.std.specs.Prelude.{◌≡◌, ◌⊎◌, ℕ, ◌+◌, Bool, true, false, cond, T, ◌||◌, List, [], ◌∷◌, ◌++◌, Option, None}
use Rattle.std.specs.Prelude.{Some, option_map, refl}
use Rattle.std.proofs.Common.{sym, ap, ◌∙◌, subst, inl, inr, arith}
use Rattle.std.specs.Ordering.{is_eq}
use Rattle.std.specs.List.{filter_map, list_any, cons_option}
use Rattle.std.specs.FinMap as table
use Rattle.std.proofs.lemmas.Bool.{cases_Bool}
use Rattle.std.proofs.lemmas.Cmp.{tied_itself}
use Rattle.std.proofs.lemmas.List.Sums.{sum_by-cons}
use Rattle.life_census.specs.Counting.{row_cmp, how_often}
use Rattle.life_census.proofs.CountingLaws.{Texts, same_text, same_text_is, row_cmp_total, row_cmp_exact, one_if}
use Rattle.life_hauls.specs.declared.haul_rows.Occurrences.{Occurrences}
use Rattle.life_hauls.specs.Hauls.{rows_by}

abbrev pub Rows : Type 0
Rows = List (List ℕ × Occurrences)

abbrev pub IsSorted : Rows → Type 0
IsSorted es = T (table.is_sorted row_cmp es)

abbrev pub found : List ℕ → Rows → Option Occurrences
found q es = table.find row_cmp q es

-- ---- rows by what is found

pub rows_are : (es fs : Rows) → IsSorted es → IsSorted fs → ((q : List ℕ) → found q es ≡ found q fs) → es ≡ fs
rows_are es fs h g same =
    sym (table.entries-from_sorted row_cmp es h)
    ∙ ap table.entries (table.same_map row_cmp_total row_cmp_exact (table.from_sorted es) (table.from_sorted fs)
    (λ q. table.get-from_sorted row_cmp es q h ∙ same q ∙ sym (table.get-from_sorted row_cmp fs q g)))
    ∙ table.entries-from_sorted row_cmp fs g

module _ (es : Rows) (sorted : IsSorted es) (k : List ℕ) (v : Occurrences) where
  abbrev M : table.FinMap row_cmp Occurrences
  M = table.from_sorted es

  entries_of_put : table.entries (table.insert M k v) ≡ table.put row_cmp k v es
  entries_of_put =
      table.entries-insert row_cmp_total M k v
      ∙ ap (table.put row_cmp k v) (table.entries-from_sorted row_cmp es sorted)

  pub sorted-put : IsSorted (table.put row_cmp k v es)
  sorted-put = subst IsSorted entries_of_put (table.entries_sorted (table.insert M k v))

  pub found-put : (q : List ℕ) → found q (table.put row_cmp k v es) ≡ cond (same_text q k) (Some v) (found q es)
  found-put q =
      ap (found q) (sym entries_of_put) ∙ sym (table.get-entries (table.insert M k v) q)
      ∙ table.get-insert row_cmp_total M k v q
      ∙ ap (cond (same_text q k) (Some v)) (table.get-from_sorted row_cmp es q sorted)

-- ---- rows by a function

module _ (f : List ℕ → Option Occurrences) where
  abbrev told : List ℕ → Option (List ℕ × Occurrences)
  told t = option_map (λ s. (t, s)) (f t)

  found_told : (ts : Texts) (q : List ℕ) → found q (filter_map told ts) ≡ cond (list_any (same_text q) ts) (f q) None
  found_told [] q = refl
  found_told (t ∷ ts) q = go (f t) refl (cases_Bool (same_text q t)) (found_told ts q)
    where
      missing : (b : Bool) → f q ≡ None → cond b (f q) None ≡ f q
      missing true none = refl
      missing false none = sym none

      go : (o : Option Occurrences) → f t ≡ o → (same_text q t ≡ true) ⊎ (same_text q t ≡ false)
          → found q (filter_map told ts) ≡ cond (list_any (same_text q) ts) (f q) None
          → found q (cons_option (option_map (λ s. (t, s)) o) (filter_map told ts))
          ≡ cond (same_text q t || list_any (same_text q) ts) (f q) None
      go None is (inl same) rest =
          rest ∙ missing (list_any (same_text q) ts) (ap f (same_text_is q t same) ∙ is)
          ∙ sym (ap (λ b. cond (b || list_any (same_text q) ts) (f q) None) same)
      go None is (inr other) rest = rest ∙ sym (ap (λ b. cond (b || list_any (same_text q) ts) (f q) None) other)
      go (Some s) is (inl same) rest =
          ap (λ b. cond b (Some s) (found q (filter_map told ts))) same ∙ sym (ap f (same_text_is q t same) ∙ is)
          ∙ sym (ap (λ b. cond (b || list_any (same_text q) ts) (f q) None) same)
      go (Some s) is (inr other) rest =
          ap (λ b. cond b (Some s) (found q (filter_map told ts))) other ∙ rest
          ∙ sym (ap (λ b. cond (b || list_any (same_text q) ts) (f q) None) other)

  pub sorted-rows : (ts : Texts) → IsSorted (rows_by f ts)
  unfolding rows_by
  sorted-rows ts = table.entries_sorted (table.from_entries {R = row_cmp} (filter_map told ts))

  found-rows : (ts : Texts) (q : List ℕ) → found q (rows_by f ts) ≡ cond (list_any (same_text q) ts) (f q) None
  unfolding rows_by
  found-rows ts q =
      sym (table.get-entries (table.from_entries {R = row_cmp} (filter_map told ts)) q)
      ∙ table.get-from_entries row_cmp_total (filter_map told ts) q ∙ found_told ts q

  -- if nothing is said of other texts, what is found is what is said
  pub rows_say : (ts : Texts) (q : List ℕ) → (list_any (same_text q) ts ≡ false → f q ≡ None)
      → found q (rows_by f ts) ≡ f q
  rows_say ts q others = found-rows ts q ∙ go (cases_Bool (list_any (same_text q) ts))
    where
      go : (list_any (same_text q) ts ≡ true) ⊎ (list_any (same_text q) ts ≡ false)
          → cond (list_any (same_text q) ts) (f q) None ≡ f q
      go (inl some) = ap (λ b. cond b (f q) None) some
      go (inr none) = ap (λ b. cond b (f q) None) none ∙ sym (others none)

-- ---- how often

pub how_often_push : (ts : Texts) (t q : List ℕ) → how_often q (ts ++ t ∷ []) ≡ how_often q ts + one_if (same_text q t)
how_often_push [] t q = sum_by-cons (λ y. cond (same_text q y) 1 0) t [] ∙ swap (cond (same_text q t) 1 0)
  where
    swap : (n : ℕ) → n + how_often q [] ≡ how_often q [] + n
    swap n = omega arith
how_often_push (x ∷ xs) t q =
    let whole = sum_by-cons (λ y. cond (same_text q y) 1 0) x (xs ++ t ∷ []) in
    let part = sum_by-cons (λ y. cond (same_text q y) 1 0) x xs in
    let rest = how_often_push xs t q in
    omega (arith, whole, part, rest)

pub same_itself : (q : List ℕ) → same_text q q ≡ true
same_itself q = ap is_eq (tied_itself row_cmp_total q)
