-- The rows of a tally and their order.
use Rattle.std.specs.Prelude.{◌≡◌, ℕ, ◌+◌, ◌≤◌, Bool, true, false, cond, T, List, [], ◌∷◌, map, Some, None, ◌⊎◌, refl}
use Rattle.std.proofs.Common.{sym, ap, ◌∙◌, inl, inr, subst, arith}
use Rattle.std.specs.declared.cmp.Ordering.{Ordering}
use Rattle.std.specs.declared.cmp.Ordering.TheVariants.{Less, Equal, Greater}
use Rattle.std.specs.Ordering.{is_eq}
use Rattle.std.specs.List.{AllByRecursion, list_any}
use Rattle.std.specs.List.Sorted.{IsStrictlySortedBy}
use Rattle.std.proofs.lemmas.Bool.{or_cases}
use Rattle.std.proofs.lemmas.List.Sums.{sum_by-cons}
use Rattle.std.proofs.lemmas.Cmp.{tied_itself}
use Rattle.std.specs.FinMap as table
use Rattle.life_code.proofs.ApartUnions.{IsIn, in_from_contains}
use Rattle.life_census.specs.Counting.{row_cmp, how_often, occurrences_of}
use Rattle.life_census.specs.CensusLaws.{RowsAreCounts, RowsAscend}
use Rattle.life_census.proofs.ClusterLaws.{contains_from_in}
use Rattle.life_census.proofs.CountingLaws.{Texts, same_text, same_text_is, row_cmp_total, row_cmp_exact}
use Rattle.life_census.proofs.CountingLaws.{how_often_none, both_T, less_T, none_below, table_of, get_counted, one_if}

abbrev Rows : Type 0
Rows = List (List ℕ × ℕ)

-- ---- what is found is a row

found_in : (es : Rows) (t : List ℕ) (n : ℕ) → table.find row_cmp t es ≡ Some n → IsIn es (t, n)
found_in [] t n h = cc
found_in (e ∷ es) t n h = go (same_text t e.0) refl h (found_in es t n)
  where
    go : (b : Bool) → same_text t e.0 ≡ b → cond b (Some e.1) (table.find row_cmp t es) ≡ Some n
        → (table.find row_cmp t es ≡ Some n → IsIn es (t, n)) → (e ≡ (t, n)) ⊎ IsIn es (t, n)
    go true same found rest = let count : e.1 ≡ n = cc in inl (λ i. (sym (same_text_is t e.0 same) i, count i))
    go false other found rest = inr (rest found)

-- ---- a row is found

-- nothing is found after a row with a greater code ..
none_below_rest : (t : List ℕ) (e : List ℕ × ℕ) (es : Rows) → row_cmp t e.0 ≡ Less
    → T (table.is_sorted row_cmp (e ∷ es)) → table.find row_cmp t es ≡ None
none_below_rest t e es less sorted =
    sym (ap (λ o. cond (is_eq o) (Some e.1) (table.find row_cmp t es)) less) ∙ none_below t e es less sorted

-- .. or after the row of the code itself
none_behind : (t : List ℕ) (e : List ℕ × ℕ) (es : Rows) → row_cmp t e.0 ≡ Equal → T (table.is_sorted row_cmp (e ∷ es))
    → table.find row_cmp t es ≡ None
none_behind t e [] same sorted = refl
none_behind t e (f ∷ fs) same sorted =
    let both = both_T _ _ sorted in
    let first = both_T _ _ both.0 in
    none_below t f fs (ap (λ u. row_cmp u f.0) (row_cmp_exact t e.0 same) ∙ less_T _ first.0) both.1

none_is_none : (n : ℕ) → None ≡ Some n → ⊥
none_is_none n h = cc

sorted_rest : (e : List ℕ × ℕ) (es : Rows) → T (table.is_sorted row_cmp (e ∷ es)) → T (table.is_sorted row_cmp es)
sorted_rest e [] sorted = tt
sorted_rest e (f ∷ fs) sorted = (both_T _ _ sorted).1

in_found : (es : Rows) (t : List ℕ) (n : ℕ) → T (table.is_sorted row_cmp es) → IsIn es (t, n)
    → table.find row_cmp t es ≡ Some n
in_found [] t n sorted h = absurd h
in_found (e ∷ es) t n sorted h = elim h [
  | inl same ↦
      let tie : same_text t e.0 ≡ true = ap (λ (p : List ℕ × ℕ). same_text t p.0) same
      ∙ ap is_eq (tied_itself row_cmp_total t) in
      ap (λ b. cond b (Some e.1) (table.find row_cmp t es)) tie ∙ ap (λ (p : List ℕ × ℕ). Some p.1) same
  | inr later ↦ go (row_cmp t e.0) refl (in_found es t n (sorted_rest e es sorted) later)
]
  where
    go : (o : Ordering) → row_cmp t e.0 ≡ o → table.find row_cmp t es ≡ Some n → table.find row_cmp t (e ∷ es) ≡ Some n
    go Less is found = absurd (none_is_none n (sym (none_below_rest t e es is sorted) ∙ found))
    go Equal is found = absurd (none_is_none n (sym (none_behind t e es is sorted) ∙ found))
    go Greater is found = ap (λ o. cond (is_eq o) (Some e.1) (table.find row_cmp t es)) is ∙ found

-- ---- how often

how_often_some : (ts : Texts) (q : List ℕ) → list_any (same_text q) ts ≡ true → 1 ≤ how_often q ts
how_often_some [] q some = cc
how_often_some (x ∷ xs) q some = elim (or_cases (same_text q x) (list_any (same_text q) xs) some) [
  | inl here ↦ first (ap one_if here) (sum_by-cons (λ y. cond (same_text q y) 1 0) x xs)
  | inr there ↦ rest (how_often_some xs q there) (sum_by-cons (λ y. cond (same_text q y) 1 0) x xs)
]
  where
    first : one_if (same_text q x) ≡ 1 → how_often q (x ∷ xs) ≡ one_if (same_text q x) + how_often q xs
        → 1 ≤ how_often q (x ∷ xs)
    first one whole = omega (arith, one, whole)

    rest : 1 ≤ how_often q xs → how_often q (x ∷ xs) ≡ one_if (same_text q x) + how_often q xs
        → 1 ≤ how_often q (x ∷ xs)
    rest some whole = omega (arith, some, whole)

found_counted : (ts : Texts) (t : List ℕ)
    → table.find row_cmp t (table.entries (table_of ts)) ≡ cond (list_any (same_text t) ts) (Some (how_often t ts)) None
found_counted ts t = sym (table.get-entries (table_of ts) t) ∙ get_counted ts t

count_of_found : (ts : Texts) (t : List ℕ) (n : ℕ) (b : Bool) → list_any (same_text t) ts ≡ b
    → cond b (Some (how_often t ts)) None ≡ Some n → (n ≡ how_often t ts) × (1 ≤ n)
count_of_found ts t n true some found =
    let is : how_often t ts ≡ n = cc in (sym is, subst (λ k. 1 ≤ k) is (how_often_some ts t some))
count_of_found ts t n false none found = absurd (none_is_none n found)

found_of_count : (ts : Texts) (t : List ℕ) (n : ℕ) (b : Bool) → list_any (same_text t) ts ≡ b
    → n ≡ how_often t ts → 1 ≤ n → cond b (Some (how_often t ts)) None ≡ Some n
found_of_count ts t n true some is low = ap Some (sym is)
found_of_count ts t n false none is low =
    let nothing = how_often_none ts t none in absurd (omega (arith, is, low, nothing))

pub rows_are_counts : RowsAreCounts
unfolding occurrences_of
rows_are_counts ts t n = (
  λ h. count_of_found ts t n (list_any (same_text t) ts) refl
      (sym (found_counted ts t) ∙ in_found (table.entries (table_of ts)) t n (table.entries_sorted (table_of ts))
      (in_from_contains (table.entries (table_of ts)) (t, n) h)),
  λ h. contains_from_in (table.entries (table_of ts)) (t, n) (found_in (table.entries (table_of ts)) t n
      (found_counted ts t ∙ found_of_count ts t n (list_any (same_text t) ts) refl h.0 h.1)),
)

-- ---- the order

abbrev code_of_row : List ℕ × ℕ → List ℕ
code_of_row row = row.0

above : (k : List ℕ) (e : List ℕ × ℕ) (es : Rows) → row_cmp k e.0 ≡ Less → T (table.is_sorted row_cmp (e ∷ es))
    → AllByRecursion (λ l. row_cmp k l ≡ Less) (map code_of_row (e ∷ es))
above k e [] less sorted = (less, tt)
above k e (f ∷ fs) less sorted =
    let both = both_T _ _ sorted in
    let first = both_T _ _ both.0 in
    (less, above k f fs (row_cmp_total.trans k e.0 f.0 less (less_T _ first.0)) both.1)

ascend : (es : Rows) → T (table.is_sorted row_cmp es) → IsStrictlySortedBy row_cmp (map code_of_row es)
unfolding IsStrictlySortedBy
ascend [] sorted = tt
ascend (e ∷ []) sorted = (tt, tt)
ascend (e ∷ f ∷ fs) sorted =
    let both = both_T _ _ sorted in
    let first = both_T _ _ both.0 in
    (above e.0 f fs (less_T _ first.0) both.1, ascend (f ∷ fs) both.1)

pub rows_ascend : RowsAscend
unfolding occurrences_of
rows_ascend ts = ascend (table.entries (table_of ts)) (table.entries_sorted (table_of ts))
