-- A haul from the tallies of its soups.
use Rattle.std.specs.Prelude.{◌≡◌, ◌⊎◌, ℕ, zero, suc, ◌+◌, true, false, cond, List, [], ◌∷◌, ◌++◌, map, length, sum_by}
use Rattle.std.specs.Prelude.{count_by, is_none, Option, None, Some, refl}
use Rattle.std.proofs.Common.{sym, ap, subst, ◌∙◌, inl, inr, arith}
use Rattle.std.specs.declared.cmp.Ordering.{Ordering}
use Rattle.std.specs.declared.cmp.Ordering.TheVariants.{Less, Equal, Greater}
use Rattle.std.specs.Ordering.{is_eq, match_ordering}
use Rattle.std.specs.Option.{unwrap_or}
use Rattle.std.specs.List.{AllByRecursion, filter_map, cons_option, list_any, range_with_len}
use Rattle.std.specs.List.Sorted.{IsStrictlySortedBy}
use Rattle.std.specs.FinMap as table
use Rattle.std.proofs.lemmas.Bool.{cases_Bool}
use Rattle.std.proofs.lemmas.List.{length-map}
use Rattle.std.proofs.lemmas.List.Sums.{sum_by-cons}
use Rattle.life_core.specs.Generations.{generation_of}
use Rattle.life_core.specs.Pattern.{Cells}
use Rattle.life_core.specs.Rule.{RuleSets}
use Rattle.life_code.specs.Codes.{code_of}
use Rattle.life_census.specs.Cluster.{clusters_of}
use Rattle.life_census.specs.Counting.{row_cmp, how_often, occurrences_of}
use Rattle.life_census.proofs.CountingLaws.{Texts, same_text, row_cmp_total, both_T, less_T, table_of, get_counted}
use Rattle.life_census.proofs.CountingLaws.{how_often_none}
use Rattle.life_hauls.specs.declared.haul_rows.Occurrences.{Occurrences}
use Rattle.life_hauls.specs.Hauls.{HaulCounts, seen, more, both, texts_in, counts_over, soup_codes}
use Rattle.life_hauls.specs.HaulsState.{once, noted, with_code, with_codes}
use Rattle.life_hauls.specs.HaulLaws.{count_of, count_in, soup_tally, RowsAreOfTallies, RowsAscend}
use Rattle.life_hauls.specs.HaulLaws.{UnresolvedAreOfTallies}
use Rattle.life_hauls.specs.HaulLaws.{ClustersCountOnce, SumsAreCounts}
use Rattle.life_hauls.specs.declared.symmetry.Symmetry.{Symmetry}
use Rattle.life_hauls.specs.Soups.{soup_of}
use Rattle.life_hauls.proofs.HaulRows.{Rows, IsSorted, found}
use Rattle.life_hauls.proofs.PushLemmas.{found-over, sorted-haul, sorted-more, counts-push, no-soups}
use Rattle.life_hauls.proofs.HaulRowLemmas.{none_below}

-- ---- one tally

module _ (code : Cells → Option (List ℕ)) where
  texts-map : (Ps : List Cells) → texts_in (map code Ps) ≡ filter_map code Ps
  texts-map [] = refl
  texts-map (P ∷ Ps) = ap (cons_option (code P)) (texts-map Ps)

  nameless-map : (Ps : List Cells) → count_by is_none (map code Ps) ≡ count_by (λ P. is_none (code P)) Ps
  nameless-map [] = refl
  nameless-map (P ∷ Ps) =
      let whole = sum_by-cons (λ (o : Option (List ℕ)). cond (is_none o) 1 0) (code P) (map code Ps) in
      let part = sum_by-cons (λ (Q : Cells). cond (is_none (code Q)) 1 0) P Ps in
      let rest = nameless-map Ps in
      whole ∙ ap (λ n. cond (is_none (code P)) 1 0 + n) rest ∙ sym part

counted : (ts : Texts) (q : List ℕ) → how_often q ts ≡ unwrap_or (table.find row_cmp q (occurrences_of ts)) 0
unfolding occurrences_of
counted ts q =
    go (cases_Bool (list_any (same_text q) ts))
    ∙ ap (λ (o : Option ℕ). unwrap_or o 0) (sym (get_counted ts q) ∙ table.get-entries (table_of ts) q)
  where
    go : (list_any (same_text q) ts ≡ true) ⊎ (list_any (same_text q) ts ≡ false)
        → how_often q ts ≡ unwrap_or (cond (list_any (same_text q) ts) (Some (how_often q ts)) None) 0
    go (inl some) = sym (ap (λ b. unwrap_or (cond b (Some (how_often q ts)) None) 0) some)
    go (inr none) = how_often_none ts q none ∙ sym (ap (λ b. unwrap_or (cond b (Some (how_often q ts)) None) 0) none)

-- ---- the rows

module _ (s : Symmetry) (root : List ℕ) (rule : RuleSets) (n limit : ℕ) where
  abbrev code : Cells → Option (List ℕ)
  code P = code_of rule P limit

  abbrev field_parts : ℕ → List Cells
  field_parts i = clusters_of (generation_of rule (soup_of s root i) n)

  times_in_tally : (q : List ℕ) (i : ℕ)
      → how_often q (texts_in (soup_codes s root rule n limit i)) ≡ count_in q (soup_tally s root rule n limit i)
  times_in_tally q i = ap (how_often q) (texts-map code (field_parts i)) ∙ counted (filter_map code (field_parts i)) q

  rows_of_tallies : (q : List ℕ) (ns : List ℕ) → found q (counts_over (soup_codes s root rule n limit) ns).rows
      ≡ seen (λ i. count_in q (soup_tally s root rule n limit i)) ns
  unfolding counts_over
  rows_of_tallies q ns =
      found-over (λ i. texts_in (soup_codes s root rule n limit i)) ns q
      ∙ ap (λ (f : ℕ → ℕ). seen f ns) (λ k i. times_in_tally q i k)

  unresolved_of_tallies : (ns : List ℕ) → (counts_over (soup_codes s root rule n limit) ns).unresolved
      ≡ seen (λ i. (soup_tally s root rule n limit i).unresolved) ns
  unfolding counts_over
  unresolved_of_tallies ns = ap (λ (f : ℕ → ℕ). seen f ns) (λ k i. nameless-map code (field_parts i) k)

  total_of_tallies : (ns : List ℕ) → (counts_over (soup_codes s root rule n limit) ns).total
      ≡ sum_by (λ i. (soup_tally s root rule n limit i).total) ns
  unfolding counts_over
  total_of_tallies ns = ap (λ (f : ℕ → ℕ). sum_by f ns) (λ k i. length-map (field_parts i) code k)

pub rows_are_of_tallies : RowsAreOfTallies
rows_are_of_tallies s root rule n limit first count q =
    rows_of_tallies s root rule n limit q (range_with_len first count)

pub unresolved_are_of_tallies : UnresolvedAreOfTallies
unresolved_are_of_tallies s root rule n limit first count =
    unresolved_of_tallies s root rule n limit (range_with_len first count)

-- ---- the order

abbrev code_of_row : List ℕ × Occurrences → List ℕ
code_of_row row = row.0

above : (k : List ℕ) (e : List ℕ × Occurrences) (es : Rows) → row_cmp k e.0 ≡ Less → IsSorted (e ∷ es)
    → AllByRecursion (λ l. row_cmp k l ≡ Less) (map code_of_row (e ∷ es))
above k e [] less sorted = (less, tt)
above k e (f ∷ fs) less sorted =
    let both = both_T _ _ sorted in
    let first = both_T _ _ both.0 in
    (less, above k f fs (row_cmp_total.trans k e.0 f.0 less (less_T _ first.0)) both.1)

ascend : (es : Rows) → IsSorted es → IsStrictlySortedBy row_cmp (map code_of_row es)
unfolding IsStrictlySortedBy
ascend [] sorted = tt
ascend (e ∷ []) sorted = (tt, tt)
ascend (e ∷ f ∷ fs) sorted =
    let both = both_T _ _ sorted in
    let first = both_T _ _ both.0 in
    (above e.0 f fs (less_T _ first.0) both.1, ascend (f ∷ fs) both.1)

pub rows_ascend : RowsAscend
rows_ascend s root rule n limit first count =
    ascend (counts_over (soup_codes s root rule n limit) (range_with_len first count)).rows
    (sorted-haul (soup_codes s root rule n limit) (range_with_len first count))

-- ---- each cluster once

abbrev all_in : Rows → ℕ
all_in es = sum_by (λ (e : List ℕ × Occurrences). e.1.count) es

sorted_rest : (e : List ℕ × Occurrences) (es : Rows) → IsSorted (e ∷ es) → IsSorted es
sorted_rest e [] sorted = tt
sorted_rest e (f ∷ fs) sorted = (both_T _ _ sorted).1

module _ (i : ℕ) (t : List ℕ) where
  abbrev put_one : Rows → Option Occurrences → Rows
  put_one es o = table.put row_cmp t (more o (once i)) es

  all-noted : (es : Rows) → IsSorted es → all_in (noted i es t) ≡ all_in es + 1
  all-noted [] sorted = let a = sum_by-cons (λ (e : List ℕ × Occurrences). e.1.count) (t, once i) [] in omega (arith, a)
  all-noted (e ∷ es) sorted = go (row_cmp t e.0) refl (all-noted es (sorted_rest e es sorted))
    where
      spread : (o : Ordering) → row_cmp t e.0 ≡ o → (v : Option Occurrences) → found t (e ∷ es) ≡ v
          → noted i (e ∷ es) t ≡ match_ordering o ((t, more v (once i)) ∷ e ∷ es) ((e.0, more v (once i)) ∷ es)
          (e ∷ table.put row_cmp t (more v (once i)) es)
      spread o is v here =
          ap (put_one (e ∷ es)) here
          ∙ ap (λ p. match_ordering p ((t, more v (once i)) ∷ e ∷ es) ((e.0, more v (once i)) ∷ es)
          (e ∷ table.put row_cmp t (more v (once i)) es)) is

      go : (o : Ordering) → row_cmp t e.0 ≡ o → all_in (noted i es t) ≡ all_in es + 1
          → all_in (noted i (e ∷ es) t) ≡ all_in (e ∷ es) + 1
      go Less is rest =
          let made = spread Less is None (none_below t e es is sorted) in
          let a = sum_by-cons (λ (x : List ℕ × Occurrences). x.1.count) (t, once i) (e ∷ es) in
          ap all_in made ∙ a ∙ turn (all_in (e ∷ es))
        where
          turn : (k : ℕ) → 1 + k ≡ k + 1
          turn k = omega arith
      go Equal is rest =
          let made = spread Equal is (Some e.1) (ap (λ o. cond (is_eq o) (Some e.1) (found t es)) is) in
          let a = sum_by-cons (λ (x : List ℕ × Occurrences). x.1.count) (e.0, both e.1 (once i)) es in
          let b = sum_by-cons (λ (x : List ℕ × Occurrences). x.1.count) e es in
          let sum : (e.1.count + 1) + all_in es ≡ all_in (e ∷ es) + 1 = omega (arith, b) in
          ap all_in made ∙ a ∙ sum
      go Greater is rest =
          let made = spread Greater is (found t es) (ap (λ o. cond (is_eq o) (Some e.1) (found t es)) is) in
          let a = sum_by-cons (λ (x : List ℕ × Occurrences). x.1.count) e (noted i es t) in
          let b = sum_by-cons (λ (x : List ℕ × Occurrences). x.1.count) e es in
          let sum : e.1.count + all_in (noted i es t) ≡ all_in (e ∷ es) + 1 = omega (arith, b, rest) in
          ap all_in made ∙ a ∙ sum

-- the counts add up to the total
abbrev AddsUp : HaulCounts → Type 0
AddsUp h = all_in h.rows + count_of h.unresolved ≡ h.total

one_unresolved : (u : Option Occurrences) (i : ℕ) → count_of (Some (more u (once i))) ≡ count_of u + 1
one_unresolved None i = refl
one_unresolved (Some s) i = refl

one_adds_up : (i : ℕ) (h : HaulCounts) (o : Option (List ℕ)) → IsSorted h.rows → AddsUp h → AddsUp (with_code i h o)
one_adds_up i h None sorted adds = let one = one_unresolved h.unresolved i in omega (arith, one, adds)
one_adds_up i h (Some t) sorted adds = let one = all-noted i t h.rows sorted in omega (arith, one, adds)

codes_add_up : (i : ℕ) (os : List (Option (List ℕ))) (h : HaulCounts) → IsSorted h.rows → AddsUp h
    → AddsUp (with_codes i h os)
codes_add_up i [] h sorted adds = adds
codes_add_up i (o ∷ os) h sorted adds =
    codes_add_up i os (with_code i h o) (sorted-more i h o sorted) (one_adds_up i h o sorted adds)

module _ (codes : ℕ → List (Option (List ℕ))) where
  push_adds_up : (ms : List ℕ) (i : ℕ) → AddsUp (counts_over codes ms) → AddsUp (counts_over codes (ms ++ i ∷ []))
  push_adds_up ms i adds =
      subst AddsUp (counts-push codes ms i)
      (codes_add_up i (codes i) (counts_over codes ms) (sorted-haul codes ms) adds)

  all_add_up : (ns ms : List ℕ) → AddsUp (counts_over codes ms) → AddsUp (counts_over codes (ms ++ ns))
  all_add_up [] ms adds = subst (λ ks. AddsUp (counts_over codes ks)) (sym (ending ms)) adds
    where
      ending : (ks : List ℕ) → ks ++ [] ≡ ks
      ending [] = refl
      ending (k ∷ ks) = ap (λ js. k ∷ js) (ending ks)
  all_add_up (n ∷ ns) ms adds =
      subst (λ ks. AddsUp (counts_over codes ks)) (shift ms) (all_add_up ns (ms ++ n ∷ []) (push_adds_up ms n adds))
    where
      shift : (ks : List ℕ) → (ks ++ n ∷ []) ++ ns ≡ ks ++ n ∷ ns
      shift [] = refl
      shift (k ∷ ks) = ap (λ js. k ∷ js) (shift ks)

  hauls_are_complete : (ns : List ℕ) → AddsUp (counts_over codes ns)
  hauls_are_complete ns = all_add_up ns [] (subst AddsUp (sym (no-soups codes)) refl)

pub clusters_count_once : ClustersCountOnce
clusters_count_once s root rule n limit first count =
    let total = total_of_tallies s root rule n limit (range_with_len first count) in
    (hauls_are_complete (soup_codes s root rule n limit) (range_with_len first count) ∙ total, total)

-- ---- the sums of a table

range_length : (first count : ℕ) → length (range_with_len first count) ≡ count
range_length first zero = refl
range_length first (suc count) = let rest = range_length (first + 1) count in omega (arith, rest)

pub sums_are_counts : SumsAreCounts
unfolding counts_over
sums_are_counts s root rule n limit first count = (
  sym (hauls_are_complete (soup_codes s root rule n limit) (range_with_len first count)),
  range_length first count,
)
