-- Counting texts one after another gives how often each occurs.
use Rattle.std.specs.Prelude.{◌≡◌, ℕ, ◌+◌, Bool, true, false, cond, T, ◌&&◌, ◌||◌, List, [], ◌∷◌, ◌++◌, map, Some, None}
use Rattle.std.specs.Prelude.{◌⊎◌, refl}
use Rattle.std.proofs.Common.{sym, ap, ◌∙◌, inl, inr, arith}
use Rattle.std.specs.declared.cmp.Ordering.{Ordering}
use Rattle.std.specs.declared.cmp.Ordering.TheVariants.{Less, Equal, Greater}
use Rattle.std.specs.Ordering.{eq_by_cmp, is_eq, is_lt, match_ordering}
use Rattle.std.specs.Cmp.{IsTotalOrder}
use Rattle.std.specs.Cmp.Lexicographic.{nat_list_cmp_total}
use Rattle.std.specs.Option.{unwrap_or}
use Rattle.std.specs.List.{list_any}
use Rattle.std.proofs.lemmas.Bool.{false≢true, cases_Bool, or_left, or_right, or_from, or_parts}
use Rattle.std.proofs.lemmas.List.Sums.{sum_by-cons}
use Rattle.std.proofs.lemmas.List.Folds.{list_any-append}
use Rattle.std.proofs.lemmas.Cmp.{tied_itself}
use Rattle.std.specs.FinMap as table
use Rattle.std.specs.FinMap.{nat_cmp-IsAntisymmetric, slice_cmp-IsAntisymmetric}
use Rattle.life_census.specs.Counting.{row_cmp, how_often, occurrences_of}
use Rattle.life_census.specs.CountingState.{one_more}

abbrev pub Texts : Type 0
Texts = List (List ℕ)

abbrev pub same_text : List ℕ → List ℕ → Bool
same_text = eq_by_cmp row_cmp

pub row_cmp_total : IsTotalOrder row_cmp
row_cmp_total = nat_list_cmp_total

pub row_cmp_exact : (a b : List ℕ) → row_cmp a b ≡ Equal → a ≡ b
row_cmp_exact = slice_cmp-IsAntisymmetric nat_cmp-IsAntisymmetric

pub same_text_is : (a b : List ℕ) → same_text a b ≡ true → a ≡ b
same_text_is a b h = row_cmp_exact a b (go (row_cmp a b) h)
  where
    go : (o : Ordering) → is_eq o ≡ true → o ≡ Equal
    go Less e = absurd (false≢true e)
    go Equal e = refl
    go Greater e = absurd (false≢true e)

-- what the table of a list answers
find_counted : (f : List ℕ → ℕ) (ts : Texts) (q : List ℕ)
    → table.find row_cmp q (map (λ t. (t, f t)) ts) ≡ cond (list_any (same_text q) ts) (Some (f q)) None
find_counted f [] q = refl
find_counted f (t ∷ ts) q = elim (cases_Bool (same_text q t)) [
  | inl same ↦
      ap (λ b. cond b (Some (f t)) (table.find row_cmp q (map (λ t. (t, f t)) ts))) same
      ∙ ap (λ s. Some (f s)) (sym (same_text_is q t same))
      ∙ sym (ap (λ b. cond (b || list_any (same_text q) ts) (Some (f q)) None) same)
  | inr other ↦
      ap (λ b. cond b (Some (f t)) (table.find row_cmp q (map (λ t. (t, f t)) ts))) other ∙ find_counted f ts q
      ∙ sym (ap (λ b. cond (b || list_any (same_text q) ts) (Some (f q)) None) other)
]

how_often_push : (ts : Texts) (t q : List ℕ) → how_often q (ts ++ t ∷ []) ≡ how_often q ts + cond (same_text q t) 1 0
how_often_push [] t q = sum_by-cons (λ y. cond (same_text q y) 1 0) t [] ∙ swap (cond (same_text q t) 1 0)
  where
    swap : (n : ℕ) → n + how_often q [] ≡ how_often q [] + n
    swap n = omega arith
how_often_push (x ∷ xs) t q =
    let whole = sum_by-cons (λ y. cond (same_text q y) 1 0) x (xs ++ t ∷ []) in
    let part = sum_by-cons (λ y. cond (same_text q y) 1 0) x xs in
    let rest = how_often_push xs t q in
    omega (arith, whole, part, rest)

abbrev pub one_if : Bool → ℕ
one_if b = cond b 1 0

pub how_often_none : (ts : Texts) (q : List ℕ) → list_any (same_text q) ts ≡ false → how_often q ts ≡ 0
how_often_none [] q none = refl
how_often_none (x ∷ xs) q none =
    let both = or_parts (same_text q x) (list_any (same_text q) xs) none in
    let whole = sum_by-cons (λ y. cond (same_text q y) 1 0) x xs in
    let nothing = ap one_if both.0 in
    let rest = how_often_none xs q both.1 in
    omega (arith, whole, nothing, rest)

-- ---- one more is an insertion into a sorted table

abbrev times : List (List ℕ × ℕ) → List ℕ → ℕ
times es t = unwrap_or (table.find row_cmp t es) 0

pub both_T : (a b : Bool) → T (a && b) → T a × T b
both_T true b h = (tt, h)
both_T false b h = absurd h

pub less_T : (o : Ordering) → T (is_lt o) → o ≡ Less
less_T Less h = refl
less_T Equal h = absurd h
less_T Greater h = absurd h

-- nothing is found below the first of a sorted table
pub none_below : (t : List ℕ) (e : List ℕ × ℕ) (es : List (List ℕ × ℕ)) → row_cmp t e.0 ≡ Less
    → T (table.is_sorted row_cmp (e ∷ es)) → table.find row_cmp t (e ∷ es) ≡ None
none_below t e [] less sorted = ap (λ o. cond (is_eq o) (Some e.1) None) less
none_below t e (f ∷ fs) less sorted =
    let both = both_T _ _ sorted in
    let first = both_T _ _ both.0 in
    ap (λ o. cond (is_eq o) (Some e.1) (table.find row_cmp t (f ∷ fs))) less
    ∙ none_below t f fs (row_cmp_total.trans t e.0 f.0 less (less_T _ first.0)) both.1

one_more_put : (es : List (List ℕ × ℕ)) (t : List ℕ) (v : ℕ) → T (table.is_sorted row_cmp es)
    → v ≡ times es t + 1 → table.put row_cmp t v es ≡ one_more es t
one_more_put [] t v sorted is = ap (λ n. (t, n) ∷ []) is
one_more_put (e ∷ es) t v sorted is =
    go (row_cmp t e.0) refl (λ later. one_more_put es t v (both_T _ _ sorted).1 (is ∙ later))
  where
    go : (o : Ordering) → row_cmp t e.0 ≡ o
        → (times (e ∷ es) t + 1 ≡ times es t + 1 → table.put row_cmp t v es ≡ one_more es t)
        → table.put row_cmp t v (e ∷ es) ≡ one_more (e ∷ es) t
    go Less h rest =
        let one : v ≡ 1 = is ∙ ap (λ found. unwrap_or found 0 + 1) (none_below t e es h sorted) in
        ap (λ o. match_ordering o ((t, v) ∷ e ∷ es) ((e.0, v) ∷ es) (e ∷ table.put row_cmp t v es)) h
        ∙ ap (λ n. (t, n) ∷ e ∷ es) one
        ∙ sym (ap (λ o. match_ordering o ((t, 1) ∷ e ∷ es) ((e.0, e.1 + 1) ∷ es) (e ∷ one_more es t)) h)
    go Equal h rest =
        let more : v ≡ e.1 + 1 = is ∙ ap
        (λ o. unwrap_or (cond (is_eq o) (Some e.1) (table.find row_cmp t es)) 0 + 1) h in
        ap (λ o. match_ordering o ((t, v) ∷ e ∷ es) ((e.0, v) ∷ es) (e ∷ table.put row_cmp t v es)) h
        ∙ ap (λ n. (e.0, n) ∷ es) more
        ∙ sym (ap (λ o. match_ordering o ((t, 1) ∷ e ∷ es) ((e.0, e.1 + 1) ∷ es) (e ∷ one_more es t)) h)
    go Greater h rest =
        let later : times (e ∷ es) t + 1 ≡ times es t + 1 =
        ap (λ o. unwrap_or (cond (is_eq o) (Some e.1) (table.find row_cmp t es)) 0 + 1) h in
        ap (λ o. match_ordering o ((t, v) ∷ e ∷ es) ((e.0, v) ∷ es) (e ∷ table.put row_cmp t v es)) h
        ∙ ap (λ fs. e ∷ fs) (rest later)
        ∙ sym (ap (λ o. match_ordering o ((t, 1) ∷ e ∷ es) ((e.0, e.1 + 1) ∷ es) (e ∷ one_more es t)) h)

-- ---- one text more in the list

abbrev pub table_of : Texts → table.FinMap row_cmp ℕ
table_of ts = table.from_entries {R = row_cmp} (map (λ t. (t, how_often t ts)) ts)

pub get_counted : (ts : Texts) (q : List ℕ)
    → table.get (table_of ts) q ≡ cond (list_any (same_text q) ts) (Some (how_often q ts)) None
get_counted ts q =
    table.get-from_entries row_cmp_total (map (λ t. (t, how_often t ts)) ts) q ∙ find_counted (λ t. how_often t ts) ts q

times_counted : (ts : Texts) (q : List ℕ) → times (table.entries (table_of ts)) q ≡ how_often q ts
times_counted ts q =
    ap (λ found. unwrap_or found 0) (sym (table.get-entries (table_of ts) q) ∙ get_counted ts q)
    ∙ elim (cases_Bool (list_any (same_text q) ts)) [
      | inl some ↦ ap (λ b. unwrap_or (cond b (Some (how_often q ts)) None) 0) some
      | inr none ↦ ap (λ b. unwrap_or (cond b (Some (how_often q ts)) None) 0) none ∙ sym (how_often_none ts q none)
    ]

table_push : (ts : Texts) (t : List ℕ)
    → table_of (ts ++ t ∷ []) ≡ table.insert (table_of ts) t (times (table.entries (table_of ts)) t + 1)
table_push ts t = table.same_map row_cmp_total row_cmp_exact _ _ (λ q.
    get_counted (ts ++ t ∷ []) q ∙ split q (cases_Bool (same_text q t))
    ∙ sym (table.get-insert row_cmp_total (table_of ts) t (times (table.entries (table_of ts)) t + 1) q))
  where
    split : (q : List ℕ) → (same_text q t ≡ true) ⊎ (same_text q t ≡ false)
        → cond (list_any (same_text q) (ts ++ t ∷ [])) (Some (how_often q (ts ++ t ∷ []))) None
        ≡ cond (same_text q t) (Some (times (table.entries (table_of ts)) t + 1)) (table.get (table_of ts) q)
    split q (inl same) =
        let there : list_any (same_text q) (ts ++ t ∷ []) ≡ true = list_any-append (same_text q) ts (t ∷ [])
        ∙ or_right _ _ (or_left _ _ same) in
        let count : how_often q (ts ++ t ∷ []) ≡ how_often q ts + 1 = how_often_push ts t q
        ∙ ap (λ b. how_often q ts + one_if b) same in
        let before : times (table.entries (table_of ts)) t ≡ how_often q ts = times_counted ts t
        ∙ ap (λ s. how_often s ts) (sym (same_text_is q t same)) in
        (λ i. cond (there i) (Some (count i)) None) ∙ (λ i. Some (sym before i + 1))
        ∙ sym (ap (λ b. cond b (Some (times (table.entries (table_of ts)) t + 1)) (table.get (table_of ts) q)) same)
    split q (inr other) =
        let there : list_any (same_text q) (ts ++ t ∷ []) ≡ list_any (same_text q) ts =
        list_any-append (same_text q) ts (t ∷ []) ∙ ap (λ b. list_any (same_text q) ts || b) (or_from _ _ other refl)
        ∙ or-false (list_any (same_text q) ts) in
        let count : how_often q (ts ++ t ∷ []) ≡ how_often q ts = how_often_push ts t q
        ∙ ap (λ b. how_often q ts + one_if b) other ∙ nothing (how_often q ts) in
        (λ i. cond (there i) (Some (count i)) None) ∙ sym (get_counted ts q)
        ∙ sym (ap (λ b. cond b (Some (times (table.entries (table_of ts)) t + 1)) (table.get (table_of ts) q)) other)
      where
        nothing : (n : ℕ) → n + 0 ≡ n
        nothing n = omega arith

        or-false : (b : Bool) → (b || false) ≡ b
        or-false true = refl
        or-false false = refl

pub counts_push : (ts : Texts) (t : List ℕ) → occurrences_of (ts ++ t ∷ []) ≡ one_more (occurrences_of ts) t
unfolding occurrences_of
counts_push ts t =
    ap table.entries (table_push ts t)
    ∙ table.entries-insert row_cmp_total (table_of ts) t (times (table.entries (table_of ts)) t + 1)
    ∙ one_more_put (table.entries (table_of ts)) t (times (table.entries (table_of ts)) t + 1)
    (table.entries_sorted (table_of ts)) refl

pub counts_none : occurrences_of [] ≡ []
unfolding occurrences_of
counts_none = go (table.entries (table_of [])) (λ q. sym (table.get-entries (table_of []) q) ∙ get_counted [] q)
  where
    go : (es : List (List ℕ × ℕ)) → ((q : List ℕ) → table.find row_cmp q es ≡ None) → es ≡ []
    go [] h = refl
    go (e ∷ es) h =
        absurd (no_entry
        (sym (ap (λ o. cond (is_eq o) (Some e.1) (table.find row_cmp e.0 es)) (tied_itself row_cmp_total e.0)) ∙ h e.0))
      where
        no_entry : Some e.1 ≡ None → ⊥
        no_entry k = cc
