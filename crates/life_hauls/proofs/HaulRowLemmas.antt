-- Where a code belongs among sorted rows.
use Rattle.std.specs.Prelude.{◌≡◌, ◌≢◌, ℕ, zero, suc, ◌<◌, Bool, true, false, cond, List, [], ◌∷◌, map, length}
use Rattle.std.specs.Prelude.{slice_index_or, Option, None, Some, refl}
use Rattle.std.proofs.Common.{sym, ap, subst, ◌∙◌, inl, inr, set, arith}
use Rattle.std.specs.declared.cmp.Ordering.{Ordering}
use Rattle.std.specs.declared.cmp.Ordering.TheVariants.{Less, Equal, Greater}
use Rattle.std.specs.Ordering.{is_eq, is_gt, ordering_reverse, match_ordering}
use Rattle.std.specs.List.{insert}
use Rattle.std.specs.List.Sorted.{IsPartitionedBy}
use Rattle.std.specs.FinMap as table
use Rattle.std.proofs.lemmas.Bool.{false≢true, cases_lt}
use Rattle.std.proofs.lemmas.List.{get_or_default}
use Rattle.life_census.specs.Counting.{row_cmp}
use Rattle.life_census.proofs.CountingLaws.{row_cmp_total, both_T, less_T}
use Rattle.life_hauls.specs.declared.haul_rows.Occurrences.{Occurrences}
use Rattle.life_hauls.specs.declared.haul_rows.HaulRow.{HaulRow}
use Rattle.life_hauls.specs.Hauls.{row_seen, more}
use Rattle.life_hauls.specs.HaulsState.{once, noted, AreBelow, IsRowOf, IsPlaceFor}
use Rattle.life_hauls.proofs.HaulRows.{Rows, IsSorted, found}

sorted_rest : (e : List ℕ × Occurrences) (es : Rows) → IsSorted (e ∷ es) → IsSorted es
sorted_rest e [] sorted = tt
sorted_rest e (f ∷ fs) sorted = (both_T _ _ sorted).1

-- nothing is found below the first of sorted rows
pub none_below : (t : List ℕ) (e : List ℕ × Occurrences) (es : Rows) → row_cmp t e.0 ≡ Less → IsSorted (e ∷ es)
    → found t (e ∷ es) ≡ None
none_below t e [] less sorted = ap (λ o. cond (is_eq o) (Some e.1) None) less
none_below t e (f ∷ fs) less sorted =
    let both = both_T _ _ sorted in
    let first = both_T _ _ both.0 in
    ap (λ o. cond (is_eq o) (Some e.1) (found t (f ∷ fs))) less
    ∙ none_below t f fs (row_cmp_total.trans t e.0 f.0 less (less_T _ first.0)) both.1

-- ---- where a code belongs

-- a row is below each later one
rises : {A : Type 0} (rows : List (HaulRow A)) (i j : ℕ) (d : HaulRow A) → IsSorted (map row_seen rows)
    → i < j → j < length rows → row_cmp (slice_index_or rows i d).code (slice_index_or rows j d).code ≡ Less
rises [] i j d sorted low high = absurd (omega (arith, high))
rises (r ∷ []) i zero d sorted low high = absurd (omega (arith, low))
rises (r ∷ []) i (suc j) d sorted low high = absurd (omega (arith, high))
rises (r ∷ s ∷ rs) i zero d sorted low high = absurd (omega (arith, low))
rises (r ∷ s ∷ rs) zero (suc zero) d sorted low high = less_T _ (both_T _ _ (both_T _ _ sorted).0).0
rises (r ∷ s ∷ rs) zero (suc (suc j)) d sorted low high =
    row_cmp_total.trans r.code s.code (slice_index_or rs j d).code (less_T _ (both_T _ _ (both_T _ _ sorted).0).0)
    (rises (s ∷ rs) zero (suc j) d (both_T _ _ sorted).1 (omega arith) (omega (arith, high)))
rises (r ∷ s ∷ rs) (suc i) (suc j) d sorted low high =
    rises (s ∷ rs) i j d (both_T _ _ sorted).1 (omega (arith, low)) (omega (arith, high))

-- whether a row has a lesser code
abbrev pub below : {A : Type 0} → List ℕ → HaulRow A → Bool
below t r = is_gt (row_cmp t r.code)

pub gt_is_greater : (o : Ordering) → is_gt o ≡ true → o ≡ Greater
gt_is_greater Less h = absurd (false≢true h)
gt_is_greater Equal h = absurd (false≢true h)
gt_is_greater Greater h = refl

pub gt_is_not : (o : Ordering) → is_gt o ≡ false → o ≢ Greater
gt_is_not o h is = absurd (false≢true (sym h ∙ ap is_gt is))

-- what is below something lesser is below the greater
above_both : (t a b : List ℕ) → row_cmp t b ≡ Greater → row_cmp a b ≡ Less → row_cmp t a ≡ Greater
above_both t a b above less =
    let down : row_cmp b t ≡ Less = row_cmp_total.antisymm b t ∙ ap ordering_reverse above in
    row_cmp_total.antisymm t a ∙ ap ordering_reverse (row_cmp_total.trans a b t less down)

pub rows_parted : {A : Type 0} (rows : List (HaulRow A)) (t : List ℕ) → IsSorted (map row_seen rows)
    → IsPartitionedBy (below t) rows
rows_parted rows t sorted i j d before low h = elim (cases_lt i j) [
  | inl less ↦
      ap is_gt (above_both t (slice_index_or rows i d).code (slice_index_or rows j d).code
      (gt_is_greater _ h) (rises rows i j d sorted less low))
  | inr same ↦ let one : i ≡ j = omega arith in ap (λ n. below t (slice_index_or rows n d)) one ∙ h
]

-- how a text compares with the row at a place
pub compared : {A : Type 0} (rows : List (HaulRow A)) (i : ℕ) (row : HaulRow A) (t s : List ℕ) (o : Ordering)
    → i < length rows → row ≡ slice_index_or rows i row → s ≡ row.code → row_cmp t s ≡ o
    → (d : HaulRow A) → row_cmp t (slice_index_or rows i d).code ≡ o
compared {A} rows i row t s o low item bytes told d =
    ap (λ (r : HaulRow A). row_cmp t r.code) (get_or_default rows i d row low ∙ sym item)
    ∙ ap (row_cmp t) (sym bytes) ∙ told

-- ---- one more of a code

-- rows with a text, by what was found of it
abbrev put_one : ℕ → List ℕ → Rows → Option Occurrences → Rows
put_one i t es o = table.put row_cmp t (more o (once i)) es

module _ {A : Type 0} (i : ℕ) (t : List ℕ) where
  below_rest : (r : HaulRow A) (rs : List (HaulRow A)) (k : ℕ) → AreBelow (r ∷ rs) t (suc k) → AreBelow rs t k
  below_rest r rs k below j d h = below (suc j) d (omega (arith, h))

  passed : (r : HaulRow A) (rs : List (HaulRow A)) → row_cmp t r.code ≡ Greater
      → noted i (map row_seen (r ∷ rs)) t ≡ row_seen r ∷ noted i (map row_seen rs) t
  passed r rs is =
      ap (λ o. put_one i t (map row_seen (r ∷ rs)) (cond (is_eq o) (Some r.seen) (found t (map row_seen rs)))) is
      ∙ ap (λ o. match_ordering o ((t, more (found t (map row_seen rs)) (once i)) ∷ map row_seen (r ∷ rs))
      ((r.code, more (found t (map row_seen rs)) (once i)) ∷ map row_seen rs)
      (row_seen r ∷ noted i (map row_seen rs) t)) is

  -- a new row
  pub new_row : (rows : List (HaulRow A)) (k : ℕ) (row : HaulRow A) → IsSorted (map row_seen rows)
      → row_seen row ≡ (t, once i) → AreBelow rows t k → IsPlaceFor rows t k
      → map row_seen (insert rows k row) ≡ noted i (map row_seen rows) t
  new_row [] zero row sorted new below index = ap (λ e. e ∷ []) new
  new_row [] (suc k) row sorted new below index = let end = index.0 in absurd (omega (arith, end))
  new_row (r ∷ rs) zero row sorted new below index =
      let less = index.1 (omega arith) r in
      ap (λ e. e ∷ row_seen r ∷ map row_seen rs) new
      ∙ sym (ap (put_one i t (map row_seen (r ∷ rs))) (none_below t (row_seen r) (map row_seen rs) less sorted)
      ∙ ap (λ o. match_ordering o ((t, once i) ∷ map row_seen (r ∷ rs)) ((r.code, once i) ∷ map row_seen rs)
      (row_seen r ∷ table.put row_cmp t (once i) (map row_seen rs))) less)
  new_row (r ∷ rs) (suc k) row sorted new below index =
      let end = index.0 in
      ap (λ es. row_seen r ∷ es) (new_row rs k row (sorted_rest (row_seen r) (map row_seen rs) sorted) new
      (below_rest r rs k below) (omega (arith, end), λ low d. index.1 (omega (arith, low)) d))
      ∙ sym (passed r rs (below 0 r (omega arith)))

  -- one more in a row
  pub old_row : (rows : List (HaulRow A)) (k : ℕ) (row before : HaulRow A) → before ≡ slice_index_or rows k before
      → row.code ≡ before.code → row.seen ≡ more (Some before.seen) (once i) → AreBelow rows t k → IsRowOf rows t k
      → map row_seen (set rows k row) ≡ noted i (map row_seen rows) t
  old_row [] k row before item code is below here = let end = here.0 in absurd (omega (arith, end))
  old_row (r ∷ rs) zero row before item code is below here =
      let same = here.1 r in
      (λ j. (code j, is j) ∷ map row_seen rs)
      ∙ ap (λ (b : HaulRow A). (b.code, more (Some b.seen) (once i)) ∷ map row_seen rs) item
      ∙ sym
      (ap (λ o. put_one i t (map row_seen (r ∷ rs)) (cond (is_eq o) (Some r.seen) (found t (map row_seen rs)))) same
      ∙ ap (λ o. match_ordering o ((t, more (Some r.seen) (once i)) ∷ map row_seen (r ∷ rs))
      ((r.code, more (Some r.seen) (once i)) ∷ map row_seen rs)
      (row_seen r ∷ table.put row_cmp t (more (Some r.seen) (once i)) (map row_seen rs))) same)
  old_row (r ∷ rs) (suc k) row before item code is below here =
      let low = here.0 in
      ap (λ es. row_seen r ∷ es) (old_row rs k row before item code is (below_rest r rs k below)
      (omega (arith, low), here.1)) ∙ sym (passed r rs (below 0 r (omega arith)))

-- ---- the same, for a list and a text that are known by equations

module _ {A : Type 0} (i : ℕ) (rows ys : List (HaulRow A)) (t s : List ℕ) (same : ys ≡ rows) (text : s ≡ t) where
  pub new_row_at : (k : ℕ) (zs : List (HaulRow A)) (code : List ℕ) (v : Occurrences) → IsSorted (map row_seen rows) → zs
      ≡ insert rows k (record { code = code; seen = v }) → code ≡ t → v ≡ once i → AreBelow ys s k → IsPlaceFor ys s k
      → map row_seen zs ≡ noted i (map row_seen rows) t
  new_row_at k zs code v sorted made is one below index =
      ap (map row_seen) made
      ∙ new_row i t rows k (record { code = code; seen = v }) sorted (λ j. (is j, one j))
      (subst (λ (us : List (HaulRow A)). AreBelow us t k) same (subst (λ (u : List ℕ). AreBelow ys u k) text below))
      (subst (λ (us : List (HaulRow A)). IsPlaceFor us t k) same (subst (λ (u : List ℕ). IsPlaceFor ys u k) text index))

  pub old_row_at : (k : ℕ) (read written : HaulRow A) (v : Occurrences) → read ≡ slice_index_or rows k read
      → written ≡ slice_index_or rows k written → v ≡ more (Some read.seen) (once i) → AreBelow ys s k → IsRowOf ys s k
      → map row_seen (set rows k (record { code = written.code; seen = v })) ≡ noted i (map row_seen rows) t
  old_row_at k read written v item index is below here =
      let here' : IsRowOf rows t k =
      subst (λ (us : List (HaulRow A)). IsRowOf us t k) same (subst (λ (u : List ℕ). IsRowOf ys u k) text here) in
      let one : read ≡ written = item ∙ get_or_default rows k read written here'.0 ∙ sym index in
      old_row i t rows k (record { code = written.code; seen = v }) written index refl
      (is ∙ ap (λ (r : HaulRow A). more (Some r.seen) (once i)) one)
      (subst (λ (us : List (HaulRow A)). AreBelow us t k) same (subst (λ (u : List ℕ). AreBelow ys u k) text below))
      here'
