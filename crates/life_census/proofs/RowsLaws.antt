-- Counting a text in the row at a given place.
use Rattle.std.specs.Prelude.{◌≡◌, ℕ, zero, suc, ◌+◌, ◌<◌, ◌≤◌, List, [], ◌∷◌, map, length, slice_index_or}
use Rattle.std.proofs.Common.{sym, ap, subst, ◌∙◌, inl, inr, set, take, drop, arith}
use Rattle.std.specs.declared.cmp.Ordering.{Ordering}
use Rattle.std.specs.declared.cmp.Ordering.TheVariants.{Less, Equal, Greater}
use Rattle.std.specs.Ordering.{match_ordering}
use Rattle.std.specs.List.{All, insert}
use Rattle.std.proofs.lemmas.Bool.{cases_lt}
use Rattle.std.proofs.lemmas.List.{get_or_default}
use Rattle.std.proofs.lemmas.List.Elements.{All-same, All-cons, All-append, All-take, All-drop, All-set, All-weaker}
use Rattle.life_census.specs.declared.tally_rows.Row.{Row}
use Rattle.life_census.specs.Rows.{row_seen}
use Rattle.life_census.specs.Counting.{row_cmp}
use Rattle.life_census.specs.CountingState.{one_more, AreBelow}

below_rest : {A : Type 0} (r : Row A) (rs : List (Row A)) (i : ℕ) (t : List ℕ) → AreBelow (r ∷ rs) t (suc i)
    → AreBelow rs t i
below_rest r rs i t below k d h = below (suc k) d (omega arith)

passed : {A : Type 0} (r : Row A) (rs : List (Row A)) (i : ℕ) (t : List ℕ) → AreBelow (r ∷ rs) t (suc i)
    → one_more (map row_seen (r ∷ rs)) t ≡ row_seen r ∷ one_more (map row_seen rs) t
passed r rs i t below =
    ap (λ o. match_ordering o ((t, 1) ∷ row_seen r ∷ map row_seen rs) ((r.code, r.count + 1) ∷ map row_seen rs)
    (row_seen r ∷ one_more (map row_seen rs) t)) (below 0 r (omega arith))

-- how a text compares with the row at a place
pub compared : {A : Type 0} (rows : List (Row A)) (i : ℕ) (row : Row A) (t s : List ℕ) (o : Ordering)
    → i < length rows → row ≡ slice_index_or rows i row → s ≡ row.code → row_cmp t s ≡ o
    → (d : Row A) → row_cmp t (slice_index_or rows i d).code ≡ o
compared {A} rows i row t s o low item bytes told d =
    ap (λ (r : Row A). row_cmp t r.code) (get_or_default rows i d row low ∙ sym item)
    ∙ ap (row_cmp t) (sym bytes) ∙ told

pub below_next : {A : Type 0} (rows : List (Row A)) (t : List ℕ) (i : ℕ) → AreBelow rows t i
    → ((d : Row A) → row_cmp t (slice_index_or rows i d).code ≡ Greater) → AreBelow rows t (i + 1)
below_next rows t i below here k d low = elim (cases_lt k i) [
  | inl before ↦ below k d before
  | inr after ↦ let last : k ≡ i = omega arith in ap (λ j. row_cmp t (slice_index_or rows j d).code) last ∙ here d
]

-- a new row
pub new_row : {A : Type 0} (rows : List (Row A)) (i : ℕ) (row : Row A) (t : List ℕ)
    → row_seen row ≡ (t, 1) → AreBelow rows t i → i ≤ length rows
    → (i < length rows → (d : Row A) → row_cmp t (slice_index_or rows i d).code ≡ Less)
    → map row_seen (insert rows i row) ≡ one_more (map row_seen rows) t
new_row [] zero row t new below end above = ap (λ e. e ∷ []) new
new_row [] (suc i) row t new below end above = absurd (omega arith)
new_row (r ∷ rs) zero row t new below end above =
    ap (λ e. e ∷ row_seen r ∷ map row_seen rs) new
    ∙ sym (ap (λ o. match_ordering o ((t, 1) ∷ row_seen r ∷ map row_seen rs) ((r.code, r.count + 1) ∷ map row_seen rs)
    (row_seen r ∷ one_more (map row_seen rs) t)) (above (omega arith) r))
new_row (r ∷ rs) (suc i) row t new below end above =
    ap (λ es. row_seen r ∷ es) (new_row rs i row t new (below_rest r rs i t below) (omega arith)
    (λ h d. above (omega arith) d)) ∙ sym (passed r rs i t below)

-- one more in a row
pub old_row : {A : Type 0} (rows : List (Row A)) (i : ℕ) (row : Row A) (t : List ℕ) → AreBelow rows t i
    → i < length rows → ((d : Row A) → row_cmp t (slice_index_or rows i d).code ≡ Equal)
    → row_seen row ≡ ((slice_index_or rows i row).code, (slice_index_or rows i row).count + 1)
    → map row_seen (set rows i row) ≡ one_more (map row_seen rows) t
old_row [] i row t below end at more = absurd (omega arith)
old_row (r ∷ rs) zero row t below end at more =
    ap (λ e. e ∷ map row_seen rs) more
    ∙ sym (ap (λ o. match_ordering o ((t, 1) ∷ row_seen r ∷ map row_seen rs) ((r.code, r.count + 1) ∷ map row_seen rs)
    (row_seen r ∷ one_more (map row_seen rs) t)) (at r))
old_row (r ∷ rs) (suc i) row t below end at more =
    ap (λ es. row_seen r ∷ es) (old_row rs i row t (below_rest r rs i t below) (omega arith) at more)
    ∙ sym (passed r rs i t below)

-- the same, for a list and a text that are known by equations
pub new_row_at : {A : Type 0} (rows ys zs : List (Row A)) (t s : List ℕ) (i : ℕ) (row : Row A)
    → ys ≡ rows → s ≡ t → zs ≡ insert rows i row → row_seen row ≡ (t, 1) → AreBelow ys s i
    → (i ≤ length ys) × (i < length ys → (d : Row A) → row_cmp s (slice_index_or ys i d).code ≡ Less)
    → map row_seen zs ≡ one_more (map row_seen rows) t
new_row_at rows ys zs t s i row same text made new below here =
    ap (map row_seen) made ∙ ap (λ xs. map row_seen (insert xs i row)) (sym same)
    ∙ new_row ys i row s (new ∙ ap (λ u. (u, 1)) (sym text)) below here.0 here.1
    ∙ (λ i. one_more (map row_seen (same i)) (text i))

pub old_row_at : {A : Type 0} (rows ys : List (Row A)) (t s : List ℕ) (i : ℕ) (row before : Row A) → ys ≡ rows
    → s ≡ t → before ≡ slice_index_or rows i before → row_seen row ≡ (before.code, before.count + 1) → AreBelow ys s i
    → (i < length ys) × ((d : Row A) → row_cmp s (slice_index_or ys i d).code ≡ Equal)
    → map row_seen (set rows i row) ≡ one_more (map row_seen rows) t
old_row_at {A} rows ys t s i row before same text item more below here =
    let read : before ≡ slice_index_or ys i row = item ∙ ap (λ xs. slice_index_or xs i before) (sym same)
    ∙ get_or_default ys i before row here.0 in
    ap (λ xs. map row_seen (set xs i row)) (sym same)
    ∙ old_row ys i row s below here.0 here.1 (more ∙ ap (λ (r : Row A). (r.code, r.count + 1)) read)
    ∙ (λ i. one_more (map row_seen (same i)) (text i))

-- ---- how many each row counts

at_most_next : {A : Type 0} (rows : List (Row A)) (n : ℕ) → All (λ (r : Row A). r.count ≤ n) rows
    → All (λ (r : Row A). r.count ≤ n + 1) rows
at_most_next {A} rows n few =
    All-weaker (λ (r : Row A). r.count ≤ n) (λ (r : Row A). r.count ≤ n + 1)
    (λ (r : Row A) h. let low : r.count ≤ n = h in omega (arith, low)) rows few

pub new_row_bounded : {A : Type 0} (rows zs : List (Row A)) (i n : ℕ) (row : Row A) → zs ≡ insert rows i row
    → row.count ≡ 1 → All (λ (r : Row A). r.count ≤ n) rows → All (λ (r : Row A). r.count ≤ n + 1) zs
new_row_bounded {A} rows zs i n row made one few =
    let P : Row A → Type 0 = λ (r : Row A). r.count ≤ n + 1 in
    let all = at_most_next rows n few in
    All-same P _ _ made (All-append P (take i rows) (row ∷ drop i rows) (All-take P i rows all)
    (All-cons P row (drop i rows) (omega (arith, one)) (All-drop P i rows all)))

pub old_row_bounded : {A : Type 0} (rows : List (Row A)) (i n : ℕ) (row before : Row A) → i < length rows
    → before ≡ slice_index_or rows i before → row.count ≡ before.count + 1 → All (λ (r : Row A). r.count ≤ n) rows
    → All (λ (r : Row A). r.count ≤ n + 1) (set rows i row)
old_row_bounded {A} rows i n row before low item more few =
    let bound : before.count ≤ n = subst (λ (r : Row A). r.count ≤ n) (sym item) (few i before low) in
    All-set (λ (r : Row A). r.count ≤ n + 1) rows i row (omega (arith, bound, more)) (at_most_next rows n few)
