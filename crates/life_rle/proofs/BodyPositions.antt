-- How positions and placed cells grow with one more item.
use Rattle.std.proofs.Common.{◌≡◌, ℕ, zero, suc, ◌+◌, ◌-◌, Bool, true, false, not, cond, ◌||◌, List, [], ◌∷◌, ◌++◌}
use Rattle.std.proofs.Common.{length, drop, refl, ap, ◌∙◌, sym, arith, zero-add, add-zero}
use Rattle.std.specs.List.{sum_by, filter, after_last, suffix_len, prefix_len}
use Rattle.std.proofs.lemmas.List.{append_assoc, append-nil, reverse-append, length_push, drop-append-le, drop_all}
use Rattle.std.proofs.lemmas.List.Sums.{sum_by-append}
use Rattle.std.proofs.lemmas.List.Elements.{filter-append}
use Rattle.life_rle.specs.Body.{Item, count, is_row_end, is_dead, is_live, row_after, column_after, run, cells_at}
use Rattle.life_rle.specs.Body.{placed_after, placed}

pub suffix_len_push : {X : Type 0} (p : X → Bool) (xs : List X) (y : X)
    → suffix_len p (xs ++ y ∷ []) ≡ cond (p y) (1 + suffix_len p xs) 0
suffix_len_push p xs y = ap (λ ys. prefix_len p ys) (reverse-append xs (y ∷ []))

pub after_last_push_yes : {X : Type 0} (p : X → Bool) (xs : List X) (y : X) → p y ≡ true
    → after_last p (xs ++ y ∷ []) ≡ []
after_last_push_yes p xs y h =
    let none : suffix_len (λ x. not (p x)) (xs ++ y ∷ []) ≡ 0 = suffix_len_push (λ x. not (p x)) xs y
    ∙ ap (λ t. cond (not t) (1 + suffix_len (λ x. not (p x)) xs) 0) h in
    drop_all _ (xs ++ y ∷ []) (omega arith)

pub after_last_push_no : {X : Type 0} (p : X → Bool) (xs : List X) (y : X) → p y ≡ false
    → after_last p (xs ++ y ∷ []) ≡ after_last p xs ++ y ∷ []
after_last_push_no p xs y h =
    let one : suffix_len (λ x. not (p x)) (xs ++ y ∷ []) ≡ 1 + suffix_len (λ x. not (p x)) xs =
    suffix_len_push (λ x. not (p x)) xs y ∙ ap (λ t. cond (not t) (1 + suffix_len (λ x. not (p x)) xs) 0) h in
    let same : length (xs ++ y ∷ []) - suffix_len (λ x. not (p x)) (xs ++ y ∷ [])
    ≡ length xs - suffix_len (λ x. not (p x)) xs = omega (arith, length_push xs y) in
    ap (λ n. drop n (xs ++ y ∷ [])) same
    ∙ drop-append-le (length xs - suffix_len (λ x. not (p x)) xs) xs (y ∷ []) (omega arith)

pub sum_filter_push : {X : Type 0} (f : X → ℕ) (p : X → Bool) (xs : List X) (y : X)
    → sum_by f (filter p (xs ++ y ∷ [])) ≡ sum_by f (filter p xs) + cond (p y) (f y) 0
sum_filter_push f p xs y =
    ap (λ ys. sum_by f ys) (filter-append p xs (y ∷ [])) ∙ sum_by-append f (filter p xs) (filter p (y ∷ []))
    ∙ ap (λ n. sum_by f (filter p xs) + n)
    (elim (p y) as (λ t. sum_by f (cond t (y ∷ []) []) ≡ cond t (f y) 0) [ true ↦ zero-add (f y) | false ↦ refl ])

pub row_after_push : (before : List Item) (item : Item)
    → row_after (before ++ item ∷ []) ≡ row_after before + cond (is_row_end item) (count item) 0
unfolding row_after
row_after_push before item = sum_filter_push count is_row_end before item

pub column_after_row_end : (before : List Item) (item : Item) → is_row_end item ≡ true
    → column_after (before ++ item ∷ []) ≡ 0
unfolding column_after
column_after_row_end before item h =
    ap (λ items. sum_by count (filter (λ i. is_dead i || is_live i) items))
    (after_last_push_yes is_row_end before item h)

pub column_after_push : (before : List Item) (item : Item) → is_row_end item ≡ false
    → column_after (before ++ item ∷ []) ≡ column_after before + cond (is_dead item || is_live item) (count item) 0
unfolding column_after
column_after_push before item h =
    ap (λ items. sum_by count (filter (λ i. is_dead i || is_live i) items))
    (after_last_push_no is_row_end before item h)
    ∙ sum_filter_push count (λ i. is_dead i || is_live i) (after_last is_row_end before) item

pub placed_after-append : (before xs ys : List Item)
    → placed_after before (xs ++ ys) ≡ placed_after before xs ++ placed_after (before ++ xs) ys
unfolding placed_after
placed_after-append before [] ys = ap (λ items. placed_after items ys) (sym (append-nil before))
placed_after-append before (x ∷ xs) ys =
    ap (λ cells. cells_at before x ++ cells) (placed_after-append (before ++ x ∷ []) xs ys
    ∙ ap (λ items. placed_after (before ++ x ∷ []) xs ++ placed_after items ys) (append_assoc before (x ∷ []) xs))
    ∙ sym (append_assoc (cells_at before x) (placed_after (before ++ x ∷ []) xs) (placed_after (before ++ x ∷ xs) ys))

pub placed_push : (before : List Item) (item : Item)
    → placed (before ++ item ∷ []) ≡ placed before ++ cells_at before item
unfolding placed_after
placed_push before item =
    placed_after-append [] before (item ∷ []) ∙ ap (λ cells. placed before ++ cells) (append-nil (cells_at before item))

-- ---- cells in a row

pub run_suc : (column row n : ℕ) → run column row (suc n) ≡ run column row n ++ (column + n, row) ∷ []
unfolding run
run_suc column row zero = rw add-zero refl
run_suc column row (suc n) =
    let e : column + suc n ≡ (column + 1) + n = omega arith in
    rw e (ap (λ cells. (column, row) ∷ cells) (run_suc (column + 1) row n))

pub run_more : (column row n : ℕ) → run column row (n + 1) ≡ run column row n ++ (column + n, row) ∷ []
run_more column row n = let e : n + 1 ≡ suc n = omega arith in rw e (run_suc column row n)
