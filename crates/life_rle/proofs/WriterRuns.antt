-- The longest runs of tags, and their texts.
use Rattle.std.proofs.Common.{◌≡◌, ◌≢◌, ℕ, zero, suc, ◌<◌, ◌≤◌, ◌+◌, ◌-◌, Bool, true, false, cond, eqb, List, [], ◌∷◌}
use Rattle.std.proofs.Common.{◌++◌, map, replicate, refl, ap, ◌∙◌, sym, arith, add-one}
use Rattle.std.proofs.lemmas.List.{append_assoc, append-nil, replicate_more}
use Rattle.std.proofs.lemmas.Bool.{ne_eqb, eq-eqb}
use Rattle.life_rle.specs.Body.{run}
use Rattle.life_rle.specs.Writer.{tags_from, onto_run, runs_of, item_text}
use Rattle.life_rle.specs.WriterState.{counted, texts_from}

-- the list is empty or begins with another tag
abbrev pub Other : ℕ → List ℕ → Type 0
Other tag [] = Unit {0}
Other tag (t ∷ ts) = t ≢ tag

onto_head_by : (t n m : ℕ) (rs : List (ℕ × ℕ)) (b : Bool)
    → (k : ℕ) × (ss : List (ℕ × ℕ)) × (cond b ((n + 1, t) ∷ rs) ((1, t) ∷ (n, m) ∷ rs) ≡ (k, t) ∷ ss)
onto_head_by t n m rs true = (n + 1, rs, refl)
onto_head_by t n m rs false = (1, (n, m) ∷ rs, refl)

onto_head : (t : ℕ) (rs : List (ℕ × ℕ)) → (n : ℕ) × (ss : List (ℕ × ℕ)) × (onto_run t rs ≡ (n, t) ∷ ss)
onto_head t [] = (1, [], refl)
onto_head t (r ∷ rs) = onto_head_by t r.0 r.1 rs (eqb r.1 t)

-- the runs of tags begin with a run of the first
pub runs_head : (t : ℕ) (ts : List ℕ) → (n : ℕ) × (rs : List (ℕ × ℕ)) × (runs_of (t ∷ ts) ≡ (n, t) ∷ rs)
unfolding runs_of
runs_head t ts = onto_head t (runs_of ts)

onto_other : (tag : ℕ) (ts : List ℕ) → Other tag ts → onto_run tag (runs_of ts) ≡ (1, tag) ∷ runs_of ts
unfolding runs_of
onto_other tag [] other = refl
onto_other tag (t ∷ ts) other =
    let head = runs_head t ts in
    ap (λ rs. onto_run tag rs) head.2 ∙ ap (λ b. cond b ((head.0 + 1, tag) ∷ head.1) ((1, tag) ∷ (head.0, t) ∷ head.1))
    (ne_eqb t tag other) ∙ ap (λ rs. (1, tag) ∷ rs) (sym head.2)

onto_same : (n tag : ℕ) (rs : List (ℕ × ℕ)) → onto_run tag ((n, tag) ∷ rs) ≡ (n + 1, tag) ∷ rs
onto_same n tag rs = ap (λ b. cond b ((n + 1, tag) ∷ rs) ((1, tag) ∷ (n, tag) ∷ rs)) (eq-eqb tag tag refl)

pub runs_replicate : (n tag : ℕ) (ts : List ℕ) → Other tag ts
    → runs_of (replicate (suc n) tag ++ ts) ≡ (suc n, tag) ∷ runs_of ts
unfolding runs_of
runs_replicate zero tag ts other = onto_other tag ts other
runs_replicate (suc n) tag ts other =
    ap (λ rs. onto_run tag rs) (runs_replicate n tag ts other) ∙ onto_same (suc n) tag (runs_of ts)
    ∙ ap (λ k. (k, tag) ∷ runs_of ts) (add-one (suc n))

-- the texts of a run in front
pub texts_front : (n tag : ℕ) (ts : List ℕ) → Other tag ts
    → map item_text (runs_of (replicate n tag ++ ts)) ≡ counted n tag ++ map item_text (runs_of ts)
texts_front zero tag ts other = refl
texts_front (suc n) tag ts other =
    ap (λ rs. map item_text rs) (runs_replicate n tag ts other)
    ∙ ap (λ b. cond b [] (item_text (suc n, tag) ∷ []) ++ map item_text (runs_of ts))
    (sym (ne_eqb (suc n) 0 (λ e. omega arith)))

-- the tags up to a live cell and on
abbrev pub tags_gap : ℕ → ℕ → List ℕ → List ℕ
tags_gap down along tags = replicate down 36 ++ replicate along 98 ++ 111 ∷ tags

pub tags_cell : (row column : ℕ) (cell : ℕ × ℕ) (cells : List (ℕ × ℕ)) → tags_from row column (cell ∷ cells)
    ≡ tags_gap (cell.1 - row) (cell.0 - cond (eqb cell.1 row) column 0) (tags_from cell.1 (cell.0 + 1) cells)
unfolding tags_from
tags_cell row column cell cells = refl

tags_same : (row column : ℕ) (cell : ℕ × ℕ) (cells : List (ℕ × ℕ)) → cell.1 ≡ row → cell.0 ≡ column
    → tags_from row column (cell ∷ cells) ≡ 111 ∷ tags_from cell.1 (cell.0 + 1) cells
tags_same row column cell cells same_row same_column =
    let down : cell.1 - row ≡ 0 = omega arith in
    let along : cell.0 - cond (eqb cell.1 row) column 0 ≡ 0 =
    ap (λ b. cell.0 - cond b column 0) (eq-eqb cell.1 row same_row) ∙ omega arith in
    tags_cell row column cell cells
    ∙ ap (λ n. tags_gap n (cell.0 - cond (eqb cell.1 row) column 0) (tags_from cell.1 (cell.0 + 1) cells)) down
    ∙ ap (λ n. tags_gap 0 n (tags_from cell.1 (cell.0 + 1) cells)) along

live_front : (live : ℕ) (tags : List ℕ) → replicate (live + 1) 111 ++ tags ≡ replicate live 111 ++ 111 ∷ tags
live_front live tags =
    ap (λ s. s ++ tags) (sym (replicate_more live 111)) ∙ append_assoc (replicate live 111) (111 ∷ []) tags

-- a cell right after the live cells
pub texts_same : (live row column : ℕ) (cell : ℕ × ℕ) (cells : List (ℕ × ℕ)) → cell.1 ≡ row
    → cell.0 ≡ column → texts_from (live + 1) cell.1 (cell.0 + 1) cells ≡ texts_from live row column (cell ∷ cells)
texts_same live row column cell cells same_row same_column =
    ap (λ t. map item_text (runs_of t)) (live_front live (tags_from cell.1 (cell.0 + 1) cells)
    ∙ ap (λ t. replicate live 111 ++ t) (sym (tags_same row column cell cells same_row same_column)))

other_gap : (down along : ℕ) (tags : List ℕ) → 0 < down + along → Other 111 (tags_gap down along tags)
other_gap zero zero tags some = absurd (omega arith)
other_gap zero (suc along) tags some = λ e. omega arith
other_gap (suc down) along tags some = λ e. omega arith

other_row : (along : ℕ) (tags : List ℕ) → Other 36 (replicate along 98 ++ 111 ∷ tags)
other_row zero tags = λ e. omega arith
other_row (suc along) tags = λ e. omega arith

-- live cells before a gap
live_texts : (live down along : ℕ) (tags : List ℕ) → (0 < live → 0 < down + along)
    → map item_text (runs_of (replicate live 111 ++ tags_gap down along tags))
    ≡ counted live 111 ++ map item_text (runs_of (tags_gap down along tags))
live_texts zero down along tags some = refl
live_texts (suc live) down along tags some =
    texts_front (suc live) 111 (tags_gap down along tags) (other_gap down along tags (some (omega arith)))

gap_texts : (live down along : ℕ) (tags : List ℕ) → (0 < live → 0 < down + along)
    → map item_text (runs_of (replicate live 111 ++ tags_gap down along tags))
    ≡ counted live 111 ++ (counted down 36 ++ (counted along 98 ++ map item_text (runs_of (111 ∷ tags))))
gap_texts live down along tags some =
    live_texts live down along tags some
    ∙ ap (λ ts. counted live 111 ++ ts)
    (ap (λ ts. map item_text (runs_of ts)) (append_assoc (replicate down 36) (replicate along 98) (111 ∷ tags))
    ∙ texts_front down 36 (replicate along 98 ++ 111 ∷ tags) (other_row along tags)
    ∙ ap (λ ts. counted down 36 ++ ts) (texts_front along 98 (111 ∷ tags) (λ e. omega arith)))

-- a cell after a gap, or the first
pub texts_gap : (live row column from : ℕ) (cell : ℕ × ℕ) (cells : List (ℕ × ℕ)) → from ≡ cond (eqb cell.1 row) column 0
    → (0 < live → 0 < (cell.1 - row) + (cell.0 - from)) →
    texts_from live row column (cell ∷ cells) ≡ counted live 111
    ++ (counted (cell.1 - row) 36 ++ (counted (cell.0 - from) 98 ++ texts_from 1 cell.1 (cell.0 + 1) cells))
texts_gap live row column from cell cells is some =
    ap (λ ts. map item_text (runs_of (replicate live 111 ++ ts))) (tags_cell row column cell cells
    ∙ ap (λ n. tags_gap (cell.1 - row) (cell.0 - n) (tags_from cell.1 (cell.0 + 1) cells)) (sym is))
    ∙ gap_texts live (cell.1 - row) (cell.0 - from) (tags_from cell.1 (cell.0 + 1) cells) some

-- the other cells of a run
texts_on : (n live row column : ℕ) (cells : List (ℕ × ℕ))
    → texts_from live row column (run column row n ++ cells) ≡ texts_from (live + n) row (column + n) cells
unfolding run
texts_on zero live row column cells =
    let length : live ≡ live + 0 = omega arith in
    let end : column ≡ column + 0 = omega arith in
    λ i. texts_from (length i) row (end i) cells
texts_on (suc n) live row column cells =
    let length : live + 1 + n ≡ live + suc n = omega arith in
    let end : column + 1 + n ≡ column + suc n = omega arith in
    sym (texts_same live row column (column, row) (run (column + 1) row n ++ cells) refl refl)
    ∙ texts_on n (live + 1) row (column + 1) cells
    ∙ (λ i. texts_from (length i) row (end i) cells)

-- a run after a gap, or the first
pub texts_run : (live row column x y n : ℕ) (cells : List (ℕ × ℕ)) → 1 ≤ n
    → (0 < live → 0 < (y - row) + (x - cond (eqb y row) column 0)) →
    texts_from live row column (run x y n ++ cells) ≡ counted live 111
    ++ (counted (y - row) 36 ++ (counted (x - cond (eqb y row) column 0) 98 ++ texts_from n y (x + n) cells))
unfolding run
texts_run live row column x y zero cells one some = absurd (omega (arith, one))
texts_run live row column x y (suc n) cells one some =
    let length : 1 + n ≡ suc n = omega arith in
    let end : x + 1 + n ≡ x + suc n = omega arith in
    texts_gap live row column _ (x, y) (run (x + 1) y n ++ cells) refl some
    ∙ ap (λ ts. counted live 111 ++ (counted (y - row) 36 ++ (counted (x - cond (eqb y row) column 0) 98 ++ ts)))
    (texts_on n 1 y (x + 1) cells ∙ (λ i. texts_from (length i) y (end i) cells))

-- after the last cell
pub texts_none : (live row column : ℕ) → texts_from live row column [] ≡ counted live 111
unfolding tags_from runs_of
texts_none live row column = texts_front live 111 [] tt ∙ append-nil (counted live 111)
