-- The runs of a canonical body: their tags, the bound of their counts, the cells that they place, and that the last run
-- is live.
use Rattle.std.proofs.Common.{◌≡◌, ◌≢◌, ℕ, zero, suc, ◌<◌, ◌≤◌, ◌+◌, ◌-◌, ◌^◌, Bool, true, false, cond, eqb, List, []}
use Rattle.std.proofs.Common.{◌∷◌, ◌++◌, length, map, replicate, Some, None, refl, ap, ◌∙◌, sym, subst, arith, inl, inr}
use Rattle.std.specs.List.{AllByRecursion, flat_map}
use Rattle.std.specs.Char.{is_ascii_digit}
use Rattle.std.specs.Fmt.{decimal}
use Rattle.std.specs.Str.Parse.{AllDigits, digits_value}
use Rattle.std.proofs.lemmas.Fmt.{decimal_is_IsNumeral}
use Rattle.std.proofs.lemmas.List.{append_assoc, append-nil}
use Rattle.std.proofs.lemmas.Bool.{cases_eq, ne_eqb, eq-eqb, eqb-true}
use Rattle.life_rle.specs.Body.{Item, items_after, items_of, count_of, count, run, row_after, column_after, cells_at}
use Rattle.life_rle.specs.Body.{placed_after, placed}
use Rattle.life_rle.specs.RleLaws.{IsTag, EndInLiveCells, spelled_runs}
use Rattle.life_rle.specs.Writer.{tags_from, onto_run, runs_of, item_text}
use Rattle.life_rle.specs.WriterState.{InOrder}
use Rattle.life_rle.proofs.BodyPositions.{row_after_push, column_after_row_end, column_after_push, placed_after-append}
use Rattle.life_rle.proofs.RoundItems.{is_digit}
use Rattle.life_rle.proofs.WriterRuns.{runs_head, tags_cell}

-- the tags of a cell and those after it, by how far it is down and along
pub gap : (row column : ℕ) (cell : ℕ × ℕ) (cells : List (ℕ × ℕ))
    → tags_from row column (cell ∷ cells) ≡ replicate (cell.1 - row) 36
    ++ (replicate (cell.0 - cond (eqb cell.1 row) column 0) 98 ++ 111 ∷ tags_from cell.1 (cell.0 + 1) cells)
gap row column cell cells =
    tags_cell row column cell cells ∙ append_assoc (replicate (cell.1 - row) 36)
    (replicate (cell.0 - cond (eqb cell.1 row) column 0) 98) (111 ∷ tags_from cell.1 (cell.0 + 1) cells)

pub no_tags : (row column : ℕ) → tags_from row column [] ≡ []
unfolding tags_from
no_tags row column = refl

-- ---- what the tags are

pub are_tags_by : (n tag : ℕ) (tags : List ℕ) → IsTag tag → AllByRecursion IsTag tags
    → AllByRecursion IsTag (replicate n tag ++ tags)
are_tags_by zero tag tags is all = all
are_tags_by (suc n) tag tags is all = (is, are_tags_by n tag tags is all)

pub are_tags : (cells : List (ℕ × ℕ)) (row column : ℕ) → AllByRecursion IsTag (tags_from row column cells)
are_tags [] row column = subst (λ ts. AllByRecursion IsTag ts) (sym (no_tags row column)) tt
are_tags (cell ∷ cells) row column =
    let live : AllByRecursion IsTag (111 ∷ tags_from cell.1 (cell.0 + 1) cells) =
    (inr (inr refl), are_tags cells cell.1 (cell.0 + 1)) in
    subst (λ ts. AllByRecursion IsTag ts) (sym (gap row column cell cells))
    (are_tags_by (cell.1 - row) 36 _ (inl refl)
    (are_tags_by (cell.0 - cond (eqb cell.1 row) column 0) 98 _ (inr (inl refl)) live))

abbrev pub HaveTags : List (ℕ × ℕ) → Type 0
HaveTags runs = AllByRecursion (λ (run : ℕ × ℕ). IsTag run.1) runs

have_tags_by : (t : Bool) (tag n other : ℕ) (runs : List (ℕ × ℕ)) → IsTag tag → HaveTags ((n, other) ∷ runs)
    → HaveTags (cond t ((n + 1, tag) ∷ runs) ((1, tag) ∷ (n, other) ∷ runs))
have_tags_by true tag n other runs is all = (is, all.1)
have_tags_by false tag n other runs is all = (is, all)

have_tags_onto : (tag : ℕ) (runs : List (ℕ × ℕ)) → IsTag tag → HaveTags runs → HaveTags (onto_run tag runs)
have_tags_onto tag [] is all = (is, tt)
have_tags_onto tag (r ∷ runs) is all = have_tags_by (eqb r.1 tag) tag r.0 r.1 runs is all

pub have_tags : (tags : List ℕ) → AllByRecursion IsTag tags → HaveTags (runs_of tags)
unfolding runs_of
have_tags [] all = tt
have_tags (tag ∷ tags) all = have_tags_onto tag (runs_of tags) all.0 (have_tags tags all.1)

-- ---- their end

-- the same of tags as of runs: no dead cell stands before a row end, and the last tag is of a live cell
abbrev pub EndLive : List ℕ → Type 0
EndLive [] = Unit {0}
EndLive (tag ∷ []) = tag ≡ 111
EndLive (tag ∷ next ∷ tags) = (tag ≡ 98 → next ≢ 36) × EndLive (next ∷ tags)

abbrev IsNotEmpty : List ℕ → Type 0
IsNotEmpty [] = ⊥
IsNotEmpty (tag ∷ tags) = Unit {0}

live_first : (tags : List ℕ) → EndLive tags → EndLive (111 ∷ tags)
live_first [] h = refl
live_first (tag ∷ tags) h = ((λ e. omega arith), h)

dead_first : (n : ℕ) (tags : List ℕ) → EndLive (111 ∷ tags)
    → EndLive (replicate n 98 ++ 111 ∷ tags) × IsNotEmpty (replicate n 98 ++ 111 ∷ tags)
dead_first zero tags h = (h, tt)
dead_first (suc zero) tags h = (((λ _ e. omega arith), h), tt)
dead_first (suc (suc n)) tags h = (((λ _ e. omega arith), (dead_first (suc n) tags h).0), tt)

row_end_first : (tags : List ℕ) → IsNotEmpty tags → EndLive tags → EndLive (36 ∷ tags)
row_end_first [] some h = absurd some
row_end_first (tag ∷ tags) some h = ((λ e. omega arith), h)

row_ends_first : (n : ℕ) (tags : List ℕ) → IsNotEmpty tags → EndLive tags
    → EndLive (replicate n 36 ++ tags) × IsNotEmpty (replicate n 36 ++ tags)
row_ends_first zero tags some h = (h, some)
row_ends_first (suc n) tags some h =
    let rest = row_ends_first n tags some h in (row_end_first (replicate n 36 ++ tags) rest.1 rest.0, tt)

pub tags_end : (cells : List (ℕ × ℕ)) (row column : ℕ) → EndLive (tags_from row column cells)
tags_end [] row column = subst EndLive (sym (no_tags row column)) tt
tags_end (cell ∷ cells) row column =
    let along = dead_first (cell.0 - cond (eqb cell.1 row) column 0) (tags_from cell.1 (cell.0 + 1) cells)
    (live_first _ (tags_end cells cell.1 (cell.0 + 1))) in
    subst EndLive (sym (gap row column cell cells)) (row_ends_first (cell.1 - row) _ along.1 along.0).0

end_longer : (n k tag : ℕ) (runs : List (ℕ × ℕ)) → EndInLiveCells ((n, tag) ∷ runs) → EndInLiveCells ((k, tag) ∷ runs)
end_longer n k tag [] h = h
end_longer n k tag (r ∷ runs) h = h

end_by : (t : Bool) (tag n next : ℕ) (runs : List (ℕ × ℕ)) → eqb next tag ≡ t → (tag ≡ 98 → next ≢ 36)
    → EndInLiveCells ((n, next) ∷ runs) → EndInLiveCells (cond t ((n + 1, tag) ∷ runs) ((1, tag) ∷ (n, next) ∷ runs))
end_by true tag n next runs is other h =
    end_longer n (n + 1) tag runs (subst (λ k. EndInLiveCells ((n, k) ∷ runs)) (eqb-true next tag is) h)
end_by false tag n next runs is other h = (other, h)

runs_next : (tag next : ℕ) (tags : List ℕ) → runs_of (tag ∷ next ∷ tags) ≡ onto_run tag (runs_of (next ∷ tags))
unfolding runs_of
runs_next tag next tags = refl

one_run : (tag : ℕ) → runs_of (tag ∷ []) ≡ (1, tag) ∷ []
unfolding runs_of
one_run tag = refl

pub no_runs : runs_of [] ≡ []
unfolding runs_of
no_runs = refl

pub runs_end : (tags : List ℕ) → EndLive tags → EndInLiveCells (runs_of tags)
runs_end [] h = subst EndInLiveCells (sym no_runs) tt
runs_end (tag ∷ []) h = subst EndInLiveCells (sym (one_run tag)) h
runs_end (tag ∷ next ∷ tags) h =
    let head = runs_head next tags in
    subst EndInLiveCells (sym (runs_next tag next tags ∙ ap (λ rs. onto_run tag rs) head.2))
    (end_by (eqb next tag) tag head.0 next head.1 refl h.0 (subst EndInLiveCells head.2 (runs_end (next ∷ tags) h.1)))

-- ---- where a reader goes

-- the cells that a reader places who takes one step a tag
abbrev pub walk : ℕ → ℕ → List ℕ → List (ℕ × ℕ)
walk row column [] = []
walk row column (tag ∷ tags) =
    cond (eqb tag 111) ((column, row) ∷ []) []
    ++ walk (cond (eqb tag 36) (row + 1) row) (cond (eqb tag 36) 0 (column + 1)) tags

walk_rows : (n row column : ℕ) (tags : List ℕ)
    → walk row column (replicate (suc n) 36 ++ tags) ≡ walk (row + suc n) 0 tags
walk_rows zero row column tags = refl
walk_rows (suc n) row column tags =
    walk_rows n (row + 1) 0 tags ∙ ap (λ r. walk r 0 tags)
    (let e : (row + 1) + suc n ≡ row + suc (suc n) = omega arith in e)

walk_dead : (n row column : ℕ) (tags : List ℕ) → walk row column (replicate n 98 ++ tags) ≡ walk row (column + n) tags
walk_dead zero row column tags = ap (λ c. walk row c tags) (let e : column ≡ column + 0 = omega arith in e)
walk_dead (suc n) row column tags =
    walk_dead n row (column + 1) tags
    ∙ ap (λ c. walk row c tags) (let e : (column + 1) + n ≡ column + suc n = omega arith in e)

walk_live : (n row column : ℕ) (tags : List ℕ)
    → walk row column (replicate n 111 ++ tags) ≡ run column row n ++ walk row (column + n) tags
unfolding run
walk_live zero row column tags = ap (λ c. walk row c tags) (let e : column ≡ column + 0 = omega arith in e)
walk_live (suc n) row column tags =
    ap (λ cells. (column, row) ∷ cells) (walk_live n row (column + 1) tags
    ∙ ap (λ c. run (column + 1) row n ++ walk row c tags)
    (let e : (column + 1) + n ≡ column + suc n = omega arith in e))

walk_gap : (down along row column x y : ℕ) (tags : List ℕ) → row + down ≡ y → cond (eqb down 0) column 0 + along ≡ x
    → walk row column (replicate down 36 ++ (replicate along 98 ++ 111 ∷ tags)) ≡ (x, y) ∷ walk y (x + 1) tags
walk_gap zero along row column x y tags ey ex =
    walk_dead along row column (111 ∷ tags)
    ∙ ap (λ c. (c, row) ∷ walk row (c + 1) tags) ex
    ∙ ap (λ r. (x, r) ∷ walk r (x + 1) tags) (let e : row ≡ y = omega (arith, ey) in e)
walk_gap (suc down) along row column x y tags ey ex =
    walk_rows down row column (replicate along 98 ++ 111 ∷ tags)
    ∙ walk_dead along (row + suc down) 0 (111 ∷ tags)
    ∙ ap (λ c. (c, row + suc down) ∷ walk (row + suc down) (c + 1) tags)
    (ap (λ t. cond t column 0 + along) (sym (ne_eqb (suc down) 0 (λ e. omega arith))) ∙ ex)
    ∙ ap (λ r. (x, r) ∷ walk r (x + 1) tags) ey

-- how far along a cell is
along_is : (row column x y : ℕ) → row ≤ y → (row ≡ y → column ≤ x)
    → cond (eqb (y - row) 0) column 0 + (x - cond (eqb y row) column 0) ≡ x
along_is row column x y low order = elim (cases_eq y row) [
  | inl same ↦
      let beside : column ≤ x = order (sym same) in
      ap (λ t. cond t column 0 + (x - cond (eqb y row) column 0)) (eq-eqb (y - row) 0 (omega arith))
      ∙ ap (λ t. column + (x - cond t column 0)) (eq-eqb y row same)
      ∙ omega arith
  | inr other ↦
      ap (λ t. cond t column 0 + (x - cond (eqb y row) column 0)) (ne_eqb (y - row) 0 (λ e. omega arith))
      ∙ ap (λ t. 0 + (x - cond t column 0)) (ne_eqb y row other)
      ∙ omega arith
]

pub walk_tags : (cells : List (ℕ × ℕ)) (row column : ℕ) → InOrder row column cells
    → walk row column (tags_from row column cells) ≡ cells
walk_tags [] row column order = ap (λ ts. walk row column ts) (no_tags row column)
walk_tags (cell ∷ cells) row column order =
    ap (λ ts. walk row column ts) (gap row column cell cells)
    ∙ walk_gap (cell.1 - row) (cell.0 - cond (eqb cell.1 row) column 0) row column cell.0 cell.1
    (tags_from cell.1 (cell.0 + 1) cells)
    (let e : row + (cell.1 - row) ≡ cell.1 = omega (arith, order.0) in e)
    (along_is row column cell.0 cell.1 order.0 order.1)
    ∙ ap (λ cs. cell ∷ cs) (walk_tags cells cell.1 (cell.0 + 1) order.2)

-- ---- counts

-- a reader who takes one step a tag goes no further than this
abbrev pub Stays : ℕ → ℕ → ℕ → List ℕ → Type 0
Stays k row column [] = Unit {0}
Stays k row column (tag ∷ tags) =
    (cond (eqb tag 36) (row + 1) row ≤ k) × (cond (eqb tag 36) 0 (column + 1) ≤ k)
    × Stays k (cond (eqb tag 36) (row + 1) row) (cond (eqb tag 36) 0 (column + 1)) tags

stays_rows : (n k row column : ℕ) (tags : List ℕ) → row + suc n ≤ k → Stays k (row + suc n) 0 tags
    → Stays k row column (replicate (suc n) 36 ++ tags)
stays_rows zero k row column tags fits h = (fits, omega arith, h)
stays_rows (suc n) k row column tags fits h = (
  omega (arith, fits),
  omega arith,
  stays_rows n k (row + 1) 0 tags (omega (arith, fits))
      (subst (λ r. Stays k r 0 tags) (let e : row + suc (suc n) ≡ (row + 1) + suc n = omega arith in e) h),
)

stays_dead : (n k row column : ℕ) (tags : List ℕ) → row ≤ k → column + n ≤ k → Stays k row (column + n) tags
    → Stays k row column (replicate n 98 ++ tags)
stays_dead zero k row column tags low fits h =
    subst (λ c. Stays k row c tags) (let e : column + 0 ≡ column = omega arith in e) h
stays_dead (suc n) k row column tags low fits h = (
  low,
  omega (arith, fits),
  stays_dead n k row (column + 1) tags low (omega (arith, fits))
      (subst (λ c. Stays k row c tags) (let e : column + suc n ≡ (column + 1) + n = omega arith in e) h),
)

stays_gap : (down along k row column x y : ℕ) (tags : List ℕ) → row + down ≡ y
    → cond (eqb down 0) column 0 + along ≡ x → y ≤ k → x + 1 ≤ k → Stays k y (x + 1) tags
    → Stays k row column (replicate down 36 ++ (replicate along 98 ++ 111 ∷ tags))
stays_gap zero along k row column x y tags ey ex low fits h =
    let same : y ≡ row = omega (arith, ey) in
    let at : x ≡ column + along = sym ex in
    stays_dead along k row column (111 ∷ tags) (omega (arith, ey, low)) (omega (arith, at, fits)) (
      omega (arith, same, low),
      omega (arith, at, fits),
      subst (λ c. Stays k row (c + 1) tags) at (subst (λ r. Stays k r (x + 1) tags) same h),
    )
stays_gap (suc down) along k row column x y tags ey ex low fits h =
    let at : x ≡ 0 + along = sym ex ∙ ap (λ t. cond t column 0 + along) (ne_eqb (suc down) 0 (λ e. omega arith)) in
    stays_rows down k row column (replicate along 98 ++ 111 ∷ tags) (omega (arith, ey, low))
    (subst (λ r. Stays k r 0 (replicate along 98 ++ 111 ∷ tags)) (sym ey)
    (stays_dead along k y 0 (111 ∷ tags) low (omega (arith, at, fits))
    (low, omega (arith, at, fits), subst (λ c. Stays k y (c + 1) tags) at h)))

-- cells in the first k columns and rows
abbrev pub AllBelow : ℕ → List (ℕ × ℕ) → Type 0
AllBelow k cells = AllByRecursion (λ (cell : ℕ × ℕ). (cell.0 < k) × (cell.1 < k)) cells

pub stays_tags : (cells : List (ℕ × ℕ)) (k row column : ℕ) → InOrder row column cells → AllBelow k cells
    → Stays k row column (tags_from row column cells)
stays_tags [] k row column order below = subst (λ ts. Stays k row column ts) (sym (no_tags row column)) tt
stays_tags (cell ∷ cells) k row column order below =
    subst (λ ts. Stays k row column ts) (sym (gap row column cell cells))
    (stays_gap (cell.1 - row) (cell.0 - cond (eqb cell.1 row) column 0) k row column cell.0 cell.1
    (tags_from cell.1 (cell.0 + 1) cells)
    (let e : row + (cell.1 - row) ≡ cell.1 = omega (arith, order.0) in e)
    (along_is row column cell.0 cell.1 order.0 order.1)
    (omega (arith, below.0.1)) (omega (arith, below.0.0)) (stays_tags cells k cell.1 (cell.0 + 1) order.2 below.1))

-- a run is no longer than that
count_by : (t : Bool) (n tag k row column : ℕ) (tags : List ℕ) → eqb tag 36 ≡ t → cond t row column ≤ k
    → Stays k row column (replicate n tag ++ tags) → cond t row column + n ≤ k
count_by t zero tag k row column tags is low h = omega (arith, low)
count_by true (suc n) tag k row column tags is low h =
    let next = subst (λ t. (cond t (row + 1) row ≤ k) × (cond t 0 (column + 1) ≤ k)
    × Stays k (cond t (row + 1) row) (cond t 0 (column + 1)) (replicate n tag ++ tags)) is h in
    omega (arith, count_by true n tag k (row + 1) 0 tags is next.0 next.2)
count_by false (suc n) tag k row column tags is low h =
    let next = subst (λ t. (cond t (row + 1) row ≤ k) × (cond t 0 (column + 1) ≤ k)
    × Stays k (cond t (row + 1) row) (cond t 0 (column + 1)) (replicate n tag ++ tags)) is h in
    omega (arith, count_by false n tag k row (column + 1) tags is next.1 next.2)

-- a place after a run, from which a reader continues
record Behind (k : ℕ) (tags : List ℕ) : Type 0 where
  row : ℕ
  column : ℕ
  low : row ≤ k
  fits : column ≤ k
  stays : Stays k row column tags

behind : (n tag k row column : ℕ) (tags : List ℕ) → row ≤ k → column ≤ k
    → Stays k row column (replicate n tag ++ tags) → Behind k tags
behind zero tag k row column tags low fits h = record { row = row; column = column; low = low; fits = fits; stays = h }
behind (suc n) tag k row column tags low fits h = behind n tag k _ _ tags h.0 h.1 h.2

abbrev pub spelled_out : List (ℕ × ℕ) → List ℕ
spelled_out runs = flat_map (λ (run : ℕ × ℕ). replicate run.0 run.1) runs

abbrev pub CountsTo : ℕ → List (ℕ × ℕ) → Type 0
CountsTo k runs = AllByRecursion (λ (run : ℕ × ℕ). run.0 ≤ k) runs

tag_measure : (t : Bool) (row column n k : ℕ) → cond t row column + n ≤ k → n ≤ k
tag_measure t row column n k h = omega (arith, h)

measure_low : (t : Bool) (row column k : ℕ) → row ≤ k → column ≤ k → cond t row column ≤ k
measure_low true row column k low fits = low
measure_low false row column k low fits = fits

pub counts_to : (runs : List (ℕ × ℕ)) (k row column : ℕ) → row ≤ k → column ≤ k → Stays k row column (spelled_out runs)
    → CountsTo k runs
counts_to [] k row column low fits h = tt
counts_to (r ∷ runs) k row column low fits h =
    let on = behind r.0 r.1 k row column (spelled_out runs) low fits h in (
      tag_measure (eqb r.1 36) row column r.0 k (count_by (eqb r.1 36) r.0 r.1 k row column
          (spelled_out runs) refl (measure_low (eqb r.1 36) row column k low fits) h),
      counts_to runs k on.row on.column on.low on.fits on.stays,
    )

-- ---- items

-- a run's item
abbrev pub item_of : ℕ × ℕ → Item
item_of r = record { digits = cond (eqb r.0 1) [] (decimal r.0); tag = Some r.1 }

-- a run that is read as its item
pub record IsRun (r : ℕ × ℕ) : Type 0 where
  pub some : 0 < r.0
  pub small : r.0 < 2 ^ 64
  pub kind : IsTag r.1

no_digit : (tag : ℕ) → IsTag tag → is_ascii_digit tag ≡ false
no_digit tag (inl e) = ap is_ascii_digit e
no_digit tag (inr (inl e)) = ap is_ascii_digit e
no_digit tag (inr (inr e)) = ap is_ascii_digit e

digits_on : (ds digits rest : List ℕ) → AllDigits 10 digits
    → items_after ds (digits ++ rest) ≡ items_after (ds ++ digits) rest
unfolding items_after
digits_on ds [] rest all = ap (λ d. items_after d rest) (sym (append-nil ds))
digits_on ds (d ∷ digits) rest all =
    ap (λ t. cond t (items_after (ds ++ d ∷ []) (digits ++ rest))
    (record { digits = ds; tag = Some d } ∷ items_after [] (digits ++ rest))) (is_digit d all.0)
    ∙ digits_on (ds ++ d ∷ []) digits rest all.1
    ∙ ap (λ x. items_after x rest) (append_assoc ds (d ∷ []) digits)

tag_on : (ds rest : List ℕ) (tag : ℕ) → is_ascii_digit tag ≡ false
    → items_after ds (tag ∷ rest) ≡ record { digits = ds; tag = Some tag } ∷ items_after [] rest
unfolding items_after
tag_on ds rest tag other =
    ap (λ t. cond t (items_after (ds ++ tag ∷ []) rest) (record { digits = ds; tag = Some tag } ∷ items_after [] rest))
    other

digits_of_count : (n : ℕ) (t : Bool) → n < 2 ^ 64 → AllDigits 10 (cond t [] (decimal n))
digits_of_count n true small = tt
digits_of_count n false small = (decimal_is_IsNumeral n small).0.1

one_item : (r : ℕ × ℕ) (rest : List ℕ) → IsRun r
    → items_after [] (item_text r ++ rest) ≡ item_of r ∷ items_after [] rest
one_item r rest is =
    ap (λ b. items_after [] b) (append_assoc (cond (eqb r.0 1) [] (decimal r.0)) (r.1 ∷ []) rest)
    ∙ digits_on [] (cond (eqb r.0 1) [] (decimal r.0)) (r.1 ∷ rest) (digits_of_count r.0 (eqb r.0 1) is.small)
    ∙ tag_on (cond (eqb r.0 1) [] (decimal r.0)) rest r.1 (no_digit r.1 is.kind)

-- the end of the bytes, if there is no item
abbrev nothing : List Item
nothing = record { digits = []; tag = None } ∷ []

no_items : items_after [] [] ≡ nothing
unfolding items_after
no_items = refl

cut : (runs : List (ℕ × ℕ)) → AllByRecursion IsRun runs → items_of (spelled_runs runs) ≡ map item_of runs ++ nothing
cut [] all = no_items
cut (r ∷ runs) all = one_item r (spelled_runs runs) all.0 ∙ ap (λ items. item_of r ∷ items) (cut runs all.1)

some_count : (ds : List ℕ) → 0 < length ds → count_of ds ≡ digits_value 10 ds
some_count [] some = absurd (omega arith)
some_count (d ∷ ds) some = refl

count_is : (r : ℕ × ℕ) → IsRun r → count (item_of r) ≡ r.0
count_is r is = elim (cases_eq r.0 1) [
  | inl one ↦ ap (λ t. count_of (cond t [] (decimal r.0))) (eq-eqb r.0 1 one) ∙ sym one
  | inr more ↦ let numeral = decimal_is_IsNumeral r.0 is.small in
      ap (λ t. count_of (cond t [] (decimal r.0))) (ne_eqb r.0 1 more)
      ∙ some_count (decimal r.0) numeral.0.0 ∙ numeral.1
]

-- ---- cells

abbrev Places : List (ℕ × ℕ) → Type 0
Places runs =
    (before : List Item) (row column : ℕ) → row_after before ≡ row → column_after before ≡ column
    → placed_after before (map item_of runs) ≡ walk row column (spelled_out runs)

next_placed : (before items : List Item) (item : Item)
    → placed_after before (item ∷ items) ≡ cells_at before item ++ placed_after (before ++ item ∷ []) items
unfolding placed_after
next_placed before items item = refl

no_run : (column row : ℕ) → run column row 0 ≡ []
unfolding run
no_run column row = refl

place_rows : (n : ℕ) (runs : List (ℕ × ℕ)) → IsRun (n, 36) → Places runs → Places ((n, 36) ∷ runs)
place_rows zero runs is on before row column at_row at_column = absurd (omega (arith, is.some))
place_rows (suc n) runs is on before row column at_row at_column =
    let item : Item = item_of (suc n, 36) in
    next_placed before (map item_of runs) item
    ∙ ap (λ cells. cells ++ placed_after (before ++ item ∷ []) (map item_of runs))
    (no_run (column_after before) (row_after before))
    ∙ on (before ++ item ∷ []) (row + suc n) 0 (row_after_push before item
    ∙ omega (arith, at_row, count_is (suc n, 36) is)) (column_after_row_end before item refl)
    ∙ sym (walk_rows n row column (spelled_out runs))

place_dead : (n : ℕ) (runs : List (ℕ × ℕ)) → IsRun (n, 98) → Places runs → Places ((n, 98) ∷ runs)
place_dead n runs is on before row column at_row at_column =
    let item : Item = item_of (n, 98) in
    next_placed before (map item_of runs) item
    ∙ ap (λ cells. cells ++ placed_after (before ++ item ∷ []) (map item_of runs))
    (no_run (column_after before) (row_after before))
    ∙ on (before ++ item ∷ []) row (column + n) (row_after_push before item ∙ omega (arith, at_row))
    (column_after_push before item refl ∙ omega (arith, at_column, count_is (n, 98) is))
    ∙ sym (walk_dead n row column (spelled_out runs))

place_live : (n : ℕ) (runs : List (ℕ × ℕ)) → IsRun (n, 111) → Places runs → Places ((n, 111) ∷ runs)
place_live n runs is on before row column at_row at_column =
    let item : Item = item_of (n, 111) in
    next_placed before (map item_of runs) item
    ∙ ap (λ c. run c (row_after before) (count item) ++ placed_after (before ++ item ∷ []) (map item_of runs)) at_column
    ∙ ap (λ r. run column r (count item) ++ placed_after (before ++ item ∷ []) (map item_of runs)) at_row
    ∙ ap (λ k. run column row k ++ placed_after (before ++ item ∷ []) (map item_of runs)) (count_is (n, 111) is)
    ∙ ap (λ cells. run column row n ++ cells)
    (on (before ++ item ∷ []) row (column + n) (row_after_push before item ∙ omega (arith, at_row))
    (column_after_push before item refl ∙ omega (arith, at_column, count_is (n, 111) is)))
    ∙ sym (walk_live n row column (spelled_out runs))

place_by : (n tag : ℕ) (runs : List (ℕ × ℕ)) → IsTag tag → IsRun (n, tag) → Places runs → Places ((n, tag) ∷ runs)
place_by n tag runs (inl e) is on =
    let P : ℕ → Type 0 = λ k. IsRun (n, k) → Places ((n, k) ∷ runs) in subst P (sym e) (λ i. place_rows n runs i on) is
place_by n tag runs (inr (inl e)) is on =
    let P : ℕ → Type 0 = λ k. IsRun (n, k) → Places ((n, k) ∷ runs) in subst P (sym e) (λ i. place_dead n runs i on) is
place_by n tag runs (inr (inr e)) is on =
    let P : ℕ → Type 0 = λ k. IsRun (n, k) → Places ((n, k) ∷ runs) in subst P (sym e) (λ i. place_live n runs i on) is

places : (runs : List (ℕ × ℕ)) → AllByRecursion IsRun runs → Places runs
unfolding placed_after
places [] all before row column at_row at_column = refl
places (r ∷ runs) all before row column at_row at_column =
    place_by r.0 r.1 runs all.0.kind all.0 (places runs all.1) before row column at_row at_column

nothing_placed : (before : List Item) → placed_after before nothing ≡ []
unfolding placed_after
nothing_placed before = ap (λ cells. cells ++ []) (no_run (column_after before) (row_after before))

at_start : (row_after [] ≡ 0) × (column_after [] ≡ 0)
unfolding row_after column_after
at_start = (refl, refl)

-- runs that are read back place what a reader places who takes one step a tag
pub runs_placed : (runs : List (ℕ × ℕ)) → AllByRecursion IsRun runs
    → placed (items_of (spelled_runs runs)) ≡ walk 0 0 (spelled_out runs)
runs_placed runs all =
    ap placed (cut runs all)
    ∙ placed_after-append [] (map item_of runs) nothing
    ∙ ap (λ cells. placed (map item_of runs) ++ cells) (nothing_placed (map item_of runs))
    ∙ append-nil (placed (map item_of runs))
    ∙ places runs all [] 0 0 at_start.0 at_start.1
