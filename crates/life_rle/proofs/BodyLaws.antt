-- Reading a body byte by byte agrees with its items, whose positions are sums over the items before them.
use Rattle.std.proofs.Common.{◌≡◌, ℕ, ◌+◌, ◌<◌, ◌≤◌, Bool, true, false, cond, ◌||◌, List, [], ◌∷◌, ◌++◌, refl, ap, ◌∙◌}
use Rattle.std.proofs.Common.{sym, arith, Option, Some, None, Result, Ok, Err, is_some, ltb, eqb, min, unwrap_or, subst}
use Rattle.std.proofs.Common.{inl, inr}
use Rattle.std.specs.Char.{is_ascii_digit}
use Rattle.std.proofs.lemmas.List.{append-nil}
use Rattle.std.proofs.lemmas.Bool.{cases_eq, cases_lt, ne_eqb, lt-ltb, le-ltb, ltb-false}
use Rattle.life_rle.specs.declared.rle_fault.RleFault.{RleFault}
use Rattle.life_rle.specs.declared.rle_fault.RleFault.TheVariants.{BadCount, TooWide, NoEnd}
use Rattle.life_rle.specs.Body.{Item, count_of, is_bad_number, is_end, row_after, column_after, run, placed_after}
use Rattle.life_rle.specs.Body.{placed, items_after, fault_at, fault_at_tag, unless_faulty, checked_after}
use Rattle.life_rle.specs.Body.{placed_unless_faulty, body_cells}
use Rattle.life_rle.specs.BodyState.{Position, start, Step, goes, ends, fails, next_count, is_bad_count, moved, down}
use Rattle.life_rle.specs.BodyState.{live, item_step, step, going, body_from}
use Rattle.life_rle.proofs.BodyCounts.{so_far, so_far_push, bad_so_far, count_so_far, count_above}
use Rattle.life_rle.proofs.BodyPositions.{row_after_push, column_after_row_end, column_after_push, placed_push}

-- where an item stands after these items, with these digits of its count
abbrev pub stands : List Item → List ℕ → Position
stands before digits = record {
  row = min (row_after before) 1024;
  column = min (column_after before) 1024;
  count = so_far digits;
  cells = placed before;
}

abbrev item_of : List ℕ → ℕ → Item
item_of digits b = record { digits = digits; tag = Some b }

same_place : (r r' c c' : ℕ) (cells cells' : List (ℕ × ℕ)) → r ≡ r' → c ≡ c' → cells ≡ cells'
    → (let p : Position = record { row = r; column = c; count = None; cells = cells } in p)
    ≡ (let p : Position = record { row = r'; column = c'; count = None; cells = cells' } in p)
same_place r r' c c' cells cells' er ec e = cc

-- the steps of one item, by its tag, for a count that is not wrong
stands_down : (before : List Item) (digits : List ℕ)
    → down (stands before digits) (count_of digits) ≡ stands (before ++ item_of digits 36 ∷ []) []
unfolding run
stands_down before digits =
    let item : Item = item_of digits 36 in
    let r : min (min (row_after before) 1024 + count_of digits) 1024 ≡ min (row_after (before ++ item ∷ [])) 1024 =
    omega (arith, row_after_push before item) in
    let c : 0 ≡ min (column_after (before ++ item ∷ [])) 1024 = omega (arith, column_after_row_end before item refl) in
    let p : placed before ≡ placed (before ++ item ∷ []) = sym (placed_push before item ∙ append-nil (placed before)) in
    same_place _ _ _ _ _ _ r c p

stands_moved : (before : List Item) (digits : List ℕ)
    → moved (stands before digits) (count_of digits) ≡ stands (before ++ item_of digits 98 ∷ []) []
unfolding run
stands_moved before digits =
    let item : Item = item_of digits 98 in
    let r : min (row_after before) 1024 ≡ min (row_after (before ++ item ∷ [])) 1024 =
    omega (arith, row_after_push before item) in
    let c : min (min (column_after before) 1024 + count_of digits) 1024
    ≡ min (column_after (before ++ item ∷ [])) 1024 = omega (arith, column_after_push before item refl) in
    let p : placed before ≡ placed (before ++ item ∷ []) = sym (placed_push before item ∙ append-nil (placed before)) in
    same_place _ _ _ _ _ _ r c p

stands_live : (before : List Item) (digits : List ℕ) → column_after before + count_of digits ≤ 1024 → row_after before
    ≤ 1023 → live (stands before digits) (count_of digits) ≡ stands (before ++ item_of digits 111 ∷ []) []
stands_live before digits in_columns in_rows =
    let item : Item = item_of digits 111 in
    let row : min (row_after before) 1024 ≡ row_after before = omega arith in
    let column : min (column_after before) 1024 ≡ column_after before = omega arith in
    let r : min (row_after before) 1024 ≡ min (row_after (before ++ item ∷ [])) 1024 =
    omega (arith, row_after_push before item) in
    let c : min (column_after before) 1024 + count_of digits ≡ min (column_after (before ++ item ∷ [])) 1024 =
    omega (arith, column_after_push before item refl) in
    let p : placed before ++ run (min (column_after before) 1024) (min (row_after before) 1024) (count_of digits)
    ≡ placed (before ++ item ∷ []) =
    ap (λ x. placed before ++ run x (min (row_after before) 1024) (count_of digits)) column
    ∙ ap (λ x. placed before ++ run (column_after before) x (count_of digits)) row
    ∙ sym (placed_push before item) in
    same_place _ _ _ _ _ _ r c p

-- steps, by cases
pub step_digit : (p : Position) (b : ℕ) → is_ascii_digit b ≡ true
    → step p b ≡ goes (record p { count = Some (next_count p.count b) })
unfolding step
step_digit p b h = rw h refl

step_bad : (p : Position) (b : ℕ) → is_ascii_digit b ≡ false → is_bad_count p.count ≡ true → step p b ≡ fails BadCount
unfolding step
step_bad p b h bad = rw (h, bad) refl

pub step_good : (p : Position) (b : ℕ) → is_ascii_digit b ≡ false → is_bad_count p.count ≡ false → step p b
    ≡ cond (eqb b 33) (cond (is_some p.count) (fails BadCount) (ends p.cells)) (item_step p (unwrap_or p.count 1) b)
unfolding step
step_good p b h good = rw (h, good) refl

fault_bad : (before : List Item) (digits : List ℕ) (b : ℕ) → is_bad_count (so_far digits) ≡ true
    → fault_at before (item_of digits b) ≡ Some BadCount
fault_bad before digits b bad =
    ap (λ t. cond t (Some BadCount) (fault_at_tag before (item_of digits b) (Some b))) (sym (bad_so_far digits) ∙ bad)

fault_good : (before : List Item) (digits : List ℕ) (b : ℕ) → is_bad_count (so_far digits) ≡ false
    → fault_at before (item_of digits b) ≡ fault_at_tag before (item_of digits b) (Some b)
fault_good before digits b good =
    ap (λ t. cond t (Some BadCount) (fault_at_tag before (item_of digits b) (Some b))) (sym (bad_so_far digits) ∙ good)

judged_is : (before items : List Item) (item : Item) → checked_after before (item ∷ items)
    ≡ unless_faulty (fault_at before item) (cond (is_end item) (Ok before) (checked_after (before ++ item ∷ []) items))
unfolding checked_after
judged_is before items item = refl

-- what follows an item that is read
abbrev Agrees : List ℕ → Type 0
Agrees bytes =
    (before : List Item) (digits : List ℕ)
    → body_from (stands before digits) bytes ≡ placed_unless_faulty (checked_after before (items_after digits bytes))

abbrev onward : List ℕ → Step → Result (List (ℕ × ℕ)) RleFault
onward bytes s = going s (λ q. body_from q bytes)

abbrev answer : List Item → List Item → Item → Option RleFault → Result (List (ℕ × ℕ)) RleFault
answer before items item fault =
    placed_unless_faulty (unless_faulty fault
    (cond (is_end item) (Ok before) (checked_after (before ++ item ∷ []) items)))

-- the item with this byte is read as its items say
abbrev AtItem : List ℕ → List Item → List ℕ → ℕ → Type 0
AtItem bytes before digits b =
    onward bytes (cond (eqb b 33) (cond (is_some (so_far digits)) (fails BadCount) (ends (placed before)))
    (item_step (stands before digits) (unwrap_or (so_far digits) 1) b))
    ≡ answer before (items_after [] bytes) (item_of digits b) (fault_at_tag before (item_of digits b) (Some b))

at_end : (bytes : List ℕ) (before : List Item) (digits : List ℕ) → AtItem bytes before digits 33
at_end bytes before [] = refl
at_end bytes before (d ∷ ds) = refl

same_wide : (a n : ℕ) → 0 < n → ltb 1024 (min a 1024 + n) ≡ ltb 1024 (a + n)
same_wide a n some = elim (cases_lt 1024 (a + n)) [
  | inl wide ↦ lt-ltb 1024 (min a 1024 + n) (omega arith) ∙ sym (lt-ltb 1024 (a + n) wide)
  | inr fits ↦ le-ltb 1024 (min a 1024 + n) (omega arith) ∙ sym (le-ltb 1024 (a + n) fits)
]

same_tall : (a : ℕ) → ltb 1023 (min a 1024) ≡ ltb 1023 a
same_tall a = elim (cases_lt 1023 a) [
  | inl tall ↦ lt-ltb 1023 (min a 1024) (omega arith) ∙ sym (lt-ltb 1023 a tall)
  | inr fits ↦ le-ltb 1023 (min a 1024) (omega arith) ∙ sym (le-ltb 1023 a fits)
]

-- the two sides of a live item, by one test
live_sides : (bytes : List ℕ) → Agrees bytes → (before : List Item) (digits : List ℕ) (x y : Bool)
    → ltb 1024 (column_after before + count_of digits) ≡ x → ltb 1023 (row_after before) ≡ y →
    onward bytes (cond (x || y) (fails TooWide) (goes (live (stands before digits) (count_of digits))))
    ≡ answer before (items_after [] bytes) (item_of digits 111) (cond (x || y) (Some TooWide) None)
live_sides bytes agrees before digits true y hx hy = refl
live_sides bytes agrees before digits false true hx hy = refl
live_sides bytes agrees before digits false false hx hy =
    ap (λ q. body_from q bytes) (stands_live before digits (ltb-false 1024 _ hx)
    (omega (arith, ltb-false 1023 (row_after before) hy)))
    ∙ agrees (before ++ item_of digits 111 ∷ []) []

at_live : (bytes : List ℕ) → Agrees bytes → (before : List Item) (digits : List ℕ)
    → is_bad_count (so_far digits) ≡ false → AtItem bytes before digits 111
at_live bytes agrees before digits good =
    ap (λ n. onward bytes (item_step (stands before digits) n 111)) (count_so_far digits good)
    ∙ ap (λ t. onward bytes (cond (t || ltb 1023 (min (row_after before) 1024))
    (fails TooWide) (goes (live (stands before digits) (count_of digits)))))
    (same_wide (column_after before) (count_of digits) (count_above digits good))
    ∙ ap (λ t. onward bytes (cond (ltb 1024 (column_after before + count_of digits) || t) (fails TooWide)
    (goes (live (stands before digits) (count_of digits))))) (same_tall (row_after before))
    ∙ live_sides bytes agrees before digits _ _ refl refl

at_item : (bytes : List ℕ) → Agrees bytes → (before : List Item) (digits : List ℕ) (b : ℕ)
    → is_bad_count (so_far digits) ≡ false → AtItem bytes before digits b
at_item bytes agrees before digits b good = elim (cases_eq b 33) [
  | inl e ↦ let P : ℕ → Type 0 = AtItem bytes before digits in
      subst P (sym e) (at_end bytes before digits)
  | inr not_end ↦ elim (cases_eq b 98) [
    | inl e ↦ let P : ℕ → Type 0 = AtItem bytes before digits in
        subst P (sym e) (ap (λ n. onward bytes (goes (moved (stands before digits) n))) (count_so_far digits good)
        ∙ ap (λ q. body_from q bytes) (stands_moved before digits) ∙ agrees (before ++ item_of digits 98 ∷ []) [])
    | inr not_dead ↦ elim (cases_eq b 36) [
      | inl e ↦ let P : ℕ → Type 0 = AtItem bytes before digits in
          subst P (sym e) (ap (λ n. onward bytes (goes (down (stands before digits) n))) (count_so_far digits good)
          ∙ ap (λ q. body_from q bytes) (stands_down before digits) ∙ agrees (before ++ item_of digits 36 ∷ []) [])
      | inr not_row ↦ elim (cases_eq b 111) [
        | inl e ↦ let P : ℕ → Type 0 = AtItem bytes before digits in
            subst P (sym e) (at_live bytes agrees before digits good)
        | inr not_live ↦ rw (ne_eqb b 33 not_end, ne_eqb b 98 not_dead, ne_eqb b 36 not_row, ne_eqb b 111 not_live) refl
      ]
    ]
  ]
]

-- one more byte that is no digit
at_byte_by : (bytes : List ℕ) → Agrees bytes → (before : List Item) (digits : List ℕ) (b : ℕ)
    → is_ascii_digit b ≡ false → (t : Bool) → is_bad_count (so_far digits) ≡ t →
    onward bytes (step (stands before digits) b)
    ≡ answer before (items_after [] bytes) (item_of digits b) (fault_at before (item_of digits b))
at_byte_by bytes agrees before digits b h true bad =
    ap (λ s. onward bytes s) (step_bad (stands before digits) b h bad)
    ∙ sym (ap (λ f. answer before (items_after [] bytes) (item_of digits b) f) (fault_bad before digits b bad))
at_byte_by bytes agrees before digits b h false good =
    ap (λ s. onward bytes s) (step_good (stands before digits) b h good)
    ∙ at_item bytes agrees before digits b good
    ∙ sym (ap (λ f. answer before (items_after [] bytes) (item_of digits b) f) (fault_good before digits b good))

at_file_end : (before : List Item) (digits : List ℕ)
    → body_from (stands before digits) [] ≡ placed_unless_faulty (checked_after before (items_after digits []))
unfolding body_from items_after checked_after
at_file_end before [] = refl
at_file_end before (d ∷ ds) =
    elim (is_bad_number (count_of (d ∷ ds)))
    as (λ t. Err BadCount ≡ placed_unless_faulty (unless_faulty (cond t (Some BadCount) (Some BadCount)) (Err NoEnd)))
    [ true ↦ refl | false ↦ refl ]

pub body_next : (p : Position) (b : ℕ) (bytes : List ℕ) → body_from p (b ∷ bytes) ≡ onward bytes (step p b)
unfolding body_from
body_next p b bytes = refl

items_digit : (digits : List ℕ) (b : ℕ) (bytes : List ℕ) → is_ascii_digit b ≡ true
    → items_after digits (b ∷ bytes) ≡ items_after (digits ++ b ∷ []) bytes
unfolding items_after
items_digit digits b bytes h = rw h refl

items_byte : (digits : List ℕ) (b : ℕ) (bytes : List ℕ) → is_ascii_digit b ≡ false
    → items_after digits (b ∷ bytes) ≡ item_of digits b ∷ items_after [] bytes
unfolding items_after
items_byte digits b bytes h = rw h refl

by_digit : (bytes : List ℕ) → Agrees bytes → (before : List Item) (digits : List ℕ) (b : ℕ)
    → (t : Bool) → is_ascii_digit b ≡ t →
    onward bytes (step (stands before digits) b)
    ≡ placed_unless_faulty (checked_after before (items_after digits (b ∷ bytes)))
by_digit bytes agrees before digits b true h =
    ap (λ s. onward bytes s) (step_digit (stands before digits) b h)
    ∙ ap (λ c. body_from (let p : Position = record {
      row = min (row_after before) 1024;
      column = min (column_after before) 1024;
      count = c;
      cells = placed before;
    } in p) bytes) (so_far_push digits b h)
    ∙ agrees before (digits ++ b ∷ [])
    ∙ sym (ap (λ items. placed_unless_faulty (checked_after before items)) (items_digit digits b bytes h))
by_digit bytes agrees before digits b false h =
    at_byte_by bytes agrees before digits b h _ refl
    ∙ sym (ap placed_unless_faulty (judged_is before (items_after [] bytes) (item_of digits b)))
    ∙ sym (ap (λ items. placed_unless_faulty (checked_after before items)) (items_byte digits b bytes h))

-- Reading on from where an item stands is judging the items that are left.
pub agrees_all : (bytes : List ℕ) (before : List Item) (digits : List ℕ)
    → body_from (stands before digits) bytes ≡ placed_unless_faulty (checked_after before (items_after digits bytes))
agrees_all [] before digits = at_file_end before digits
agrees_all (b ∷ bytes) before digits =
    body_next (stands before digits) b bytes ∙ by_digit bytes (agrees_all bytes) before digits b _ refl

-- The body read byte by byte.
pub body_from_start : (body : List ℕ) → body_from start body ≡ body_cells body
unfolding body_cells placed_after row_after column_after
body_from_start body = agrees_all body [] []
