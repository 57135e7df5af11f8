-- Cutting bytes into lines, items and runs loses no byte, and a header gives the size of the box.
use Rattle.std.proofs.Common.{◌≡◌, ℕ, ◌<◌, ◌≤◌, ◌+◌, max, ℤ, nat_abs, Bool, true, false, cond, eqb, List, [], ◌∷◌, ◌++◌}
use Rattle.std.proofs.Common.{map, replicate, Some, refl, ap, ◌∙◌, sym, subst, arith, add-one, inl, inr}
use Rattle.std.specs.List.{AllByRecursion, flat_map, fold, join_with_byte}
use Rattle.std.specs.Char.{is_ascii_digit}
use Rattle.std.proofs.lemmas.List.{append_assoc, append-nil}
use Rattle.std.proofs.lemmas.List.Concat.{flat_map-cons}
use Rattle.std.proofs.lemmas.Bool.{eqb-true, eqb-false}
use Rattle.std.specs.FinSet as set
use Rattle.life_core.specs.declared.cell.Cell.{Cell}
use Rattle.life_core.specs.Pattern.{Cells, IsBox, in_order, past_greatest}
use Rattle.life_core.proofs.PatternExtents.{past_from, past_from-above, past_from-reached, box_extents}
use Rattle.life_core.proofs.PatternMembers.{has_cell, contains-items}
use Rattle.life_core.proofs.PatternOrder.{has_cell-in_order}
use Rattle.life_rle.specs.Body.{Item, items_after, items_of}
use Rattle.life_rle.specs.RleLines.{lines_after, lines_of}
use Rattle.life_rle.specs.RleLaws.{tag_bytes, IsCut, AreMaximalRuns}
use Rattle.life_rle.specs.Record.{Contents, HasNoLineEnd, IsRecord}
use Rattle.life_rle.specs.Writer.{onto_run, runs_of, coordinates, pairs_of, width_of, height_of}
use Rattle.life_rle.proofs.LinesLaws.{lines_no_end}

-- ---- lines

-- bytes have a first line
abbrev HasFirst : List (List ℕ) → Type 0
HasFirst lines = (first : List ℕ) × (rest : List (List ℕ)) × (lines ≡ first ∷ rest)

first_by : (t : Bool) (line : List ℕ) (next on : List (List ℕ)) → HasFirst on → HasFirst (cond t (line ∷ next) on)
first_by true line next on has = (line, next, refl)
first_by false line next on has = has

first_line : (bytes line : List ℕ) → HasFirst (lines_after line bytes)
unfolding lines_after
first_line [] line = (line, [], refl)
first_line (b ∷ bytes) line =
    first_by (eqb b 10) line (lines_after [] bytes) (lines_after (line ++ b ∷ []) bytes)
    (first_line bytes (line ++ b ∷ []))

join_front : (line : List ℕ) (lines : List (List ℕ)) (first : List ℕ) (rest : List (List ℕ))
    → lines ≡ first ∷ rest → join_with_byte 10 (line ∷ lines) ≡ line ++ 10 ∷ join_with_byte 10 lines
join_front line lines first rest is =
    ap (λ (ls : List (List ℕ)). join_with_byte 10 (line ∷ ls)) is
    ∙ ap (λ (ls : List (List ℕ)). line ++ 10 ∷ join_with_byte 10 ls) (sym is)

joined_by : (t : Bool) (b : ℕ) (line bytes : List ℕ) → eqb b 10 ≡ t → join_with_byte 10 (lines_after [] bytes) ≡ bytes
    → join_with_byte 10 (lines_after (line ++ b ∷ []) bytes) ≡ (line ++ b ∷ []) ++ bytes
    → join_with_byte 10 (cond t (line ∷ lines_after [] bytes) (lines_after (line ++ b ∷ []) bytes)) ≡ line ++ b ∷ bytes
joined_by true b line bytes h next on =
    let first = first_line bytes [] in
    join_front line (lines_after [] bytes) first.0 first.1 first.2
    ∙ ap (λ (rest : List ℕ). line ++ 10 ∷ rest) next
    ∙ ap (λ (k : ℕ). line ++ k ∷ bytes) (sym (eqb-true b 10 h))
joined_by false b line bytes h next on = on ∙ append_assoc line (b ∷ []) bytes

joined : (bytes line : List ℕ) → join_with_byte 10 (lines_after line bytes) ≡ line ++ bytes
unfolding lines_after
joined [] line = sym (append-nil line)
joined (b ∷ bytes) line = joined_by (eqb b 10) b line bytes refl (joined bytes []) (joined bytes (line ++ b ∷ []))

pub lines_are_the_file : (bytes : List ℕ)
    → (join_with_byte 10 (lines_of bytes) ≡ bytes) × AllByRecursion HasNoLineEnd (lines_of bytes)
lines_are_the_file bytes = (joined bytes [], lines_no_end bytes [] tt)

-- ---- items

abbrev bytes_in : List Item → List ℕ
bytes_in items = flat_map (λ (i : Item). i.digits ++ tag_bytes i.tag) items

abbrev AreDigits : List ℕ → Type 0
AreDigits digits = AllByRecursion (λ b. is_ascii_digit b ≡ true) digits

digit_push : (ds : List ℕ) (b : ℕ) → AreDigits ds → is_ascii_digit b ≡ true → AreDigits (ds ++ b ∷ [])
digit_push [] b all h = (h, tt)
digit_push (d ∷ ds) b all h = (all.0, digit_push ds b all.1 h)

-- the items after these digits
abbrev Cuts : List ℕ → List ℕ → List Item → Type 0
Cuts digits body items = (bytes_in items ≡ digits ++ body) × AllByRecursion IsCut items

cuts_by : (t : Bool) (b : ℕ) (digits bytes : List ℕ) → is_ascii_digit b ≡ t → AreDigits digits
    → Cuts [] bytes (items_after [] bytes)
    → (is_ascii_digit b ≡ true → Cuts (digits ++ b ∷ []) bytes (items_after (digits ++ b ∷ []) bytes))
    → Cuts digits (b ∷ bytes) (cond t (items_after (digits ++ b ∷ []) bytes)
    (record { digits = digits; tag = Some b } ∷ items_after [] bytes))
cuts_by true b digits bytes h all next on = ((on h).0 ∙ append_assoc digits (b ∷ []) bytes, (on h).1)
cuts_by false b digits bytes h all next on = (
  flat_map-cons (λ (i : Item). i.digits ++ tag_bytes i.tag) (record { digits = digits; tag = Some b })
      (items_after [] bytes)
      ∙ ap (λ (rest : List ℕ). (digits ++ b ∷ []) ++ rest) next.0
      ∙ append_assoc digits (b ∷ []) bytes,
  (record { digits = all; tag = (h, tt) }, next.1),
)

cuts : (body digits : List ℕ) → AreDigits digits → Cuts digits body (items_after digits body)
unfolding items_after
cuts [] digits all = (append-nil (digits ++ []), (record { digits = all; tag = tt }, tt))
cuts (b ∷ bytes) digits all =
    cuts_by (is_ascii_digit b) b digits bytes refl all (cuts bytes [] tt)
    (λ h. cuts bytes (digits ++ b ∷ []) (digit_push digits b all h))

pub items_are_the_body : (body : List ℕ) → Cuts [] body (items_of body)
items_are_the_body body = cuts body [] tt

-- ---- runs

abbrev spelled_out : List (ℕ × ℕ) → List ℕ
spelled_out runs = flat_map (λ (run : ℕ × ℕ). replicate run.0 run.1) runs

abbrev AreRuns : List ℕ → List (ℕ × ℕ) → Type 0
AreRuns tags runs = (spelled_out runs ≡ tags) × AreMaximalRuns runs

-- one more tag in a run
one_more : (n tag : ℕ) → replicate (n + 1) tag ≡ tag ∷ replicate n tag
one_more n tag = ap (λ k. replicate k tag) (add-one n)

apart_longer : (n k tag : ℕ) (runs : List (ℕ × ℕ)) → 0 < k → AreMaximalRuns ((n, tag) ∷ runs)
    → AreMaximalRuns ((k, tag) ∷ runs)
apart_longer n k tag [] some apart = some
apart_longer n k tag (run ∷ runs) some apart = (some, apart.1, apart.2)

onto_by : (t : Bool) (tag : ℕ) (tags : List ℕ) (n other : ℕ) (runs : List (ℕ × ℕ)) → eqb other tag ≡ t
    → AreRuns tags ((n, other) ∷ runs)
    → AreRuns (tag ∷ tags) (cond t ((n + 1, tag) ∷ runs) ((1, tag) ∷ (n, other) ∷ runs))
onto_by true tag tags n other runs h are =
    let same : other ≡ tag = eqb-true other tag h in (
      flat_map-cons (λ (run : ℕ × ℕ). replicate run.0 run.1) (n + 1, tag) runs
          ∙ ap (λ (front : List ℕ). front ++ spelled_out runs) (one_more n tag)
          ∙ ap (λ k. tag ∷ (replicate n k ++ spelled_out runs)) (sym same)
          ∙ ap (λ (rest : List ℕ). tag ∷ rest)
          (sym (flat_map-cons (λ (run : ℕ × ℕ). replicate run.0 run.1) (n, other) runs) ∙ are.0),
      apart_longer n (n + 1) tag runs (omega arith) (subst (λ k. AreMaximalRuns ((n, k) ∷ runs)) same are.1),
    )
onto_by false tag tags n other runs h are = (
  flat_map-cons (λ (run : ℕ × ℕ). replicate run.0 run.1) (1, tag) ((n, other) ∷ runs)
      ∙ ap (λ (rest : List ℕ). tag ∷ rest) are.0,
  (omega arith, (λ same. eqb-false other tag h (sym same)), are.1),
)

onto : (tag : ℕ) (tags : List ℕ) (runs : List (ℕ × ℕ)) → AreRuns tags runs → AreRuns (tag ∷ tags) (onto_run tag runs)
onto tag tags [] are = (ap (λ (rest : List ℕ). tag ∷ rest) are.0, omega arith)
onto tag tags (run ∷ runs) are = onto_by (eqb run.1 tag) tag tags run.0 run.1 runs refl are

pub runs_are_longest : (tags : List ℕ) → AreRuns tags (runs_of tags)
unfolding runs_of
runs_are_longest [] = (refl, tt)
runs_are_longest (tag ∷ tags) = onto tag tags (runs_of tags) (runs_are_longest tags)

-- ---- boxes

width_from : (n : ℕ) (cs : List Cell)
    → fold (λ n (cell : ℕ × ℕ). max n (cell.0 + 1)) n (map coordinates cs) ≡ past_from (λ (c : Cell). c.column) n cs
width_from n [] = refl
width_from n (c ∷ cs) = width_from (max n (nat_abs c.column + 1)) cs

height_from : (n : ℕ) (cs : List Cell)
    → fold (λ n (cell : ℕ × ℕ). max n (cell.1 + 1)) n (map coordinates cs) ≡ past_from (λ (c : Cell). c.row) n cs
height_from n [] = refl
height_from n (c ∷ cs) = height_from (max n (nat_abs c.row + 1)) cs

module _ (f : Cell → ℤ) where
  -- a list whose cells are all in another reaches no further
  past_le : (cs ds : List Cell) → ((c : Cell) → has_cell cs c ≡ has_cell ds c) → past_from f 0 cs ≤ past_from f 0 ds
  past_le cs ds same = elim (past_from-reached f 0 cs) [
    | inl none ↦ omega arith
    | inr found ↦
        let below : nat_abs (f found.0) < past_from f 0 ds =
        past_from-above f 0 ds found.0 (sym (same found.0) ∙ found.1) in
        omega (arith, found.2)
  ]

  past_in_order : (X : Cells) → past_from f 0 (in_order X) ≡ past_greatest f X
  past_in_order X =
      let same : (c : Cell) → has_cell (in_order X) c ≡ has_cell (set.items X) c =
      λ c. has_cell-in_order X c ∙ contains-items X c in
      let there = past_le (in_order X) (set.items X) same in
      let back = past_le (set.items X) (in_order X) (λ c. sym (same c)) in
      omega arith

pub headers_give_the_box : (r : Contents) (left top : ℤ) (width height : ℕ)
    → IsRecord r → IsBox r.cells left top width height
    → (width_of (pairs_of r.cells) ≡ width) × (height_of (pairs_of r.cells) ≡ height)
headers_give_the_box r left top width height is box =
    let sizes = box_extents r.cells left top width height is.cells box in (
      width_from 0 (in_order r.cells) ∙ past_in_order (λ (c : Cell). c.column) r.cells ∙ sizes.0,
      height_from 0 (in_order r.cells) ∙ past_in_order (λ (c : Cell). c.row) r.cells ∙ sizes.1,
    )
