-- Line ends do not matter in a body: the lines of laid items are read as the items one after the other.
use Rattle.std.specs.Prelude.{◌==◌, slice_index}
use Rattle.std.proofs.Common.{◌≡◌, ℕ, ◌<◌, ◌≤◌, ◌+◌, ◌-◌, Bool, true, false, not, cond, eqb, ◌||◌, leb, List, [], ◌∷◌}
use Rattle.std.proofs.Common.{◌++◌, length, refl, ap, ◌∙◌, sym, arith, subst, inl, inr, Ok}
use Rattle.std.specs.List.{flat_map}
use Rattle.std.specs.Char.{digit_value}
use Rattle.std.specs.Fmt.{decimal}
use Rattle.std.specs.Str.Parse.{AllDigits}
use Rattle.std.proofs.lemmas.Fmt.{decimal_is_IsNumeral}
use Rattle.std.proofs.lemmas.Str.Parse.{digit_from_value}
use Rattle.std.proofs.lemmas.List.{append_assoc, append-nil}
use Rattle.std.proofs.lemmas.List.Concat.{flat_map-append}
use Rattle.std.proofs.lemmas.Bool.{not-true, or_parts, ne_eqb}
use Rattle.life_core.specs.RuleText.{is_blank, without_blanks}
use Rattle.life_rle.specs.RleLines.{lines_after, trim_start, is_mark_line}
use Rattle.life_rle.specs.Body.{body_cells}
use Rattle.life_rle.specs.File.{body_part}
use Rattle.life_rle.specs.Record.{HasNoLineEnd}
use Rattle.life_rle.specs.Writer.{laid, item_text, item_texts}
use Rattle.life_rle.specs.WriterState.{counted, texts_from, InOrder}
use Rattle.life_rle.proofs.LinesLaws.{lines_on}
use Rattle.life_rle.proofs.RecordPairs.{AllInside}
use Rattle.life_rle.proofs.RoundItems.{joined}
use Rattle.life_rle.proofs.WriterRuns.{texts_none, texts_same, texts_gap}
use Rattle.life_rle.proofs.RoundBody.{here_or_not, some_gap, order_on, body_round}

-- no line end, no blank and no `#`
abbrev pub is_plain : ℕ → Bool
is_plain b = not (b == 10 || is_blank b || b == 35)

abbrev pub AllPlain : List ℕ → Type 0
AllPlain [] = Unit {0}
AllPlain (b ∷ bytes) = (is_plain b ≡ true) × AllPlain bytes

pub record Plain (b : ℕ) : Type 0 where
  pub line_end : eqb b 10 ≡ false
  pub blank : is_blank b ≡ false
  pub mark : eqb b 35 ≡ false

pub plain_parts : (b : ℕ) → is_plain b ≡ true → Plain b
plain_parts b h =
    let all : (eqb b 10 || is_blank b || eqb b 35) ≡ false = not-true _ h in
    let first = or_parts (eqb b 10 || is_blank b) (eqb b 35) all in
    let second = or_parts (eqb b 10) (is_blank b) first.0 in
    record { line_end = second.0; blank = second.1; mark = first.1 }

pub plain_append : (xs ys : List ℕ) → AllPlain xs → AllPlain ys → AllPlain (xs ++ ys)
plain_append [] ys p q = q
plain_append (x ∷ xs) ys p q = (p.0, plain_append xs ys p.1 q)

pub plain_front : (xs ys : List ℕ) → AllPlain (xs ++ ys) → AllPlain xs
plain_front [] ys p = tt
plain_front (x ∷ xs) ys p = (p.0, plain_front xs ys p.1)

pub plain_back : (xs ys : List ℕ) → AllPlain (xs ++ ys) → AllPlain ys
plain_back [] ys p = p
plain_back (x ∷ xs) ys p = plain_back xs ys p.1

pub plain_no_end : (item : List ℕ) → AllPlain item → HasNoLineEnd item
plain_no_end [] p = tt
plain_no_end (b ∷ item) p = ((plain_parts b p.0).line_end, plain_no_end item p.1)

pub lines_plain : (item line rest : List ℕ) → AllPlain item
    → lines_after line (item ++ rest) ≡ lines_after (line ++ item) rest
lines_plain item line rest p = lines_on item line rest (plain_no_end item p)

pub plain_kept : (line : List ℕ) → AllPlain line → without_blanks line ≡ line
plain_kept [] p = refl
plain_kept (b ∷ line) p =
    ap (λ t. cond (not t) (b ∷ without_blanks line) (without_blanks line)) ((plain_parts b p.0).blank)
    ∙ ap (λ l. b ∷ l) (plain_kept line p.1)

plain_no_mark : (line : List ℕ) → AllPlain line → is_mark_line line ≡ false
plain_no_mark [] p = refl
plain_no_mark (b ∷ line) p =
    ap (λ t. eqb (slice_index (cond t (trim_start line) (b ∷ line)) 0) 35) ((plain_parts b p.0).blank)
    ∙ (plain_parts b p.0).mark

pub plain_body : (line : List ℕ) → AllPlain line → body_part line ≡ line
plain_body line p = ap (λ t. cond t [] (without_blanks line)) (plain_no_mark line p) ∙ plain_kept line p

laid_by : (t : Bool) (item : List ℕ) (items : List (List ℕ)) (used : ℕ) (line : List ℕ) → AllPlain line
    → AllPlain (joined (item ∷ items)) →
    flat_map body_part (lines_after (line ++ item) (laid (used + length item) items)) ≡ (line ++ item) ++ joined items →
    flat_map body_part (lines_after item (laid (length item) items)) ≡ item ++ joined items →
    flat_map body_part (lines_after line
    (cond t (item ++ laid (used + length item) items) (10 ∷ item ++ laid (length item) items)))
    ≡ line ++ joined (item ∷ items)
unfolding lines_after
laid_by true item items used line p q here next =
    ap (λ ls. flat_map body_part ls)
    (lines_plain item line (laid (used + length item) items) (plain_front item (joined items) q))
    ∙ here ∙ append_assoc line item (joined items)
laid_by false item items used line p q here next =
    ap (λ l. l ++ flat_map body_part (lines_after [] (item ++ laid (length item) items))) (plain_body line p)
    ∙ ap (λ ls. line ++ flat_map body_part ls)
    (lines_plain item [] (laid (length item) items) (plain_front item (joined items) q))
    ∙ ap (λ b. line ++ b) next

-- the lines of laid items, after a line that has begun
pub laid_body : (items : List (List ℕ)) (used : ℕ) (line : List ℕ) → AllPlain line → AllPlain (joined items)
    → flat_map body_part (lines_after line (laid used items)) ≡ line ++ joined items
unfolding laid lines_after
laid_body [] used line p q = ap (λ l. l ++ []) (plain_body line p)
laid_body (item ∷ items) used line p q =
    laid_by (leb (used + length item) 70) item items used line p q
    (laid_body items (used + length item) (line ++ item) (plain_append line item p (plain_front item (joined items) q))
    (plain_back item (joined items) q))
    (laid_body items (length item) item (plain_front item (joined items) q) (plain_back item (joined items) q))

digit_plain : (c : ℕ) → digit_value c < 10 → is_plain c ≡ true
digit_plain c h =
    let r = digit_from_value c h in
    let low : 48 ≤ c = r.0 in
    rw (
      ne_eqb c 10 (λ e. omega arith),
      ne_eqb c 32 (λ e. omega arith),
      ne_eqb c 9 (λ e. omega arith),
      ne_eqb c 13 (λ e. omega arith),
      ne_eqb c 35 (λ e. omega arith),
    ) refl

pub digits_plain : (ds : List ℕ) → AllDigits 10 ds → AllPlain ds
digits_plain [] all = tt
digits_plain (d ∷ ds) all = (digit_plain d all.0, digits_plain ds all.1)

item_plain : (n tag : ℕ) (t : Bool) → n ≤ 1024 → is_plain tag ≡ true → AllPlain (cond t [] (decimal n) ++ tag ∷ [])
item_plain n tag true small h = (h, tt)
item_plain n tag false small h =
    plain_append (decimal n) (tag ∷ []) (digits_plain (decimal n) (decimal_is_IsNumeral n (omega arith)).0.1) (h, tt)

counted_by : (n tag : ℕ) (t : Bool) → n ≤ 1024 → is_plain tag ≡ true
    → AllPlain (joined (cond t [] (item_text (n, tag) ∷ [])))
counted_by n tag true small h = tt
counted_by n tag false small h =
    subst AllPlain (sym (append-nil (item_text (n, tag)))) (item_plain n tag (eqb n 1) small h)

counted_plain : (n tag : ℕ) → n ≤ 1024 → is_plain tag ≡ true → AllPlain (joined (counted n tag))
counted_plain n tag small h = counted_by n tag (eqb n 0) small h

small_gap : (x n : ℕ) → x ≤ 1024 → x - n ≤ 1024
small_gap x n h = omega arith

gap_plain : (a b c d : List (List ℕ)) → AllPlain (joined a) → AllPlain (joined b) → AllPlain (joined c)
    → AllPlain (joined d) → AllPlain (joined (a ++ (b ++ (c ++ d))))
gap_plain a b c d p q r s =
    subst AllPlain (sym (flat_map-append (λ (t : List ℕ). t) a (b ++ (c ++ d))
    ∙ ap (λ t. joined a ++ t) (flat_map-append (λ (t : List ℕ). t) b (c ++ d)
    ∙ ap (λ t. joined b ++ t) (flat_map-append (λ (t : List ℕ). t) c d))))
    (plain_append (joined a) _ p (plain_append (joined b) _ q (plain_append (joined c) (joined d) r s)))

abbrev PlainTexts : List (List ℕ) → Type 0
PlainTexts texts = AllPlain (joined texts)

-- the items' texts have no line end, no blank and no `#`
pub texts_plain : (cells : List (ℕ × ℕ)) (live row from : ℕ) → InOrder row (from + live) cells
    → AllInside cells → from + live ≤ 1024 → PlainTexts (texts_from live row (from + live) cells)
texts_plain [] live row from order inside fits =
    subst PlainTexts (sym (texts_none live row (from + live))) (counted_plain live 111 (omega arith) refl)
texts_plain (cell ∷ cells) live row from order inside fits =
    elim (here_or_not cell row (from + live)) [
      | inl here ↦
          subst PlainTexts (sym (sym (texts_same live row (from + live) cell cells here.0 here.1)
          ∙ ap (λ r. texts_from (live + 1) r (cell.0 + 1) cells) here.0
          ∙ ap (λ c. texts_from (live + 1) row c cells) (let e : cell.0 + 1 ≡ from + (live + 1) = omega arith in e)))
          (texts_plain cells (live + 1) row from
          (order_on cells live row from cell here.0 here.1 order.2) inside.2 (omega arith))
      | inr gap ↦
          subst PlainTexts (sym (texts_gap live row (from + live) _ cell cells refl
          (λ _. some_gap row (from + live) cell order.0 order.1 gap)))
          (gap_plain (counted live 111) (counted (cell.1 - row) 36)
          (counted (cell.0 - cond (eqb cell.1 row) (from + live) 0) 98) (texts_from 1 cell.1 (cell.0 + 1) cells)
          (counted_plain live 111 (omega arith) refl) (counted_plain (cell.1 - row) 36 (omega arith) refl)
          (counted_plain _ 98 (small_gap cell.0 _ (omega arith)) refl)
          (texts_plain cells 1 cell.1 cell.0 order.2 inside.2 (omega arith)))
    ]

pub items_plain : (cells : List (ℕ × ℕ)) → InOrder 0 0 cells → AllInside cells → PlainTexts (item_texts cells)
items_plain cells order inside =
    subst AllPlain (sym (flat_map-append (λ (t : List ℕ). t) (texts_from 0 0 0 cells) ((33 ∷ []) ∷ [])))
    (plain_append (joined (texts_from 0 0 0 cells)) (33 ∷ [])
    (texts_plain cells 0 0 0 order inside (omega arith)) (refl, tt))

-- The lines of the body of a text are read as its cells.
pub body_lines_round : (cells : List (ℕ × ℕ)) → InOrder 0 0 cells → AllInside cells
    → body_cells (flat_map body_part (lines_after [] (laid 0 (item_texts cells)))) ≡ Ok cells
body_lines_round cells order inside =
    ap body_cells (laid_body (item_texts cells) 0 [] tt (items_plain cells order inside))
    ∙ body_round cells order inside
