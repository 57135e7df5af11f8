-- An item's text is read as the item.
use Rattle.std.proofs.Common.{◌≡◌, ℕ, ◌<◌, ◌≤◌, ◌+◌, true, false, cond, eqb, ltb, ◌||◌, List, [], ◌∷◌, ◌++◌, length}
use Rattle.std.proofs.Common.{refl, ap, ◌∙◌, sym, arith, Option, Some, None, min, inl, inr, unwrap_or, is_some}
use Rattle.std.specs.List.{flat_map}
use Rattle.std.specs.Char.{is_ascii_digit, digit_value}
use Rattle.std.specs.Fmt.{decimal}
use Rattle.std.specs.Str.Parse.{AllDigits, digits_value}
use Rattle.std.proofs.lemmas.Fmt.{decimal_is_IsNumeral}
use Rattle.std.proofs.lemmas.Str.Parse.{digit_from_value}
use Rattle.std.proofs.lemmas.List.{append_assoc, append-nil}
use Rattle.std.proofs.lemmas.Bool.{cases_eq, cases_lt, ne_eqb, eq-eqb, le-leb, and_from, le-ltb}
use Rattle.life_rle.specs.declared.rle_fault.RleFault.TheVariants.{BadCount, TooWide}
use Rattle.life_rle.specs.Body.{run, is_bad_number}
use Rattle.life_rle.specs.BodyState.{Position, goes, ends, fails, live, item_step, going, body_from, is_bad_count}
use Rattle.life_rle.specs.Writer.{item_text}
use Rattle.life_rle.specs.WriterState.{counted}
use Rattle.life_rle.proofs.BodyCounts.{so_far, so_far_push}
use Rattle.life_rle.proofs.BodyLaws.{step_digit, step_good, body_next}

-- between two items, and after these digits of a count
abbrev pub between : ℕ → ℕ → List (ℕ × ℕ) → Position
between row column cells = record { row = row; column = column; count = None; cells = cells }

abbrev pub counting : ℕ → ℕ → List (ℕ × ℕ) → Option ℕ → Position
counting row column cells count = record { row = row; column = column; count = count; cells = cells }

pub is_digit : (c : ℕ) → digit_value c < 10 → is_ascii_digit c ≡ true
is_digit c h = let r = digit_from_value c h in and_from _ _ (le-leb 48 c r.0) (le-leb c 57 r.1)

digits_read : (digits ds : List ℕ) (row column : ℕ) (cells : List (ℕ × ℕ)) (rest : List ℕ) → AllDigits 10 digits →
    body_from (counting row column cells (so_far ds)) (digits ++ rest)
    ≡ body_from (counting row column cells (so_far (ds ++ digits))) rest
digits_read [] ds row column cells rest all =
    ap (λ d. body_from (counting row column cells (so_far d)) rest) (sym (append-nil ds))
digits_read (d ∷ digits) ds row column cells rest all =
    body_next (counting row column cells (so_far ds)) d (digits ++ rest)
    ∙ ap (λ s. going s (λ q. body_from q (digits ++ rest)))
    (step_digit (counting row column cells (so_far ds)) d (is_digit d all.0))
    ∙ ap (λ c. body_from (counting row column cells c) (digits ++ rest)) (so_far_push ds d (is_digit d all.0))
    ∙ digits_read digits (ds ++ d ∷ []) row column cells rest all.1
    ∙ ap (λ x. body_from (counting row column cells (so_far x)) rest) (append_assoc ds (d ∷ []) digits)

so_far_is : (ds : List ℕ) → 0 < length ds → so_far ds ≡ Some (min (digits_value 10 ds) 1000001)
so_far_is [] h = absurd (omega arith)
so_far_is (d ∷ ds) h = refl

so_far_decimal : (n : ℕ) → n ≤ 1000000 → so_far (decimal n) ≡ Some n
so_far_decimal n small =
    let numeral = decimal_is_IsNumeral n (omega arith) in
    let same : digits_value 10 (decimal n) ≡ n = numeral.1 in
    so_far_is (decimal n) numeral.0.0
    ∙ ap Some (let e : min (digits_value 10 (decimal n)) 1000001 ≡ n = omega arith in e)

good_number : (n : ℕ) → 0 < n → n ≤ 1000000 → is_bad_number n ≡ false
good_number n some small = ap (λ t. t || ltb 1000000 n) (ne_eqb n 0 (λ e. omega arith)) ∙ le-ltb 1000000 n small

-- the byte after a count
tag_read : (n tag row column : ℕ) (cells : List (ℕ × ℕ)) (rest : List ℕ) (count : Option ℕ)
    → is_bad_count count ≡ false → unwrap_or count 1 ≡ n → is_ascii_digit tag ≡ false → eqb tag 33 ≡ false →
    body_from (counting row column cells count) (tag ∷ rest)
    ≡ going (item_step (between row column cells) n tag) (λ q. body_from q rest)
tag_read n tag row column cells rest count good is no_digit no_end =
    body_next (counting row column cells count) tag rest
    ∙ ap (λ s. going s (λ q. body_from q rest))
    (step_good (counting row column cells count) tag no_digit good
    ∙ ap (λ t. cond t (cond (is_some count) (fails BadCount) (ends cells))
    (item_step (counting row column cells count) (unwrap_or count 1) tag)) no_end
    ∙ ap (λ k. item_step (counting row column cells count) k tag) is)

pub item_read : (n tag row column : ℕ) (cells : List (ℕ × ℕ)) (rest : List ℕ) → 0 < n → n ≤ 1000000
    → is_ascii_digit tag ≡ false → eqb tag 33 ≡ false →
    body_from (between row column cells) (item_text (n, tag) ++ rest)
    ≡ going (item_step (between row column cells) n tag) (λ q. body_from q rest)
item_read n tag row column cells rest some small no_digit no_end = elim (cases_eq n 1) [
  | inl one ↦
      ap (λ t. body_from (between row column cells) ((cond t [] (decimal n) ++ tag ∷ []) ++ rest)) (eq-eqb n 1 one)
      ∙ tag_read n tag row column cells rest None refl (sym one) no_digit no_end
  | inr more ↦
      ap (λ t. body_from (between row column cells) ((cond t [] (decimal n) ++ tag ∷ []) ++ rest)) (ne_eqb n 1 more)
      ∙ ap (λ bytes. body_from (between row column cells) bytes) (append_assoc (decimal n) (tag ∷ []) rest)
      ∙ digits_read (decimal n) [] row column cells (tag ∷ rest) (decimal_is_IsNumeral n (omega arith)).0.1
      ∙ ap (λ c. body_from (counting row column cells c) (tag ∷ rest)) (so_far_decimal n small)
      ∙ tag_read n tag row column cells rest (Some n) (good_number n some small) refl no_digit no_end
]

abbrev pub joined : List (List ℕ) → List ℕ
joined texts = flat_map (λ t. t) texts

-- an item of this count, or nothing
counted_some : (n tag : ℕ) (rest : List ℕ) → 0 < n → joined (counted n tag) ++ rest ≡ item_text (n, tag) ++ rest
counted_some n tag rest some =
    ap (λ t. joined (cond t [] (item_text (n, tag) ∷ [])) ++ rest) (ne_eqb n 0 (λ e. omega arith))
    ∙ ap (λ t. t ++ rest) (append-nil (item_text (n, tag)))

counted_none : (n tag : ℕ) (rest : List ℕ) → n ≡ 0 → joined (counted n tag) ++ rest ≡ rest
counted_none n tag rest none = ap (λ t. joined (cond t [] (item_text (n, tag) ∷ [])) ++ rest) (eq-eqb n 0 none)

pub dead_read : (n row column : ℕ) (cells : List (ℕ × ℕ)) (rest : List ℕ) → column + n ≤ 1024 →
    body_from (between row column cells) (joined (counted n 98) ++ rest)
    ≡ body_from (between row (column + n) cells) rest
dead_read n row column cells rest fits = elim (cases_lt 0 n) [
  | inl some ↦
      ap (λ t. body_from (between row column cells) t) (counted_some n 98 rest some)
      ∙ item_read n 98 row column cells rest some (omega arith) refl refl
      ∙ ap (λ c. body_from (between row c cells) rest) (let e : min (column + n) 1024 ≡ column + n = omega arith in e)
  | inr none ↦
      ap (λ t. body_from (between row column cells) t) (counted_none n 98 rest (omega arith))
      ∙ ap (λ c. body_from (between row c cells) rest) (let e : column ≡ column + n = omega arith in e)
]

pub row_read : (n row column : ℕ) (cells : List (ℕ × ℕ)) (rest : List ℕ) → 0 < n → row + n ≤ 1024 →
    body_from (between row column cells) (joined (counted n 36) ++ rest) ≡ body_from (between (row + n) 0 cells) rest
row_read n row column cells rest some fits =
    ap (λ t. body_from (between row column cells) t) (counted_some n 36 rest some)
    ∙ item_read n 36 row column cells rest some (omega arith) refl refl
    ∙ ap (λ r. body_from (between r 0 cells) rest) (let e : min (row + n) 1024 ≡ row + n = omega arith in e)

pub no_row_read : (n row column : ℕ) (cells : List (ℕ × ℕ)) (rest : List ℕ) → n ≡ 0 →
    body_from (between row column cells) (joined (counted n 36) ++ rest) ≡ body_from (between row column cells) rest
no_row_read n row column cells rest none =
    ap (λ t. body_from (between row column cells) t) (counted_none n 36 rest none)

no_cells : (n row column : ℕ) (cells : List (ℕ × ℕ)) (rest : List ℕ) → n ≡ 0
    → body_from (between row column cells) rest ≡ body_from (between row (column + n) (cells ++ run column row n)) rest
unfolding run
no_cells n row column cells rest none =
    ap (λ c. body_from (between row c cells) rest) (let e : column ≡ column + n = omega arith in e)
    ∙ ap (λ s. body_from (between row (column + n) s) rest) (sym (append-nil cells))
    ∙ ap (λ k. body_from (between row (column + n) (cells ++ run column row k)) rest) (sym none)

pub live_read : (n row column : ℕ) (cells : List (ℕ × ℕ)) (rest : List ℕ) → column + n ≤ 1024 → row ≤ 1023 →
    body_from (between row column cells) (joined (counted n 111) ++ rest)
    ≡ body_from (between row (column + n) (cells ++ run column row n)) rest
unfolding run
live_read n row column cells rest fits low = elim (cases_lt 0 n) [
  | inl some ↦
      ap (λ t. body_from (between row column cells) t) (counted_some n 111 rest some)
      ∙ item_read n 111 row column cells rest some (omega arith) refl refl
      ∙ ap (λ t. going (cond (t || ltb 1023 row) (fails TooWide) (goes (live (between row column cells) n)))
      (λ q. body_from q rest)) (le-ltb 1024 (column + n) fits)
      ∙ ap (λ t. going (cond t (fails TooWide) (goes (live (between row column cells) n))) (λ q. body_from q rest))
      (le-ltb 1023 row low)
  | inr none ↦
      ap (λ t. body_from (between row column cells) t) (counted_none n 111 rest (omega arith))
      ∙ no_cells n row column cells rest (omega arith)
]
