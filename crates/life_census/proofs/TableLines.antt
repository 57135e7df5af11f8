-- The lines of a tally: none of their fields needs quotes, and the text is their concatenation.
use Rattle.std.proofs.Common.{◌≡◌, ℕ, ◌+◌, ◌<◌, ◌≤◌, true, false, ◌&&◌, ◌||◌, cond, List, [], ◌∷◌, ◌++◌, length, take}
use Rattle.std.proofs.Common.{get_or, append_assoc, append-nil, refl, sym, ap, ◌∙◌, Vec, arith, inl, inr}
use Rattle.std.specs.Prelude.{nat_le, ◌==◌, codes, map}
use Rattle.std.specs.Fmt.{decimal}
use Rattle.std.specs.List.{list_all}
use Rattle.std.proofs.lemmas.Bool.{or_cases, or_from, and_parts, leb-true, eqb-true, ne_eqb}
use Rattle.std.proofs.lemmas.List.{take_more}
use Rattle.std.proofs.lemmas.List.Concat.{flat_map-append, flat_map-cons}
use Rattle.std.specs.List.{flat_map}
use Rattle.csv.specs.Writing.{needs_byte, needs_quotes, default_writer, row_text, quoted, fields_text, is_blank}
use Rattle.std.proofs.lemmas.List.Folds.{flat_map-map}
use Rattle.life_census.specs.declared.tally_rows.Row.{Row}
use Rattle.life_census.specs.Rows.{row_seen}
use Rattle.csv.specs.declared.writer.Writer.{Writer}
use Rattle.life_census.specs.CensusTable.{line}
use Rattle.life_census.specs.CensusTableState.{Holds}
use Rattle.life_census.specs.CodeText.{is_code_byte}
use Rattle.life_census.proofs.CodeTextLaws.{decimal_plain}

pub same_text : {A : Type 0} (w : Writer (Vec ℕ A)) (a b : List ℕ) → a ≡ b → Holds w a → Holds w b
same_text w a b e h = rw (← e) h

-- a list's texts, and one more
pub more : {X : Type 0} (f : X → List ℕ) (head : List ℕ) (rows : List X) (i : ℕ) (d : X) → i < length rows
    → (head ++ flat_map f (take i rows)) ++ f (get_or rows i d) ≡ head ++ flat_map f (take (i + 1) rows)
more f head rows i d h = rw (
  take_more rows i d h,
  flat_map-append f (take i rows) (get_or rows i d ∷ []),
  flat_map-cons f (get_or rows i d) [],
) (rw (append_assoc head (flat_map f (take i rows)) (f (get_or rows i d)), append-nil (f (get_or rows i d))) refl)

-- ---- quotes

-- a code byte is no comma, no quote and no end of a line
above_marks : (b : ℕ) → is_code_byte b ≡ true → 48 ≤ b
above_marks b h = elim (or_cases ((nat_le 97 b && nat_le b 122) || (nat_le 48 b && nat_le b 57)) (b == 95) h) [
  | inl some ↦ elim (or_cases (nat_le 97 b && nat_le b 122) (nat_le 48 b && nat_le b 57) some) [
    | inl letter ↦ let low : 97 ≤ b = leb-true 97 b (and_parts (nat_le 97 b) (nat_le b 122) letter).0 in omega arith
    | inr digit ↦ leb-true 48 b (and_parts (nat_le 48 b) (nat_le b 57) digit).0
  ]
  | inr mark ↦ let is : b ≡ 95 = eqb-true b 95 mark in omega arith
]

no_mark : (b : ℕ) → 48 ≤ b → needs_byte default_writer b ≡ false
no_mark b h =
    or_from _ _ (or_from _ _ (or_from _ _ (or_from _ _ (ne_eqb b 44 (λ e. omega arith)) (ne_eqb b 34
    (λ e. omega arith))) (or_from _ _ (ne_eqb b 13 (λ e. omega arith)) (ne_eqb b 10 (λ e. omega arith)))) refl) refl

unquoted : (text : List ℕ) → list_all is_code_byte text ≡ true → needs_quotes default_writer text ≡ false
unquoted [] h = refl
unquoted (b ∷ text) h =
    let both = and_parts (is_code_byte b) (list_all is_code_byte text) h in
    or_from _ _ (no_mark b (above_marks b both.0)) (unquoted text both.1)

-- the record of a code and a number is their line
pub line_is : (code : List ℕ) (n : ℕ) → list_all is_code_byte code ≡ true
    → row_text default_writer (code ∷ decimal n ∷ []) ≡ line code n
unfolding fields_text is_blank
line_is code n h =
    (λ i. (cond (unquoted code h i) (quoted default_writer code) code ++ 44 ∷ (cond
    (unquoted (decimal n) (decimal_plain n) i) (quoted default_writer (decimal n)) (decimal n) ++ [])) ++ 10 ∷ [])
    ∙ ap (λ d. (code ++ 44 ∷ d) ++ 10 ∷ []) (append-nil (decimal n))

-- a line that a writer took
pub line_written : {A : Type 0} (before after : Writer (Vec ℕ A)) (code number : List ℕ) (n : ℕ)
    → list_all is_code_byte code ≡ true → number ≡ decimal n
    → ((text : List ℕ) → Holds before text → Holds after (text ++ row_text default_writer (code ∷ number ∷ [])))
    → (text : List ℕ) → Holds before text → Holds after (text ++ line code n)
line_written before after code number n plain same wrote text held =
    same_text after _ _ (ap (λ d. text ++ row_text default_writer (code ∷ d ∷ [])) same
    ∙ ap (λ l. text ++ l) (line_is code n plain)) (wrote text held)

-- the line of the names
pub names_are : row_text default_writer (codes "code" ∷ codes "count" ∷ []) ≡ codes "code,count" ++ 10 ∷ []
unfolding fields_text is_blank
names_are = refl

-- the lines of rows, and of what is seen of them
pub rows_seen : {A : Type 0} (rows : List (Row A)) → flat_map (λ (r : Row A). line r.code r.count) rows
    ≡ flat_map (λ (e : List ℕ × ℕ). line e.0 e.1) (map row_seen rows)
rows_seen {A = A} rows = sym (flat_map-map (λ (e : List ℕ × ℕ). line e.0 e.1) (row_seen {A = A}) rows)
