-- Steps of writing a Wechsler text.
use Rattle.std.proofs.Common.{◌≡◌, ◌≢◌, ℕ, zero, suc, ◌+◌, ◌/◌, ◌<◌, ◌≤◌, List, [], ◌∷◌, ◌++◌, map, length, drop}
use Rattle.std.proofs.Common.{get_or, refl, sym, ap, ◌∙◌, subst, arith, append_assoc, append-nil, add-one, drop-cons}
use Rattle.std.specs.List.{range_with_len, join_with_byte, All}
use Rattle.std.proofs.Math.ListN.{drop_of_length-le}
use Rattle.std.proofs.lemmas.Bool.{eq-eqb, ne_eqb, cond-true, cond-false}
use Rattle.std.proofs.lemmas.List.FromFn.{map-range_with_len_more, length-map-range_with_len}
use Rattle.std.proofs.lemmas.List.Elements.{All-from_recursion}
use Rattle.life_core.specs.Pattern.{Cells}
use Rattle.life_code.specs.Wechsler.{width, height, character, zero_run, spelled, column_value, strip, wechsler}
use Rattle.life_code.proofs.WechslerTexts.{columns_small}

-- ---- the columns of a strip

first_left : (columns : List ℕ) (i : ℕ) → i < length columns
    → drop i columns ≡ get_or columns i 0 ∷ drop (i + 1) columns
first_left columns i h = rw (add-one, drop-cons columns i 0)

spelled_zero : (n value : ℕ) (columns : List ℕ) → value ≡ 0 → spelled n (value ∷ columns) ≡ spelled (n + 1) columns
unfolding spelled
spelled_zero n value columns e = cond-true _ _ _ (eq-eqb value 0 e)

spelled_value : (n value : ℕ) (columns : List ℕ) → value ≢ 0
    → spelled n (value ∷ columns) ≡ zero_run n ++ character value ∷ spelled 0 columns
unfolding spelled
spelled_value n value columns ne = cond-false _ _ _ (ne_eqb value 0 ne)

spelled_none : (n : ℕ) → spelled n [] ≡ []
unfolding spelled
spelled_none n = refl

-- over a column of zero
pub step_zero : (text whole columns : List ℕ) (i n : ℕ) → i < length columns → get_or columns i 0 ≡ 0
    → text ++ spelled n (drop i columns) ≡ whole → text ++ spelled (n + 1) (drop (i + 1) columns) ≡ whole
step_zero text whole columns i n h e is =
    ap (λ s. text ++ s) (sym (ap (spelled n) (first_left columns i h) ∙ spelled_zero n _ _ e)) ∙ is

-- over another column: the run before it is written, and then its character
pub step_value : (text behind after whole columns : List ℕ) (i n last : ℕ) → i < length columns → get_or columns i 0 ≢ 0
    → behind ≡ text ++ zero_run n → last ≡ character (get_or columns i 0) → after ≡ behind ++ last ∷ []
    → text ++ spelled n (drop i columns) ≡ whole → after ++ spelled 0 (drop (i + 1) columns) ≡ whole
step_value text behind after whole columns i n last h ne run value written is =
    ap (λ t. t ++ spelled 0 (drop (i + 1) columns)) (written ∙ (λ j. run j ++ value j ∷ []))
    ∙ append_assoc (text ++ zero_run n) (character (get_or columns i 0) ∷ []) (spelled 0 (drop (i + 1) columns))
    ∙ append_assoc text (zero_run n) (character (get_or columns i 0) ∷ spelled 0 (drop (i + 1) columns))
    ∙ ap (λ s. text ++ s) (sym (ap (spelled n) (first_left columns i h) ∙ spelled_value n _ _ ne))
    ∙ is

-- if no column is left
pub at_end : (text whole columns : List ℕ) (i n : ℕ) → length columns ≤ i
    → text ++ spelled n (drop i columns) ≡ whole → text ≡ whole
at_end text whole columns i n h is =
    sym (append-nil text) ∙ ap (λ s. text ++ s)
    (sym (ap (spelled n) (drop_of_length-le columns h) ∙ spelled_none n)) ∙ is

-- ---- the strips of a text

joined : (x y : List ℕ) (xs : List (List ℕ))
    → join_with_byte 122 ((x ∷ xs) ++ y ∷ []) ≡ join_with_byte 122 (x ∷ xs) ++ 122 ∷ y
joined x y [] = refl
joined x y (z ∷ xs) =
    ap (λ t. x ++ 122 ∷ t) (joined z y xs) ∙ sym (append_assoc x (122 ∷ join_with_byte 122 (z ∷ xs)) (122 ∷ y))

first_strip : (f : ℕ → List ℕ) (s : ℕ) → s ≤ 0 → join_with_byte 122 (map f (range_with_len 0 (s + 1))) ≡ f s
first_strip f s h =
    subst (λ k. join_with_byte 122 (map f (range_with_len 0 (k + 1))) ≡ f k) (let e : 0 ≡ s = omega arith in e) refl

next_strip : (f : ℕ → List ℕ) (s : ℕ) → 0 < s → join_with_byte 122 (map f (range_with_len 0 (s + 1)))
    ≡ join_with_byte 122 (map f (range_with_len 0 s)) ++ 122 ∷ f s
next_strip f zero h = absurd (omega arith)
next_strip f (suc s) h =
    ap (join_with_byte 122) (map-range_with_len_more f 0 (suc s) (suc s) (omega arith))
    ∙ joined (f 0) (f (suc s)) (map f (range_with_len 1 s))

strip_is : (X : Cells) (s : ℕ) → strip X s ≡ spelled 0 (map (column_value X s) (range_with_len 0 (width X)))
unfolding strip
strip_is X s = refl

strip_of : (X : Cells) (s n : ℕ) (columns : List ℕ) → n ≡ width X
    → columns ≡ map (column_value X s) (range_with_len 0 n) → spelled 0 columns ≡ strip X s
strip_of X s n columns e is =
    ap (spelled 0) (is ∙ ap (λ k. map (column_value X s) (range_with_len 0 k)) e) ∙ sym (strip_is X s)

none_before : (f : ℕ → List ℕ) (s : ℕ) (before : List ℕ) → s ≤ 0
    → before ≡ join_with_byte 122 (map f (range_with_len 0 s)) → before ≡ []
none_before f s before h is =
    is ∙ ap (λ k. join_with_byte 122 (map f (range_with_len 0 k))) (let e : s ≡ 0 = omega arith in e)

-- the first strip is written
pub write_first : (X : Cells) (s n : ℕ) (columns before text : List ℕ)
    → n ≡ width X → columns ≡ map (column_value X s) (range_with_len 0 n) → s ≤ 0
    → before ≡ join_with_byte 122 (map (strip X) (range_with_len 0 s)) → text ≡ before ++ spelled 0 columns
    → text ≡ join_with_byte 122 (map (strip X) (range_with_len 0 (s + 1)))
write_first X s n columns before text e is h so t =
    t ∙ (λ i. none_before (strip X) s before h so i ++ strip_of X s n columns e is i) ∙ sym (first_strip (strip X) s h)

-- a later strip is written, after `z`
pub write_next : (X : Cells) (s n : ℕ) (columns before joint text : List ℕ)
    → n ≡ width X → columns ≡ map (column_value X s) (range_with_len 0 n) → 0 < s
    → before ≡ join_with_byte 122 (map (strip X) (range_with_len 0 s)) → joint ≡ before ++ 122 ∷ []
    → text ≡ joint ++ spelled 0 columns → text ≡ join_with_byte 122 (map (strip X) (range_with_len 0 (s + 1)))
write_next X s n columns before joint text e is h so z t =
    t ∙ ap (λ u. u ++ spelled 0 columns) z ∙ append_assoc before (122 ∷ []) (spelled 0 columns)
    ∙ (λ i. so i ++ 122 ∷ strip_of X s n columns e is i) ∙ sym (next_strip (strip X) s h)

pub columns_fit : (X : Cells) (s n : ℕ) (columns : List ℕ) → columns ≡ map (column_value X s) (range_with_len 0 n)
    → All (λ v. v < 32) columns
columns_fit X s n columns is =
    subst (λ cs. All (λ v. v < 32) cs) (sym is) (All-from_recursion (λ v. v < 32) _ (columns_small X s 0 n))

pub columns_few : (X : Cells) (s n : ℕ) (columns : List ℕ) → columns ≡ map (column_value X s) (range_with_len 0 n)
    → n ≤ 40 → length columns ≤ 40
columns_few X s n columns is h = let e = ap length is ∙ length-map-range_with_len (column_value X s) 0 n in omega arith

pub all_strips : (X : Cells) (text : List ℕ) (s rows : ℕ) → rows ≡ height X → s ≡ (rows + 4) / 5
    → text ≡ join_with_byte 122 (map (strip X) (range_with_len 0 s)) → text ≡ wechsler X
unfolding wechsler
all_strips X text s rows e is so =
    so ∙ ap (λ k. join_with_byte 122 (map (strip X) (range_with_len 0 k))) (is ∙ ap (λ k. (k + 4) / 5) e)
