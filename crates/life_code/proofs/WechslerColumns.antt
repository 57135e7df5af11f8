-- The text of a strip, spelled out, is its columns.
use Rattle.std.proofs.Common.{◌≡◌, ◌≢◌, ℕ, zero, suc, ◌+◌, ◌-◌, ◌<◌, ◌≤◌, false, Option, Some, None, List, [], ◌∷◌}
use Rattle.std.proofs.Common.{◌++◌, map, length, replicate, refl, sym, ap, ◌∙◌, subst, arith, inl, inr, ⊎_elim}
use Rattle.std.proofs.Common.{append_assoc, append-nil}
use Rattle.std.specs.Prelude.{nat_eq}
use Rattle.std.specs.List.{range_with_len, last_or}
use Rattle.std.proofs.lemmas.Bool.{cond-true, cond-false, ne_eqb, eq-eqb, cases_eq}
use Rattle.std.proofs.lemmas.List.{replicate-append-replicate}
use Rattle.std.proofs.lemmas.List.FromFn.{length-map-range_with_len}
use Rattle.life_code.specs.Wechsler.{width, character, zero_run, spelled, column_value, strip}
use Rattle.life_code.specs.CodeLaws.{columns_of, StripsAreTheirColumns}
use Rattle.life_code.proofs.WechslerReading.{AllColumns, value-char, not_char, zero_run_long}
use Rattle.life_code.proofs.WechslerTexts.{columns_small}

-- ---- single characters

of_y : (c : ℕ) (text : List ℕ) → c < 36
    → columns_of false (121 ∷ character c ∷ text) ≡ replicate (4 + c) 0 ++ columns_of false text
unfolding columns_of
of_y c text below = ap (λ n. replicate (4 + n) 0 ++ columns_of false text) (value-char c below)

of_column : (v : ℕ) (text : List ℕ) → 1 ≤ v → v < 32 → columns_of false (character v ∷ text) ≡ v ∷ columns_of false text
unfolding columns_of
of_column v text from below =
    cond-false _ _ _ (not_char v 48 from below (inl refl))
    ∙ cond-false _ _ _ (not_char v 119 from below (inr (omega arith)))
    ∙ cond-false _ _ _ (not_char v 120 from below (inr (omega arith)))
    ∙ cond-false _ _ _ (not_char v 121 from below (inr (omega arith)))
    ∙ ap (λ n. n ∷ columns_of false text) (value-char v (omega arith))

-- ---- a run of zero columns

of_zero_run : (n : ℕ) (text : List ℕ) → n < 40
    → columns_of false (zero_run n ++ text) ≡ replicate n 0 ++ columns_of false text
unfolding columns_of
of_zero_run zero text h = refl
of_zero_run (suc zero) text h = refl
of_zero_run (suc (suc zero)) text h = refl
of_zero_run (suc (suc (suc zero))) text h = refl
of_zero_run (suc (suc (suc (suc n)))) text h =
    ap (λ s. columns_of false (s ++ text)) (zero_run_long (suc (suc (suc (suc n)))) (omega arith))
    ∙ of_y (suc (suc (suc (suc n))) - 4) text (omega arith)
    ∙ ap (λ m. replicate m 0 ++ columns_of false text)
    (let e : 4 + (suc (suc (suc (suc n))) - 4) ≡ suc (suc (suc (suc n))) = omega arith in e)

-- ---- the columns of a strip

last_behind : (o : Option ℕ) (front : List ℕ) (v : ℕ) (back : List ℕ)
    → last_or o (front ++ v ∷ back) ≡ last_or (Some v) back
last_behind o [] v back = refl
last_behind o (x ∷ front) v back = last_behind (Some x) front v back

-- what is spelled after n zero columns: a list of columns whose last is not zero, or none
record Spelled (n : ℕ) (columns : List ℕ) : Type 0 where
  left : ℕ
  all : columns_of false (spelled n columns) ++ replicate left 0 ≡ replicate n 0 ++ columns
  last : (o : Option ℕ) → o ≢ Some 0 → last_or o (columns_of false (spelled n columns)) ≢ Some 0

one_more : (n : ℕ) (columns : List ℕ) → replicate (n + 1) 0 ++ columns ≡ replicate n 0 ++ 0 ∷ columns
one_more n columns =
    ap (λ l. l ++ columns) (sym (replicate-append-replicate n 1 0)) ∙ append_assoc (replicate n 0) (0 ∷ []) columns

no_zero : (v : ℕ) → 1 ≤ v → Some v ≢ Some 0
no_zero v from e = let same : v ≡ 0 = cc in omega arith

spelled_columns : (columns : List ℕ) (n : ℕ) → AllColumns columns → n + length columns ≤ 40 → Spelled n columns
unfolding spelled columns_of
spelled_columns [] n all short = record { left = n; all = sym (append-nil (replicate n 0)); last = λ o some. some }
spelled_columns (v ∷ columns) n all short = ⊎_elim
    (λ e.
    let text : spelled n (v ∷ columns) ≡ spelled (n + 1) columns = cond-true (nat_eq v 0) _ _ (eq-eqb v 0 e) in
    let more : Spelled (n + 1) columns = spelled_columns columns (n + 1) all.1 (omega arith) in
    record {
      left = more.left;
      all =
          ap (λ t. columns_of false t ++ replicate more.left 0) text ∙ more.all ∙ one_more n columns
          ∙ ap (λ u. replicate n 0 ++ u ∷ columns) (sym e);
      last = λ o some. subst (λ t. last_or o (columns_of false t) ≢ Some 0) (sym text) (more.last o some);
    })
    (λ ne.
    let more : Spelled 0 columns = spelled_columns columns 0 all.1 (omega arith) in
    let from : 1 ≤ v = omega arith in
    let out : columns_of false (spelled n (v ∷ columns)) ≡ replicate n 0 ++ v ∷ columns_of false (spelled 0 columns) =
    ap (columns_of false) (cond-false (nat_eq v 0) _ _ (ne_eqb v 0 ne))
    ∙ of_zero_run n (character v ∷ spelled 0 columns) (omega arith)
    ∙ ap (λ l. replicate n 0 ++ l) (of_column v (spelled 0 columns) from all.0) in
    record {
      left = more.left;
      all =
          ap (λ l. l ++ replicate more.left 0) out
          ∙ append_assoc (replicate n 0) (v ∷ columns_of false (spelled 0 columns)) (replicate more.left 0)
          ∙ ap (λ l. replicate n 0 ++ v ∷ l) more.all;
      last =
          λ o some. subst (λ l. last_or o l ≢ Some 0) (sym out) (λ e. more.last (Some v) (no_zero v from)
          (sym (last_behind o (replicate n 0) v (columns_of false (spelled 0 columns))) ∙ e));
    })
    (cases_eq v 0)

pub strips_are_their_columns : StripsAreTheirColumns
unfolding strip
strips_are_their_columns X s narrow =
    let is : Spelled 0 (map (column_value X s) (range_with_len 0 (width X))) =
    spelled_columns (map (column_value X s) (range_with_len 0 (width X))) 0 (columns_small X s 0 (width X))
    (let e = length-map-range_with_len (column_value X s) 0 (width X) in omega arith) in
    (is.left, is.all, is.last None (λ e. none_some e))
  where
    none_some : ◌≡◌ {A = Option ℕ} None (Some 0) → ⊥
    none_some e = cc
