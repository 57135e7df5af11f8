-- Adding hauls.
use Rattle.std.specs.Prelude.{◌≡◌, ℕ, zero, suc, ◌+◌, min, false, cond, List, [], ◌∷◌, ◌++◌, map, length, count_by}
use Rattle.std.specs.Prelude.{is_none, Option, None, Some, refl}
use Rattle.std.proofs.Common.{sym, ap, ◌∙◌, arith}
use Rattle.std.specs.List.{list_any, range_with_len}
use Rattle.std.proofs.lemmas.Bool.{or_parts}
use Rattle.std.proofs.lemmas.List.{map-append, length-append}
use Rattle.std.proofs.lemmas.List.Folds.{list_any-append}
use Rattle.std.proofs.lemmas.List.Sums.{sum_by-append}
use Rattle.life_census.specs.Counting.{how_often}
use Rattle.life_census.proofs.CountingLaws.{Texts, same_text}
use Rattle.life_hauls.specs.declared.haul_rows.Occurrences.{Occurrences}
use Rattle.life_hauls.specs.Hauls.{joined, together, rows_by, texts_in, counts_over, soup_codes}
use Rattle.life_hauls.specs.HaulLaws.{HaulsAddUp, TogetherByCodes, TogetherInAnyOrder, TogetherInAnyGrouping}
use Rattle.life_hauls.proofs.SeenLemmas.{seen-append}
use Rattle.life_hauls.proofs.HaulRows.{Rows, IsSorted, found, rows_are, sorted-rows, rows_say}
use Rattle.life_hauls.proofs.PushLemmas.{rows_over, found-over, sorted-over}

-- ---- rows

abbrev codes_of : Rows → Texts
codes_of es = map (λ (e : List ℕ × Occurrences). e.0) es

none_found : (q : List ℕ) (es : Rows) → list_any (same_text q) (codes_of es) ≡ false → found q es ≡ None
none_found q [] none = refl
none_found q (e ∷ es) none =
    let both = or_parts (same_text q e.0) (list_any (same_text q) (codes_of es)) none in
    ap (λ b. cond b (Some e.1) (found q es)) both.0 ∙ none_found q es both.1

abbrev both_rows : Rows → Rows → Rows
both_rows es fs = rows_by (λ t. joined (found t es) (found t fs)) (codes_of (es ++ fs))

found-both : (es fs : Rows) (q : List ℕ) → found q (both_rows es fs) ≡ joined (found q es) (found q fs)
found-both es fs q = rows_say (λ t. joined (found t es) (found t fs)) (codes_of (es ++ fs)) q (λ none.
    let split = sym (list_any-append (same_text q) (codes_of es) (codes_of fs))
    ∙ ap (list_any (same_text q)) (sym (map-append (λ (e : List ℕ × Occurrences). e.0) es fs)) ∙ none in
    let both = or_parts (list_any (same_text q) (codes_of es)) (list_any (same_text q) (codes_of fs)) split in
    λ k. joined (none_found q es both.0 k) (none_found q fs both.1 k))

sorted-both : (es fs : Rows) → IsSorted (both_rows es fs)
sorted-both es fs = sorted-rows (λ t. joined (found t es) (found t fs)) (codes_of (es ++ fs))

pub together_by_codes : TogetherByCodes
unfolding together
together_by_codes a b code = found-both a.rows b.rows code

joined_turn : (x y : Option Occurrences) → joined x y ≡ joined y x
joined_turn None None = refl
joined_turn None (Some t) = refl
joined_turn (Some s) None = refl
joined_turn (Some s) (Some t) =
    let count : s.count + t.count ≡ t.count + s.count = omega arith in
    let first : min s.first t.first ≡ min t.first s.first = omega arith in
    λ k. Some (record { count = count k; first = first k })

pub together_in_any_order : TogetherInAnyOrder
unfolding together
together_in_any_order a b =
    let rows = rows_are (both_rows a.rows b.rows) (both_rows b.rows a.rows) (sorted-both a.rows b.rows)
    (sorted-both b.rows a.rows)
    (λ q. found-both a.rows b.rows q ∙ joined_turn (found q a.rows) (found q b.rows)
    ∙ sym (found-both b.rows a.rows q)) in
    let unresolved = joined_turn a.unresolved b.unresolved in
    let soups : a.soups + b.soups ≡ b.soups + a.soups = omega arith in
    let total : a.total + b.total ≡ b.total + a.total = omega arith in
    λ k. record { rows = rows k; unresolved = unresolved k; soups = soups k; total = total k }

-- ---- three hauls

joined_regroup : (x y z : Option Occurrences) → joined (joined x y) z ≡ joined x (joined y z)
joined_regroup x y None = refl
joined_regroup x None (Some u) = refl
joined_regroup None (Some t) (Some u) = refl
joined_regroup (Some s) (Some t) (Some u) =
    let count : (s.count + t.count) + u.count ≡ s.count + (t.count + u.count) = omega arith in
    let first : min (min s.first t.first) u.first ≡ min s.first (min t.first u.first) = omega arith in
    λ k. Some (record { count = count k; first = first k })

found-left : (es fs gs : Rows) (q : List ℕ)
    → found q (both_rows (both_rows es fs) gs) ≡ joined (joined (found q es) (found q fs)) (found q gs)
found-left es fs gs q = found-both (both_rows es fs) gs q ∙ ap (λ o. joined o (found q gs)) (found-both es fs q)

found-right : (es fs gs : Rows) (q : List ℕ)
    → found q (both_rows es (both_rows fs gs)) ≡ joined (found q es) (joined (found q fs) (found q gs))
found-right es fs gs q = found-both es (both_rows fs gs) q ∙ ap (joined (found q es)) (found-both fs gs q)

pub together_in_any_grouping : TogetherInAnyGrouping
unfolding together
together_in_any_grouping a b c =
    let rows = rows_are (both_rows (both_rows a.rows b.rows) c.rows) (both_rows a.rows (both_rows b.rows c.rows))
    (sorted-both (both_rows a.rows b.rows) c.rows) (sorted-both a.rows (both_rows b.rows c.rows))
    (λ q. found-left a.rows b.rows c.rows q ∙ joined_regroup (found q a.rows) (found q b.rows) (found q c.rows)
    ∙ sym (found-right a.rows b.rows c.rows q)) in
    let unresolved = joined_regroup a.unresolved b.unresolved c.unresolved in
    let soups : (a.soups + b.soups) + c.soups ≡ a.soups + (b.soups + c.soups) = omega arith in
    let total : (a.total + b.total) + c.total ≡ a.total + (b.total + c.total) = omega arith in
    λ k. record { rows = rows k; unresolved = unresolved k; soups = soups k; total = total k }

-- ---- two lists of soups

counts-append : (codes : ℕ → List (Option (List ℕ))) (ms ns : List ℕ)
    → counts_over codes (ms ++ ns) ≡ together (counts_over codes ms) (counts_over codes ns)
unfolding counts_over together
counts-append codes ms ns =
    let texts : ℕ → Texts = λ i. texts_in (codes i) in
    let rows = rows_are (rows_over texts (ms ++ ns)) (both_rows (rows_over texts ms) (rows_over texts ns))
    (sorted-over texts (ms ++ ns)) (sorted-both (rows_over texts ms) (rows_over texts ns))
    (λ q. found-over texts (ms ++ ns) q ∙ seen-append (λ i. how_often q (texts i)) ms ns
    ∙ (λ k. joined (sym (found-over texts ms q) k) (sym (found-over texts ns q) k))
    ∙ sym (found-both (rows_over texts ms) (rows_over texts ns) q)) in
    let unresolved = seen-append (λ i. count_by is_none (codes i)) ms ns in
    let soups = length-append ms ns in
    let total = sum_by-append (λ i. length (codes i)) ms ns in
    λ k. record { rows = rows k; unresolved = unresolved k; soups = soups k; total = total k }

range-append : (first a b : ℕ) → range_with_len first (a + b) ≡ range_with_len first a ++ range_with_len (first + a) b
range-append first zero b =
    let one : 0 + b ≡ b = omega arith in
    let two : first ≡ first + 0 = omega arith in
    ap (range_with_len first) one ∙ ap (λ k. range_with_len k b) two
range-append first (suc a) b =
    let one : suc a + b ≡ suc (a + b) = omega arith in
    let two : (first + 1) + a ≡ first + suc a = omega arith in
    ap (range_with_len first) one ∙ ap (λ ks. first ∷ ks)
    (range-append (first + 1) a b ∙ ap (λ k. range_with_len (first + 1) a ++ range_with_len k b) two)

pub hauls_add_up : HaulsAddUp
hauls_add_up s root rule n limit first a b =
    ap (counts_over (soup_codes s root rule n limit)) (range-append first a b)
    ∙ counts-append (soup_codes s root rule n limit) (range_with_len first a) (range_with_len (first + a) b)
