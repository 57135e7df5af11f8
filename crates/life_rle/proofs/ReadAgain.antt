-- A record that is read has a valid rule and fits in 1024 by 1024, so its text is read as the same record.
use Rattle.std.proofs.Common.{◌≡◌, ℕ, ◌+◌, ◌-◌, ◌≤◌, zero, suc, Bool, true, false, cond, ◌&&◌, ◌||◌, nat_le, nat_lt}
use Rattle.std.proofs.Common.{nat_eq, List, [], ◌∷◌, ◌++◌, length, map, refl, ap, ◌∙◌, sym, subst, arith, Option, None}
use Rattle.std.proofs.Common.{Some, Result, Ok, Err, inl, inr, if◌then◌else◌}
use Rattle.std.specs.List.{All, list_all, list_any, flat_map}
use Rattle.std.specs.FinSet as set
use Rattle.std.proofs.lemmas.Int.{ints}
use Rattle.std.proofs.lemmas.Bool.{cases_Bool, cases_eq, and_parts, or_parts, ltb-false, leb-true, eqb-true, ne_eqb}
use Rattle.std.proofs.lemmas.List.Elements.{All-nil, All-cons}
use Rattle.life_core.specs.Rule.{RuleSets, IsRule, life}
use Rattle.life_core.specs.declared.rule_text.RuleFault.{RuleFault}
use Rattle.life_core.specs.declared.rule_text.RuleFault.TheVariants.{BirthZero}
use Rattle.life_core.specs.RuleText.{is_count_digit, AreCountDigits, HasRuleForm, RuleDigits, normalized_text}
use Rattle.life_core.specs.RuleText.{digits_by_form, counts_of_digits, rule_of_digits, read_rule, without_blanks}
use Rattle.life_core.specs.RuleText.HasRuleForm.{birth_first, survival_first, bare_digits}
use Rattle.life_core.proofs.RuleTextForms.{digits_by_form-spells}
use Rattle.life_rle.specs.declared.rle_fault.RleFault.{RleFault}
use Rattle.life_rle.specs.declared.rle_fault.RleFault.TheVariants.{TooLong, TextLimit, BadCount, TooWide}
use Rattle.life_rle.specs.RleFault.{in_file}
use Rattle.life_rle.specs.RleLines.{lines_of}
use Rattle.life_rle.specs.Notes.{Notes, no_notes, notes_of, is_past_limit}
use Rattle.life_rle.specs.Header.{header_rule}
use Rattle.life_rle.specs.Body.{Item, count, is_end, has_tag, is_counted, is_bad_number, row_after, column_after, run}
use Rattle.life_rle.specs.Body.{cells_at, placed, placed_after, fault_at, fault_at_tag, unless_faulty, checked_after}
use Rattle.life_rle.specs.Body.{placed_unless_faulty, items_of, body_cells, IsPlaced}
use Rattle.life_rle.specs.Record.{Contents, IsInside}
use Rattle.life_rle.specs.File.{cell_of, front_lines, header_lines, chosen_rule, body_part, contents, after_front}
use Rattle.life_rle.specs.File.{read_lines, kept, file}
use Rattle.life_rle.specs.Writer.{text}
use Rattle.life_rle.proofs.BodyPositions.{placed_push}
use Rattle.life_rle.proofs.RecordCells.{normal_inside}
use Rattle.life_rle.proofs.RecordLaws.{bind_ok, kept_is_record}
use Rattle.life_rle.proofs.RecordPairs.{AllInside}
use Rattle.life_rle.proofs.RoundText.{read_again}

-- ---- rules

small_digits : (ds : List ℕ) → AreCountDigits ds → (n : ℕ)
    → list_any (λ m. nat_eq m n) (map (λ d. d - 48) ds) ≡ true → n ≤ 8
small_digits [] digits n h = absurd cc
small_digits (d ∷ ds) digits n h =
    let parts = and_parts (is_count_digit d) (list_all is_count_digit ds) digits in
    elim (cases_Bool (nat_eq (d - 48) n)) [
      | inl here ↦
          let high = (and_parts (nat_le 48 d) (nat_le d 56) parts.0).1 in
          omega (arith, eqb-true (d - 48) n here, leb-true d 56 high)
      | inr other ↦
          small_digits ds parts.1 n (ap (λ b. b || list_any (λ m. nat_eq m n) (map (λ d. d - 48) ds)) (sym other) ∙ h)
    ]

small_counts : (ds : List ℕ) → AreCountDigits ds → (n : ℕ) → set.contains (counts_of_digits ds) n ≡ true → n ≤ 8
small_counts ds digits n h = small_digits ds digits n (sym (set.contains-from_list_nat (map (λ d. d - 48) ds) n) ∙ h)

digits_of_form : {text births survivals : List ℕ} → HasRuleForm text births survivals
    → AreCountDigits births × AreCountDigits survivals
digits_of_form (birth_first slash b s) = (b, s)
digits_of_form (survival_first slash b s) = (b, s)
digits_of_form (bare_digits b s) = (b, s)

rule_by : (births survivals : List ℕ) → AreCountDigits births → AreCountDigits survivals → (b : Bool)
    → set.contains (counts_of_digits births) 0 ≡ b → (r : RuleSets)
    → (if b then Err BirthZero else Ok
    (record { birth = counts_of_digits births; survival = counts_of_digits survivals })) ≡ Ok r → IsRule r
rule_by births survivals good also true has r is = absurd cc
rule_by births survivals good also false quiet r is =
    let same : (record { birth = counts_of_digits births; survival = counts_of_digits survivals }) ≡ r = cc in
    subst IsRule same (record {
      quiet = quiet;
      births = small_counts births good;
      survivals = small_counts survivals also;
    })

rule_from : (text : List ℕ) (o : Option RuleDigits) → digits_by_form text ≡ o → (r : RuleSets)
    → rule_of_digits o ≡ Ok r → IsRule r
rule_from text None by r is = absurd cc
rule_from text (Some digits) by r is =
    let both = digits_of_form (digits_by_form-spells text digits by) in
    rule_by digits.birth digits.survival both.0 both.1 (set.contains (counts_of_digits digits.birth) 0) refl r is

-- what a text is read as is a rule
read_is_rule : (text : List ℕ) (r : RuleSets) → read_rule text ≡ Ok r → IsRule r
unfolding read_rule
read_is_rule text r is = rule_from (normalized_text text) (digits_by_form (normalized_text text)) refl r is

in_file_ok : (read : Result RuleSets RuleFault) (r : RuleSets) → in_file read ≡ Ok r → read ≡ Ok r
in_file_ok (Ok rule) r is = cc
in_file_ok (Err fault) r is = absurd cc

life_is_rule : IsRule life
life_is_rule = record {
  quiet = set.contains-from_list_nat (3 ∷ []) 0;
  births = small_counts (51 ∷ []) refl;
  survivals = small_counts (50 ∷ 51 ∷ []) refl;
}

chosen_is_rule : (given noted : Option (List ℕ)) (r : RuleSets) → chosen_rule given noted ≡ Ok r → IsRule r
chosen_is_rule (Some text) noted r is = read_is_rule text r (in_file_ok (read_rule text) r is)
chosen_is_rule None (Some text) r is = read_is_rule text r (in_file_ok (read_rule text) r is)
chosen_is_rule None None r is = let same : life ≡ r = cc in subst IsRule same life_is_rule

-- ---- cells

inside_both : (xs ys : List (ℕ × ℕ)) → AllInside xs → AllInside ys → AllInside (xs ++ ys)
inside_both [] ys all also = also
inside_both (x ∷ xs) ys all also = (all.0, all.1, inside_both xs ys all.2 also)

run_inside : (column row n : ℕ) → column + n ≤ 1024 → row ≤ 1023 → AllInside (run column row n)
unfolding run
run_inside column row zero wide tall = tt
run_inside column row (suc n) wide tall =
    (omega (arith, wide), omega (arith, tall), run_inside (column + 1) row n (omega (arith, wide)) tall)

no_run : (column row n : ℕ) → AllInside (run column row 0)
unfolding run
no_run column row n = tt

-- a live item without a fault
live_inside : (column row n : ℕ) (b : Bool) → (nat_lt 1024 (column + n) || nat_lt 1023 row) ≡ b
    → (if b then Some TooWide else None) ≡ None → AllInside (run column row n)
live_inside column row n true is none = absurd cc
live_inside column row n false is none =
    let both = or_parts (nat_lt 1024 (column + n)) (nat_lt 1023 row) is in
    run_inside column row n (ltb-false 1024 (column + n) both.0) (ltb-false 1023 row both.1)

tag_inside : (before : List Item) (item : Item) (tag : Option ℕ) → fault_at_tag before item tag ≡ None
    → AllInside (run (column_after before) (row_after before) (if has_tag 111 tag then count item else 0))
tag_inside before item None none = no_run (column_after before) (row_after before) 0
tag_inside before item (Some b) none = elim (cases_eq b 111) [
  | inl live ↦
      subst (λ t. fault_at_tag before item (Some t) ≡ None → AllInside
      (run (column_after before) (row_after before) (if has_tag 111 (Some t) then count item else 0))) (sym live)
      (λ fine. live_inside (column_after before) (row_after before) (count item)
      (nat_lt 1024 (column_after before + count item) || nat_lt 1023 (row_after before)) refl fine) none
  | inr other ↦ rw (ne_eqb b 111 other) (no_run (column_after before) (row_after before) 0)
]

item_inside : (before : List Item) (item : Item) (b : Bool)
    → (if b then Some BadCount else fault_at_tag before item item.tag) ≡ None → AllInside (cells_at before item)
item_inside before item true none = absurd cc
item_inside before item false none = tag_inside before item item.tag none

after_item : (before items out : List Item) (item : Item) → AllInside (placed before)
    → (AllInside (placed (before ++ item ∷ [])) → checked_after (before ++ item ∷ []) items ≡ Ok out
    → AllInside (placed out))
    → (b : Bool) → fault_at before item ≡ None
    → (if b then Ok before else checked_after (before ++ item ∷ []) items) ≡ Ok out → AllInside (placed out)
after_item before items out item all rest true none ok =
    let same : before ≡ out = cc in subst (λ is. AllInside (placed is)) same all
after_item before items out item all rest false none ok =
    rest (subst AllInside (sym (placed_push before item)) (inside_both (placed before) (cells_at before item) all
    (item_inside before item (is_counted item && is_bad_number (count item)) none))) ok

by_fault : (before items out : List Item) (item : Item) → AllInside (placed before)
    → (AllInside (placed (before ++ item ∷ [])) → checked_after (before ++ item ∷ []) items ≡ Ok out
    → AllInside (placed out))
    → (o : Option RleFault) → fault_at before item ≡ o
    → unless_faulty o (if is_end item then Ok before else checked_after (before ++ item ∷ []) items) ≡ Ok out
    → AllInside (placed out)
by_fault before items out item all rest (Some fault) fails ok = absurd cc
by_fault before items out item all rest None none ok = after_item before items out item all rest (is_end item) none ok

judged_inside : (before items out : List Item) → AllInside (placed before) → checked_after before items ≡ Ok out
    → AllInside (placed out)
unfolding checked_after
judged_inside before [] out all is = absurd cc
judged_inside before (item ∷ items) out all is =
    by_fault before items out item all (judged_inside (before ++ item ∷ []) items out) (fault_at before item) refl is

body_inside : (body : List ℕ) (cells : List (ℕ × ℕ)) → body_cells body ≡ Ok cells → AllInside cells
unfolding body_cells placed_after
body_inside body cells is = by (checked_after [] (items_of body)) refl is
  where
    by : (r : Result (List Item) RleFault) → checked_after [] (items_of body) ≡ r → placed_unless_faulty r ≡ Ok cells
        → AllInside cells
    by (Err fault) judged ok = absurd cc
    by (Ok items) judged ok =
        let same : placed items ≡ cells = cc in subst AllInside same (judged_inside [] (items_of body) items tt judged)

all_placed : (cells : List (ℕ × ℕ)) → AllInside cells → All IsPlaced (map cell_of cells)
all_placed [] all = All-nil IsPlaced
all_placed (cell ∷ cells) all =
    All-cons IsPlaced (cell_of cell) (map cell_of cells)
    (record {
      row_low = omega (arith, ints);
      row_high = omega (arith, ints, all.1);
      column_low = omega (arith, ints);
      column_high = omega (arith, ints, all.0);
    }) (all_placed cells all.2)

-- ---- files

front_keeps : (n : Notes) (lines : List (List ℕ)) (r : Contents) → after_front n lines ≡ Ok r
    → IsRule r.rule × IsInside 1024 r.cells
unfolding after_front
front_keeps n [] r read = absurd cc
front_keeps n (line ∷ lines) r read =
    let header = bind_ok (header_rule (without_blanks line)) _ r read in
    let rule = bind_ok (chosen_rule header.0 n.rule) _ r header.2 in
    let cells = bind_ok (body_cells (flat_map body_part lines)) _ r rule.2 in
    let same : contents n rule.0 cells.0 ≡ r = cc in
    subst (λ (x : Contents). IsRule x.rule × IsInside 1024 x.cells) same (
      chosen_is_rule header.0 n.rule rule.0 rule.1,
      normal_inside (map cell_of cells.0) (all_placed cells.0 (body_inside (flat_map body_part lines) cells.0 cells.1)),
    )

by_limit : (t : Bool) (n : Notes) (lines : List (List ℕ)) (r : Contents)
    → cond t (Err TextLimit) (after_front n lines) ≡ Ok r → IsRule r.rule × IsInside 1024 r.cells
by_limit true n lines r read = absurd cc
by_limit false n lines r read = front_keeps n lines r read

kept_keeps : (bytes : List ℕ) (r : Contents) → kept bytes ≡ Ok r → IsRule r.rule × IsInside 1024 r.cells
unfolding kept read_lines
kept_keeps bytes r read =
    let notes = notes_of no_notes (front_lines (lines_of bytes)) in
    by_limit (is_past_limit notes) notes (header_lines (lines_of bytes)) r read

kept_again : (bytes : List ℕ) (r : Contents) → kept bytes ≡ Ok r → kept (text r) ≡ Ok r
kept_again bytes r read =
    let keeps = kept_keeps bytes r read in read_again r (kept_is_record bytes r read) keeps.0 keeps.1

-- what a file is read as is read from its text again
pub file_read_again : (bytes : List ℕ) (r : Contents) → file bytes ≡ Ok r → kept (text r) ≡ Ok r
unfolding file
file_read_again bytes r read = by_length (nat_lt 1048576 (length bytes)) read
  where
    by_length : (b : Bool) → (if b then Err TooLong else kept bytes) ≡ Ok r → kept (text r) ≡ Ok r
    by_length true long = absurd cc
    by_length false fits = kept_again bytes r fits
