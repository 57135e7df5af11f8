-- The header line of a text is read as its rule.
use Rattle.std.proofs.Common.{◌≡◌, ℕ, ◌<◌, ◌≤◌, false, not, cond, List, [], ◌∷◌, ◌++◌, length, refl, ap, ◌∙◌, arith}
use Rattle.std.proofs.Common.{Option, Some, None, Ok}
use Rattle.std.specs.Char.{is_ascii_digit}
use Rattle.std.specs.Fmt.{decimal}
use Rattle.std.specs.Str.Parse.{AllDigits}
use Rattle.std.proofs.lemmas.Fmt.{decimal_is_IsNumeral}
use Rattle.std.proofs.lemmas.List.{append_assoc}
use Rattle.std.proofs.lemmas.List.Elements.{filter-append}
use Rattle.std.proofs.lemmas.Bool.{ne_eqb}
use Rattle.life_core.specs.RuleText.{is_blank, without_blanks}
use Rattle.life_rle.specs.RleLines.{line_kind, passed, header}
use Rattle.life_rle.specs.Header.{past_digits, after_number, rule_part, header_form, header_rule, formed}
use Rattle.life_rle.specs.Record.{HasNoLineEnd}
use Rattle.life_rle.proofs.RoundItems.{is_digit}
use Rattle.life_rle.proofs.RoundLines.{digits_plain, plain_kept, plain_no_end}

past_digits_stop : (ds rest : List ℕ) (c : ℕ) → AllDigits 10 ds → is_ascii_digit c ≡ false
    → past_digits (ds ++ c ∷ rest) ≡ c ∷ rest
past_digits_stop [] rest c all other = ap (λ t. cond t (past_digits rest) (c ∷ rest)) other
past_digits_stop (d ∷ ds) rest c all other =
    ap (λ t. cond t (past_digits (ds ++ c ∷ rest)) (d ∷ ds ++ c ∷ rest)) (is_digit d all.0)
    ∙ past_digits_stop ds rest c all.1 other

after_number_stop : (ds rest : List ℕ) (c : ℕ) → AllDigits 10 ds → 0 < length ds → is_ascii_digit c ≡ false
    → after_number (ds ++ c ∷ rest) ≡ Some (c ∷ rest)
after_number_stop [] rest c all some other = absurd (omega arith)
after_number_stop (d ∷ ds) rest c all some other =
    ap (λ t. cond t (Some (past_digits (ds ++ c ∷ rest))) None) (is_digit d all.0)
    ∙ ap Some (past_digits_stop ds rest c all.1 other)

decimal_number : (n : ℕ) (rest : List ℕ) (c : ℕ) → n ≤ 1024 → is_ascii_digit c ≡ false
    → after_number (decimal n ++ c ∷ rest) ≡ Some (c ∷ rest)
decimal_number n rest c small other =
    let numeral = decimal_is_IsNumeral n (omega arith) in
    after_number_stop (decimal n) rest c numeral.0.1 numeral.0.0 other

-- the header without its blanks
abbrev tight : ℕ → ℕ → List ℕ → List ℕ
tight width height rule =
    120 ∷ 61 ∷ decimal width ++ (44 ∷ 121 ∷ 61 ∷ decimal height ++ (44 ∷ 114 ∷ 117 ∷ 108 ∷ 101 ∷ 61 ∷ rule))

abbrev pub header_text : ℕ → ℕ → List ℕ → List ℕ
header_text width height rule =
    120 ∷ 32 ∷ 61 ∷ 32 ∷ decimal width ++ 44 ∷ 32 ∷ 121 ∷ 32 ∷ 61 ∷ 32 ∷ decimal height
    ++ 44 ∷ 32 ∷ 114 ∷ 117 ∷ 108 ∷ 101 ∷ 32 ∷ 61 ∷ 32 ∷ rule

decimal_kept : (n : ℕ) → n ≤ 1024 → without_blanks (decimal n) ≡ decimal n
decimal_kept n small = plain_kept (decimal n) (digits_plain (decimal n) (decimal_is_IsNumeral n (omega arith)).0.1)

header_tight : (width height : ℕ) (rule : List ℕ) → width ≤ 1024 → height ≤ 1024 → without_blanks rule ≡ rule
    → without_blanks (header_text width height rule) ≡ tight width height rule
header_tight width height rule w h r =
    ap without_blanks (append_assoc (120 ∷ 32 ∷ 61 ∷ 32 ∷ decimal width) (44 ∷ 32 ∷ 121 ∷ 32 ∷ 61 ∷ 32 ∷ decimal height)
    (44 ∷ 32 ∷ 114 ∷ 117 ∷ 108 ∷ 101 ∷ 32 ∷ 61 ∷ 32 ∷ rule))
    ∙ filter-append (λ b. not (is_blank b)) (120 ∷ 32 ∷ 61 ∷ 32 ∷ decimal width)
    (44 ∷ 32 ∷ 121 ∷ 32 ∷ 61 ∷ 32 ∷ decimal height ++ 44 ∷ 32 ∷ 114 ∷ 117 ∷ 108 ∷ 101 ∷ 32 ∷ 61 ∷ 32 ∷ rule)
    ∙ ap (λ d. 120 ∷ 61 ∷ d ++ without_blanks (44 ∷ 32 ∷ 121 ∷ 32 ∷ 61 ∷ 32 ∷ decimal height
    ++ 44 ∷ 32 ∷ 114 ∷ 117 ∷ 108 ∷ 101 ∷ 32 ∷ 61 ∷ 32 ∷ rule)) (decimal_kept width w)
    ∙ ap (λ t. 120 ∷ 61 ∷ decimal width ++ t)
    (filter-append (λ b. not (is_blank b)) (44 ∷ 32 ∷ 121 ∷ 32 ∷ 61 ∷ 32 ∷ decimal height)
    (44 ∷ 32 ∷ 114 ∷ 117 ∷ 108 ∷ 101 ∷ 32 ∷ 61 ∷ 32 ∷ rule)
    ∙ ap (λ d. 44 ∷ 121 ∷ 61 ∷ d ++ (44 ∷ 114 ∷ 117 ∷ 108 ∷ 101 ∷ 61 ∷ without_blanks rule)) (decimal_kept height h)
    ∙ ap (λ t. 44 ∷ 121 ∷ 61 ∷ decimal height ++ (44 ∷ 114 ∷ 117 ∷ 108 ∷ 101 ∷ 61 ∷ t)) r)

rule_part_is : (rule : List ℕ) → rule_part (44 ∷ 114 ∷ 117 ∷ 108 ∷ 101 ∷ 61 ∷ rule) ≡ Some (Some rule)
unfolding rule_part
rule_part_is rule =
    let part : Option (Option (List ℕ)) = Some (Some rule) in
    ap (λ t. cond t (Some None) part) (ne_eqb (length (44 ∷ 114 ∷ 117 ∷ 108 ∷ 101 ∷ 61 ∷ rule)) 0 (λ e. omega arith))

tight_form : (width height : ℕ) (rule : List ℕ) → width ≤ 1024 → height ≤ 1024
    → header_form (tight width height rule) ≡ Some (Some rule)
unfolding header_form
tight_form width height rule w h =
    rw (decimal_number width (121 ∷ 61 ∷ decimal height ++ (44 ∷ 114 ∷ 117 ∷ 108 ∷ 101 ∷ 61 ∷ rule)) 44 w refl)
    (rw (decimal_number height (114 ∷ 117 ∷ 108 ∷ 101 ∷ 61 ∷ rule) 44 h refl) (rule_part_is rule))

pub header_round : (width height : ℕ) (rule : List ℕ) → width ≤ 1024 → height ≤ 1024 → without_blanks rule ≡ rule
    → header_rule (without_blanks (header_text width height rule)) ≡ Ok (Some rule)
unfolding header_rule
header_round width height rule w h r =
    ap header_rule (header_tight width height rule w h r) ∙ ap formed (tight_form width height rule w h)

pub header_kind : (width height : ℕ) (rule : List ℕ) → line_kind (header_text width height rule) ≡ header
unfolding line_kind
header_kind width height rule =
    ap (λ t. cond t passed header) (ne_eqb (length (header_text width height rule)) 0 (λ e. omega arith))

no_end_append : (xs ys : List ℕ) → HasNoLineEnd xs → HasNoLineEnd ys → HasNoLineEnd (xs ++ ys)
no_end_append [] ys p q = q
no_end_append (x ∷ xs) ys p q = (p.0, no_end_append xs ys p.1 q)

decimal_no_end : (n : ℕ) → n ≤ 1024 → HasNoLineEnd (decimal n)
decimal_no_end n small = plain_no_end (decimal n) (digits_plain (decimal n) (decimal_is_IsNumeral n (omega arith)).0.1)

pub header_no_end : (width height : ℕ) (rule : List ℕ) → width ≤ 1024 → height ≤ 1024 → HasNoLineEnd rule
    → HasNoLineEnd (header_text width height rule)
header_no_end width height rule w h r =
    no_end_append (120 ∷ 32 ∷ 61 ∷ 32 ∷ decimal width ++ 44 ∷ 32 ∷ 121 ∷ 32 ∷ 61 ∷ 32 ∷ decimal height)
    (44 ∷ 32 ∷ 114 ∷ 117 ∷ 108 ∷ 101 ∷ 32 ∷ 61 ∷ 32 ∷ rule)
    (no_end_append (120 ∷ 32 ∷ 61 ∷ 32 ∷ decimal width) (44 ∷ 32 ∷ 121 ∷ 32 ∷ 61 ∷ 32 ∷ decimal height)
    (refl, (refl, (refl, (refl, decimal_no_end width w))))
    (refl, (refl, (refl, (refl, (refl, (refl, decimal_no_end height h)))))))
    (refl, (refl, (refl, (refl, (refl, (refl, (refl, (refl, (refl, r)))))))))
