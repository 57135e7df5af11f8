-- A header without blanks is read exactly when it has the form of one.
use Rattle.std.proofs.Common.{◌≡◌, ℕ, true, false, cond, inl, inr, List, [], ◌∷◌, ◌++◌, length, map, Option, Some, None}
use Rattle.std.proofs.Common.{refl, sym, ap, ap₂, subst, ◌∙◌, arith, eq-eqb, ne_eqb}
use Rattle.std.specs.Prelude.{codes}
use Rattle.std.specs.Char.{is_ascii_digit, to_ascii_lowercase}
use Rattle.std.specs.List.{AllByRecursion}
use Rattle.std.proofs.lemmas.Bool.{cases_Bool, cases_eq}
use Rattle.life_core.specs.RuleText.{◌>>=◌}
use Rattle.life_rle.specs.Header.{after_words, past_digits, after_number, rule_part, header_form}
use Rattle.life_rle.specs.RleLaws.{IsNumber, IsRuleEnd, HasHeaderForm, HeadersAreRead}

-- ---- words

words_there : (words spelled rest : List ℕ) → map to_ascii_lowercase spelled ≡ words
    → after_words words (spelled ++ rest) ≡ Some rest
words_there [] [] rest is = refl
words_there [] (s ∷ ss) rest is = absurd cc
words_there (w ∷ ws) [] rest is = absurd cc
words_there (w ∷ ws) (s ∷ ss) rest is =
    let first : to_ascii_lowercase s ≡ w = cc in
    let others : map to_ascii_lowercase ss ≡ ws = cc in
    ap (λ t. cond t (after_words ws (ss ++ rest)) None) (eq-eqb _ _ first) ∙ words_there ws ss rest others

-- a text that begins with the words, in letters of either case
abbrev BeginsWith : List ℕ → List ℕ → List ℕ → Type 0
BeginsWith words text rest = (spelled : List ℕ) × (map to_ascii_lowercase spelled ≡ words) × (text ≡ spelled ++ rest)

words_from : (words text rest : List ℕ) → after_words words text ≡ Some rest → BeginsWith words text rest
words_from [] text rest is = let same : text ≡ rest = cc in ([], refl, same)
words_from (w ∷ ws) [] rest is = absurd cc
words_from (w ∷ ws) (b ∷ text) rest is = elim (cases_eq (to_ascii_lowercase b) w) [
  | inl same ↦
      let more = words_from ws text rest (sym (ap (λ t. cond t (after_words ws text) None) (eq-eqb _ _ same)) ∙ is) in
      (b ∷ more.0, ap₂ (λ x xs. x ∷ xs) same more.1, ap (λ xs. b ∷ xs) more.2)
  | inr other ↦
      absurd (let bad : None ≡ Some rest =
      sym (ap (λ t. cond t (after_words ws text) None) (ne_eqb _ _ other)) ∙ is in cc)
]

-- ---- numbers

abbrev AreDigits : List ℕ → Type 0
AreDigits ds = AllByRecursion (λ b. is_ascii_digit b ≡ true) ds

-- the text does not begin with a digit
abbrev NoDigit : List ℕ → Type 0
NoDigit [] = Unit {0}
NoDigit (b ∷ text) = is_ascii_digit b ≡ false

past_there : (ds rest : List ℕ) → AreDigits ds → NoDigit rest → past_digits (ds ++ rest) ≡ rest
past_there [] [] all stop = refl
past_there [] (b ∷ rest) all stop = ap (λ t. cond t (past_digits rest) (b ∷ rest)) stop
past_there (d ∷ ds) rest all stop =
    ap (λ t. cond t (past_digits (ds ++ rest)) (d ∷ ds ++ rest)) all.0 ∙ past_there ds rest all.1 stop

number_there : (ds rest : List ℕ) → IsNumber ds → NoDigit rest → after_number (ds ++ rest) ≡ Some rest
number_there [] rest number stop = absurd (omega (arith, number.some))
number_there (d ∷ ds) rest number stop =
    ap (λ t. cond t (Some (past_digits (ds ++ rest))) None) number.digits.0
    ∙ ap Some (past_there ds rest number.digits.1 stop)

past_from : (text : List ℕ) → (ds : List ℕ) × AreDigits ds × (text ≡ ds ++ past_digits text)
past_from [] = ([], tt, refl)
past_from (b ∷ text) = elim (cases_Bool (is_ascii_digit b)) [
  | inl digit ↦
      let more = past_from text in
      let past : past_digits (b ∷ text) ≡ past_digits text = ap (λ t. cond t (past_digits text) (b ∷ text)) digit in
      (b ∷ more.0, (digit, more.1), ap (λ xs. b ∷ xs) (more.2 ∙ ap (λ xs. more.0 ++ xs) (sym past)))
  | inr other ↦ ([], tt, sym (ap (λ t. cond t (past_digits text) (b ∷ text)) other))
]

-- a text that begins with a number
abbrev BeginsWithNumber : List ℕ → List ℕ → Type 0
BeginsWithNumber text rest = (ds : List ℕ) × IsNumber ds × (text ≡ ds ++ rest)

number_from : (text rest : List ℕ) → after_number text ≡ Some rest → BeginsWithNumber text rest
number_from [] rest is = absurd cc
number_from (b ∷ text) rest is = elim (cases_Bool (is_ascii_digit b)) [
  | inl digit ↦
      let past : past_digits text ≡ rest = (let e : Some (past_digits text) ≡ Some rest =
      sym (ap (λ t. cond t (Some (past_digits text)) None) digit) ∙ is in cc) in
      let more = past_from text in (
        b ∷ more.0,
        record { some = omega arith; digits = (digit, more.1) },
        ap (λ xs. b ∷ xs) (more.2 ∙ ap (λ xs. more.0 ++ xs) past),
      )
  | inr other ↦
      absurd (let bad : None ≡ Some rest = sym (ap (λ t. cond t (Some (past_digits text)) None) other) ∙ is in cc)
]

-- ---- the parts, one after another

both : {A B : Type 0} (o : Option A) (f : A → Option B) (b : B) → (o >>= f) ≡ Some b
    → (a : A) × (o ≡ Some a) × (f a ≡ Some b)
both (Some a) f b is = (a, refl, is)
both None f b is = absurd cc

comma_is : (c : ℕ) → to_ascii_lowercase c ≡ 44 → is_ascii_digit c ≡ false
comma_is c is = let same : c ≡ 44 = grind arith in ap is_ascii_digit same

no_digit : (spelled words rest : List ℕ) → map to_ascii_lowercase spelled ≡ 44 ∷ words → NoDigit (spelled ++ rest)
no_digit [] words rest is = absurd cc
no_digit (s ∷ ss) words rest is = let first : to_ascii_lowercase s ≡ 44 = cc in comma_is s first

end_there : (rule : Option (List ℕ)) (end : List ℕ) → IsRuleEnd rule end → (rule_part end ≡ Some rule) × NoDigit end
unfolding rule_part
end_there None [] is = (refl, tt)
end_there None (b ∷ end) is = absurd cc
end_there (Some rule) end is =
    let read : after_words (codes ",rule=") (is.0 ++ rule) ≡ Some rule = words_there (codes ",rule=") is.0 rule is.1 in
    let stop = subst NoDigit (sym is.2) (no_digit is.0 _ rule is.1) in
    (ap rule_part is.2 ∙ spelled is.0 is.1 read, stop)
  where
    spelled : (words : List ℕ) → map to_ascii_lowercase words ≡ codes ",rule="
        → after_words (codes ",rule=") (words ++ rule) ≡ Some rule → rule_part (words ++ rule) ≡ Some (Some rule)
    spelled [] none read = absurd cc
    spelled (w ∷ ws) some read =
        let part : Option (Option (List ℕ)) = after_words (codes ",rule=") (w ∷ ws ++ rule) >>= (λ r. Some (Some r)) in
        ap (λ t. cond t (Some None) part) (ne_eqb (length (w ∷ ws ++ rule)) 0 (λ e. omega arith))
        ∙ ap (λ (o : Option (List ℕ)). o >>= (λ r. Some (Some r))) read

end_from : (end : List ℕ) (rule : Option (List ℕ)) → rule_part end ≡ Some rule → IsRuleEnd rule end
unfolding rule_part
end_from [] rule is = let none : None ≡ rule = cc in subst (λ r. IsRuleEnd r []) none refl
end_from (b ∷ end) rule is =
    let part : Option (Option (List ℕ)) = after_words (codes ",rule=") (b ∷ end) >>= (λ r. Some (Some r)) in
    let read : part ≡ Some rule = sym
    (ap (λ t. cond t (Some None) part) (ne_eqb (length (b ∷ end)) 0 (λ e. omega arith))) ∙ is in
    let it = both (after_words (codes ",rule=") (b ∷ end)) (λ r. Some (Some r)) rule read in
    let some : Some it.0 ≡ rule = (let e = it.2 in cc) in
    subst (λ r. IsRuleEnd r (b ∷ end)) some (words_from (codes ",rule=") (b ∷ end) it.0 it.1)

form_there : (text : List ℕ) (rule : Option (List ℕ)) → HasHeaderForm text rule → header_form text ≡ Some rule
unfolding header_form
form_there text rule h =
    let end = end_there rule h.end h.rule_is in
    let height = number_there h.height h.end h.height_is end.1 in
    let y = words_there (codes ",y=") h.y (h.height ++ h.end) h.y_is in
    let width = number_there h.width (h.y ++ (h.height ++ h.end)) h.width_is
    (no_digit h.y _ (h.height ++ h.end) h.y_is) in
    let x = words_there (codes "x=") h.x (h.width ++ (h.y ++ (h.height ++ h.end))) h.x_is in
    ap header_form h.is ∙ rw (x, width, y, height) end.0

form_from : (text : List ℕ) (rule : Option (List ℕ)) → header_form text ≡ Some rule → HasHeaderForm text rule
unfolding header_form
form_from text rule is =
    let one = both (after_words (codes "x=") text) _ rule is in
    let two = both (after_number one.0) _ rule one.2 in
    let three = both (after_words (codes ",y=") two.0) _ rule two.2 in
    let four = both (after_number three.0) _ rule three.2 in
    let x = words_from (codes "x=") text one.0 one.1 in
    let width = number_from one.0 two.0 two.1 in
    let y = words_from (codes ",y=") two.0 three.0 three.1 in
    let height = number_from three.0 four.0 four.1 in
    record {
      x = x.0;
      width = width.0;
      y = y.0;
      height = height.0;
      end = four.0;
      is = x.2 ∙ ap (λ t. x.0 ++ t) (width.2 ∙ ap (λ t. width.0 ++ t) (y.2 ∙ ap (λ t. y.0 ++ t) height.2));
      x_is = x.1;
      width_is = width.1;
      y_is = y.1;
      height_is = height.1;
      rule_is = end_from four.0 rule four.2;
    }

pub headers_are_read : HeadersAreRead
headers_are_read text rule = (form_from text rule, form_there text rule)
