-- The part of a code before the `_`: neither a prefix nor a number contains `_`, and how a number is written in
-- decimal digits.
use Rattle.std.proofs.Common.{◌≡◌, ℕ, zero, suc, ◌+◌, ◌-◌, ◌*◌, ◌/◌, ◌%◌, ◌<◌, ◌≤◌, true, false, cond, not, Some, None}
use Rattle.std.proofs.Common.{List, [], ◌∷◌, ◌++◌, length, take, drop, get_or, refl, sym, ap, ◌∙◌, subst, arith, ⊎_elim}
use Rattle.std.specs.Prelude.{nat_eq, nat_lt, nat_le, codes, ◌==◌}
use Rattle.std.specs.List.{AllByRecursion, list_all, position, position_or_len}
use Rattle.std.proofs.lemmas.List.Sums.{fails_before_first}
use Rattle.std.proofs.lemmas.List.Quantifiers.{position-Some}
use Rattle.std.proofs.lemmas.Grind.{common_steps}
use Rattle.std.proofs.lemmas.List.{take_all, length-drop}
use Rattle.std.specs.Fmt.{decimal, digits, digits_onto, digit_glyph}
use Rattle.std.proofs.lemmas.Bool.{cond-true, lt-ltb, le-leb, ne_eqb, eqb-true, eqb-false, and_from, and_parts}
use Rattle.std.proofs.lemmas.Bool.{leb-true}
use Rattle.life_code.specs.Open.{IsPrefix, is_number, IsFront}
use Rattle.std.specs.Char.{is_ascii_digit}

-- no byte is the mark
abbrev pub NoMark : List ℕ → Type 0
NoMark cs = AllByRecursion (λ c. c ≡ 95 → ⊥) cs

pub both_unmarked : (xs ys : List ℕ) → NoMark xs → NoMark ys → NoMark (xs ++ ys)
both_unmarked [] ys h g = g
both_unmarked (x ∷ xs) ys h g = (h.0, both_unmarked xs ys h.1 g)

-- ---- numbers

glyph : (d : ℕ) → d < 10 → digit_glyph false d ≡ 48 + d
glyph d h = cond-true (nat_lt d 10) (48 + d) (87 + d) (lt-ltb d 10 h)

digit_unmarked : (d : ℕ) → d < 10 → digit_glyph false d ≡ 95 → ⊥
digit_unmarked d h e = let g = glyph d h in omega arith

digits_unmarked : (k n : ℕ) (cs : List ℕ) → NoMark cs → NoMark (digits_onto k 10 false n cs)
digits_unmarked zero n cs h = h
digits_unmarked (suc k) n cs h =
    let g : NoMark (digit_glyph false (n % 10) ∷ cs) = (digit_unmarked (n % 10) (omega arith), h) in
    elim (nat_eq (n / 10) 0) as (λ b. NoMark
    (cond b (digit_glyph false (n % 10) ∷ cs) (digits_onto k 10 false (n / 10) (digit_glyph false (n % 10) ∷ cs)))) [
      | true ↦ g
      | false ↦ digits_unmarked k (n / 10) (digit_glyph false (n % 10) ∷ cs) g
    ]

pub decimal_unmarked : (n : ℕ) → NoMark (decimal n)
unfolding digits
decimal_unmarked n = digits_unmarked 64 n [] tt

glyph_is_digit : (d : ℕ) → d < 10 → is_ascii_digit (digit_glyph false d) ≡ true
glyph_is_digit d h =
    let g = glyph d h in
    and_from _ _ (le-leb 48 (digit_glyph false d) (omega arith)) (le-leb (digit_glyph false d) 57 (omega arith))

-- 10 to the power of k
abbrev tens : ℕ → ℕ
tens zero = 1
tens (suc k) = 10 * tens k

number_onto : (k j n : ℕ) (cs : List ℕ) → 1 ≤ n → n < tens j → j ≤ k → j + length cs ≤ 6
    → list_all is_ascii_digit cs ≡ true → is_number (digits_onto k 10 false n cs) ≡ true
number_onto zero zero n cs from below le short all = absurd (omega arith)
number_onto zero (suc j) n cs from below le short all = absurd (omega arith)
number_onto (suc k) zero n cs from below le short all = absurd (omega arith)
number_onto (suc k) (suc j) n cs from below le short all =
    let digit : is_ascii_digit (digit_glyph false (n % 10)) ≡ true = glyph_is_digit (n % 10) (omega arith) in
    let more : list_all is_ascii_digit (digit_glyph false (n % 10) ∷ cs) ≡ true = and_from _ _ digit all in
    elim (nat_eq (n / 10) 0) as (λ b. nat_eq (n / 10) 0 ≡ b → is_number (cond b (digit_glyph false (n % 10) ∷ cs)
    (digits_onto k 10 false (n / 10) (digit_glyph false (n % 10) ∷ cs))) ≡ true) [
      | true ↦ λ e.
          let last : n / 10 ≡ 0 = eqb-true (n / 10) 0 e in
          let g = glyph (n % 10) (omega arith) in
          and_from _ _ (and_from _ _ (ap not (ne_eqb (digit_glyph false (n % 10)) 48 (λ z. omega arith)))
          (le-leb (length cs) 5 (omega arith))) more
      | false ↦ λ e.
          let longer = eqb-false (n / 10) 0 e in
          number_onto k j (n / 10) (digit_glyph false (n % 10) ∷ cs) (omega arith) (omega arith)
          (omega arith) (omega arith) more
    ] refl

-- the decimal digits of a number from 1 to 999999 are a number of a code
pub is_number-decimal : (n : ℕ) → 1 ≤ n → n ≤ 999999 → is_number (decimal n) ≡ true
unfolding digits
is_number-decimal n from below = number_onto 64 6 n [] from (omega arith) (omega arith) (omega arith) refl

all_unmarked : (cs : List ℕ) → list_all is_ascii_digit cs ≡ true → NoMark cs
all_unmarked [] h = tt
all_unmarked (c ∷ cs) h =
    let parts = and_parts (is_ascii_digit c) (list_all is_ascii_digit cs) h in
    let at_most = leb-true c 57 (and_parts (nat_le 48 c) (nat_le c 57) parts.0).1 in
    ((λ e. omega arith), all_unmarked cs parts.1)

pub number_unmarked : (number : List ℕ) → is_number number ≡ true → NoMark number
number_unmarked [] h = tt
number_unmarked (digit ∷ more) h = all_unmarked (digit ∷ more) (and_parts _ _ h).1

-- ---- prefixes

pub unmarked_xs : NoMark (codes "xs")
unmarked_xs = ((λ e. omega arith), ((λ e. omega arith), tt))

pub unmarked_xp : NoMark (codes "xp")
unmarked_xp = ((λ e. omega arith), ((λ e. omega arith), tt))

pub unmarked_xq : NoMark (codes "xq")
unmarked_xq = ((λ e. omega arith), ((λ e. omega arith), tt))

pub prefix_unmarked : (prefix : List ℕ) → IsPrefix prefix → NoMark prefix
prefix_unmarked prefix is =
    ⊎_elim (λ e. subst NoMark (sym e) unmarked_xs)
    (λ h. ⊎_elim (λ e. subst NoMark (sym e) unmarked_xp) (λ e. subst NoMark (sym e) unmarked_xq) h) is

pub front_unmarked : (front : List ℕ) → IsFront front → NoMark front
front_unmarked front is =
    subst NoMark (sym is.parts) (both_unmarked is.prefix is.number (prefix_unmarked is.prefix is.is_prefix)
    (number_unmarked is.number is.is_number))

-- ---- the first mark

-- what stands after the first mark
pub behind_mark : (front back other rest : List ℕ) → NoMark front → NoMark back
    → front ++ 95 ∷ other ≡ back ++ 95 ∷ rest → other ≡ rest
behind_mark [] [] other rest h g e = cc
behind_mark [] (b ∷ back) other rest h g e = absurd (g.0 (let q : 95 ≡ b = cc in sym q))
behind_mark (a ∷ front) [] other rest h g e = absurd (h.0 (let q : a ≡ 95 = cc in q))
behind_mark (a ∷ front) (b ∷ back) other rest h g e =
    behind_mark front back other rest h.1 g.1 (let q : front ++ 95 ∷ other ≡ back ++ 95 ∷ rest = cc in q)

-- what stands before it
pub before_mark : (front back other rest : List ℕ) → NoMark front → NoMark back
    → front ++ 95 ∷ other ≡ back ++ 95 ∷ rest → front ≡ back
before_mark [] [] other rest h g e = refl
before_mark [] (b ∷ back) other rest h g e = absurd (g.0 (let q : 95 ≡ b = cc in sym q))
before_mark (a ∷ front) [] other rest h g e = absurd (h.0 (let q : a ≡ 95 = cc in q))
before_mark (a ∷ front) (b ∷ back) other rest h g e =
    let here : a ≡ b = cc in
    let more : front ++ 95 ∷ other ≡ back ++ 95 ∷ rest = cc in
    λ i. here i ∷ before_mark front back other rest h.1 g.1 more i

-- a text with the mark has it
marked : (front back : List ℕ) → NoMark (front ++ 95 ∷ back) → ⊥
marked [] back h = h.0 refl
marked (b ∷ front) back h = marked front back h.1

pub not_unmarked : (text front back : List ℕ) → NoMark text → text ≡ front ++ 95 ∷ back → ⊥
not_unmarked text front back h e = marked front back (subst NoMark e h)

-- where the first mark stands at place i: what is before it, and what after it
mark_at : (text : List ℕ) (i : ℕ) → i < length text → get_or text i 0 ≡ 95
    → ((k : ℕ) → k < i → nat_eq (get_or text k 0) 95 ≡ false)
    → NoMark (take i text) × (text ≡ take i text ++ 95 ∷ drop (suc i) text)
mark_at [] i inside here before = absurd (omega arith)
mark_at (b ∷ text) zero inside here before = (tt, λ j. here j ∷ text)
mark_at (b ∷ text) (suc i) inside here before =
    let rest = mark_at text i (omega arith) here (λ k below. before (suc k) (omega arith)) in
    ((eqb-false b 95 (before zero (omega arith)), rest.0), λ j. b ∷ rest.1 j)

no_mark_at : (text : List ℕ) → ((k : ℕ) → k < length text → nat_eq (get_or text k 0) 95 ≡ false) → NoMark text
no_mark_at [] before = tt
no_mark_at (b ∷ text) before =
    (eqb-false b 95 (before zero (omega arith)), no_mark_at text (λ k below. before (suc k) (omega arith)))

pub first_mark_none : (text : List ℕ) → None ≡ position (λ b. b == 95) text → NoMark text
first_mark_none text none =
    let past : length text ≤ position_or_len (λ b. b == 95) text = grind (arith, common_steps) in
    no_mark_at text (λ k below. fails_before_first (λ b. b == 95) text k 0 (omega arith))

pub first_mark_some : (text : List ℕ) (i : ℕ) → Some i ≡ position (λ b. b == 95) text
    → NoMark (take i text) × (text ≡ take i text ++ 95 ∷ drop (i + 1) text)
first_mark_some text i some =
    let found = position-Some (λ b. b == 95) text i 0 (sym some) in
    let parts = mark_at text i found.0 (eqb-true (get_or text i 0) 95 found.1) found.2 in
    (parts.0, parts.1 ∙ ap (λ n. take i text ++ 95 ∷ drop n text) (let e : suc i ≡ i + 1 = omega arith in e))

pub cut_to_end : (text : List ℕ) (i : ℕ)
    → take i text ++ 95 ∷ drop (i + 1) text ≡ take i text ++ 95 ∷ take (length text - (i + 1)) (drop (i + 1) text)
cut_to_end text i =
    ap (λ back. take i text ++ 95 ∷ back)
    (sym (take_all (length text - (i + 1)) (drop (i + 1) text) (let e = length-drop (i + 1) text in omega arith)))
