-- Texts of code bytes: numbers in decimal digits are such texts, and codes are.
use Rattle.std.proofs.Common.{◌≡◌, ℕ, zero, suc, ◌+◌, ◌-◌, ◌*◌, ◌/◌, ◌%◌, ◌<◌, ◌≤◌, true, false, cond, ◌&&◌, Option}
use Rattle.std.proofs.Common.{Some, None, List, [], ◌∷◌, ◌++◌, length, map, refl, sym, ap, ◌∙◌, subst, arith, inl, inr}
use Rattle.std.specs.Prelude.{nat_eq, nat_lt, nat_le, codes, pos, if◌then◌else◌}
use Rattle.std.specs.List.{AllByRecursion, list_all, flat_map, range_with_len, join_with_byte}
use Rattle.std.specs.Fmt.{decimal, digits, digits_onto, digit_glyph}
use Rattle.std.specs.FinSet as set
use Rattle.std.specs.Ordering.{is_gt}
use Rattle.std.proofs.lemmas.Bool.{cond-true, lt-ltb, le-leb, and_from, and_parts, or_left, or_right, cases_Bool}
use Rattle.std.proofs.lemmas.Bool.{leb-true, ltb-true, ltb-false}
use Rattle.std.proofs.lemmas.List.FromFn.{length-map-range_with_len}
use Rattle.std.proofs.lemmas.List.Folds.{list_all-append}
use Rattle.life_core.specs.Pattern.{Cells}
use Rattle.life_core.specs.Rule.{RuleSets}
use Rattle.life_core.specs.Generations.{generation_of}
use Rattle.life_code.specs.declared.kinds.Kind.{Kind}
use Rattle.life_code.specs.declared.kinds.Kind.TheVariants.{Empty, Still, Oscillator, Ship, Unresolved}
use Rattle.life_code.specs.Wechsler.{width, height, wechsler, strip, spelled, zero_run, character, column_value, bit_at}
use Rattle.life_code.specs.Codes.{orientations, fits, shape, text_of, texts_of, candidates, text_cmp, lesser}
use Rattle.life_code.specs.Codes.{least_text, with_prefix, code_by_kind, code_of}
use Rattle.life_code.specs.Object.{CodedCells, IsCodeOf}
use Rattle.life_census.specs.CodeText.{is_code_byte}

-- all bytes are code bytes
abbrev pub IsPlain : List ℕ → Type 0
IsPlain text = list_all is_code_byte text ≡ true

both_plain : (xs ys : List ℕ) → IsPlain xs → IsPlain ys → IsPlain (xs ++ ys)
both_plain xs ys h g = list_all-append is_code_byte xs ys ∙ and_from _ _ h g

one_plain : (b : ℕ) (bs : List ℕ) → is_code_byte b ≡ true → IsPlain bs → IsPlain (b ∷ bs)
one_plain b bs h g = and_from _ _ h g

letter : (b : ℕ) → 97 ≤ b → b ≤ 122 → is_code_byte b ≡ true
letter b low high = or_left _ _ (or_left _ _ (and_from _ _ (le-leb 97 b low) (le-leb b 122 high)))

digit : (b : ℕ) → 48 ≤ b → b ≤ 57 → is_code_byte b ≡ true
digit b low high =
    or_left _ _ (or_right (nat_le 97 b && nat_le b 122) _ (and_from _ _ (le-leb 48 b low) (le-leb b 57 high)))

-- ---- numbers

glyph : (d : ℕ) → d < 10 → digit_glyph false d ≡ 48 + d
glyph d h = cond-true (nat_lt d 10) (48 + d) (87 + d) (lt-ltb d 10 h)

glyph_plain : (d : ℕ) → d < 10 → is_code_byte (digit_glyph false d) ≡ true
glyph_plain d h = let g = glyph d h in digit (digit_glyph false d) (omega arith) (omega arith)

digits_plain : (k n : ℕ) (cs : List ℕ) → IsPlain cs → IsPlain (digits_onto k 10 false n cs)
digits_plain zero n cs h = h
digits_plain (suc k) n cs h =
    let g : IsPlain (digit_glyph false (n % 10) ∷ cs) =
    one_plain (digit_glyph false (n % 10)) cs (glyph_plain (n % 10) (omega arith)) h in
    elim (nat_eq (n / 10) 0) as (λ b. IsPlain
    (cond b (digit_glyph false (n % 10) ∷ cs) (digits_onto k 10 false (n / 10) (digit_glyph false (n % 10) ∷ cs)))) [
      | true ↦ g
      | false ↦ digits_plain k (n / 10) (digit_glyph false (n % 10) ∷ cs) g
    ]

pub decimal_plain : (n : ℕ) → IsPlain (decimal n)
unfolding digits
decimal_plain n = digits_plain 64 n [] refl

-- ---- Wechsler texts

character_plain : (n : ℕ) → n < 36 → is_code_byte (character n) ≡ true
character_plain n h = elim (cases_Bool (nat_lt n 10)) [
  | inl low ↦
      let is : character n ≡ 48 + n = cond-true (nat_lt n 10) (48 + n) (87 + n) low in
      let below : n < 10 = ltb-true n 10 low in
      digit (character n) (omega arith) (omega arith)
  | inr high ↦
      let is : character n ≡ 87 + n = ap (λ b. cond b (48 + n) (87 + n)) high in
      let above : 10 ≤ n = ltb-false n 10 high in
      letter (character n) (omega arith) (omega arith)
]

-- a run of zero columns in a box of 40 columns
run_plain : (n : ℕ) → n < 40 → IsPlain (zero_run n)
run_plain n h =
    elim (nat_eq n 0) as (λ b. IsPlain (cond b [] (cond (nat_eq n 1) (48 ∷ [])
    (cond (nat_eq n 2) (119 ∷ []) (cond (nat_eq n 3) (120 ∷ []) (121 ∷ character (n - 4) ∷ [])))))) [
      | true ↦ refl
      | false ↦
          elim (nat_eq n 1) as (λ b. IsPlain
          (cond b (48 ∷ []) (cond (nat_eq n 2) (119 ∷ [])
          (cond (nat_eq n 3) (120 ∷ []) (121 ∷ character (n - 4) ∷ []))))) [
            | true ↦ refl
            | false ↦
                elim (nat_eq n 2)
                as (λ b. IsPlain (cond b (119 ∷ []) (cond (nat_eq n 3) (120 ∷ []) (121 ∷ character (n - 4) ∷ [])))) [
                  | true ↦ refl
                  | false ↦ elim (nat_eq n 3) as (λ b. IsPlain (cond b (120 ∷ []) (121 ∷ character (n - 4) ∷ []))) [
                    | true ↦ refl
                    | false ↦
                        one_plain 121 (character (n - 4) ∷ []) refl
                        (one_plain (character (n - 4)) [] (character_plain (n - 4) (omega arith)) refl)
                  ]
                ]
          ]
    ]

spelled_plain : (n : ℕ) (values : List ℕ) → AllByRecursion (λ v. v < 36) values → n + length values ≤ 40
    → IsPlain (spelled n values)
unfolding spelled
spelled_plain n [] small short = refl
spelled_plain n (v ∷ values) small short =
    elim (nat_eq v 0)
    as (λ b. IsPlain (cond b (spelled (n + 1) values) (zero_run n ++ character v ∷ spelled 0 values))) [
      | true ↦ spelled_plain (n + 1) values small.1 (omega arith)
      | false ↦
          both_plain (zero_run n) (character v ∷ spelled 0 values) (run_plain n (omega arith)) (one_plain (character v)
          (spelled 0 values) (character_plain v small.0) (spelled_plain 0 values small.1 (omega arith)))
    ]

bit_small : (X : Cells) (x y : ℕ) → bit_at X x y ≤ 1
bit_small X x y = elim (set.contains X (record { row = pos y; column = pos x })) as (λ b. (if b then 1 else 0) ≤ 1) [
  | true ↦ omega arith
  | false ↦ omega arith
]

value_small : (X : Cells) (s x : ℕ) → column_value X s x < 36
unfolding column_value
value_small X s x =
    let a = bit_small X x (5 * s) in
    let b = bit_small X x (5 * s + 1) in
    let c = bit_small X x (5 * s + 2) in
    let d = bit_small X x (5 * s + 3) in
    let e = bit_small X x (5 * s + 4) in
    omega (arith, a, b, c, d, e)

values_small : (X : Cells) (s : ℕ) (xs : List ℕ) → AllByRecursion (λ v. v < 36) (map (column_value X s) xs)
values_small X s [] = tt
values_small X s (x ∷ xs) = (value_small X s x, values_small X s xs)

strip_plain : (X : Cells) (s : ℕ) → width X ≤ 40 → IsPlain (strip X s)
unfolding strip
strip_plain X s narrow =
    spelled_plain 0 (map (column_value X s) (range_with_len 0 (width X)))
    (values_small X s (range_with_len 0 (width X)))
    (let long = length-map-range_with_len (column_value X s) 0 (width X) in omega (arith, long, narrow))

join_plain : (texts : List (List ℕ)) → AllByRecursion IsPlain texts → IsPlain (join_with_byte 122 texts)
join_plain [] all = refl
join_plain (t ∷ []) all = all.0
join_plain (t ∷ u ∷ us) all =
    both_plain t (122 ∷ join_with_byte 122 (u ∷ us)) all.0
    (one_plain 122 (join_with_byte 122 (u ∷ us)) refl (join_plain (u ∷ us) all.1))

strips_plain : (X : Cells) (ss : List ℕ) → width X ≤ 40 → AllByRecursion IsPlain (map (strip X) ss)
strips_plain X [] narrow = tt
strips_plain X (s ∷ ss) narrow = (strip_plain X s narrow, strips_plain X ss narrow)

wechsler_plain : (X : Cells) → width X ≤ 40 → IsPlain (wechsler X)
unfolding wechsler
wechsler_plain X narrow = join_plain _ (strips_plain X (range_with_len 0 ((height X + 4) / 5)) narrow)

-- ---- candidates

all_joined : {X : Type 0} (F : X → Type 0) (xs ys : List X) → AllByRecursion F xs → AllByRecursion F ys
    → AllByRecursion F (xs ++ ys)
all_joined F [] ys h g = g
all_joined F (x ∷ xs) ys h g = (h.0, all_joined F xs ys h.1 g)

all_mapped : {X Y : Type 0} (F : Y → Type 0) (f : X → List Y) → ((x : X) → AllByRecursion F (f x))
    → (xs : List X) → AllByRecursion F (flat_map f xs)
all_mapped F f each [] = tt
all_mapped F f each (x ∷ xs) = all_joined F (f x) (flat_map f xs) (each x) (all_mapped F f each xs)

text_plain : (X : Cells) → AllByRecursion IsPlain (text_of X)
unfolding text_of
text_plain X = elim (cases_Bool (fits X)) [
  | inl small ↦
      subst (λ b. AllByRecursion IsPlain (cond b (wechsler X ∷ []) [])) (sym small)
      (wechsler_plain X (leb-true (width X) 40 (and_parts (nat_le (width X) 40) (nat_le (height X) 40) small).0), tt)
  | inr large ↦ subst (λ b. AllByRecursion IsPlain (cond b (wechsler X ∷ []) [])) (sym large) tt
]

candidates_plain : (r : RuleSets) (X : Cells) (p : ℕ) → AllByRecursion IsPlain (candidates r X p)
unfolding candidates
candidates_plain r X p =
    all_mapped IsPlain (λ i. texts_of (generation_of r X i)) (λ i. all_mapped IsPlain
    (λ o. text_of (shape o (generation_of r X i))) (λ o. text_plain (shape o (generation_of r X i))) orientations)
    (range_with_len 0 p)

-- a text that may be missing is plain, if it is there
abbrev IsPlainIf : Option (List ℕ) → Type 0
IsPlainIf None = Unit {0}
IsPlainIf (Some text) = IsPlain text

lesser_plain : (a : List ℕ) (b : Option (List ℕ)) → IsPlain a → IsPlainIf b → IsPlain (lesser a b)
lesser_plain a None h g = h
lesser_plain a (Some b) h g =
    elim (is_gt (text_cmp a b)) as (λ t. IsPlain (if t then b else a)) [ true ↦ g | false ↦ h ]

least_plain : (texts : List (List ℕ)) → AllByRecursion IsPlain texts → IsPlainIf (least_text texts)
unfolding least_text
least_plain [] all = tt
least_plain (t ∷ ts) all = lesser_plain t (least_text ts) all.0 (least_plain ts all.1)

-- ---- codes

prefixed_plain : (prefix : List ℕ) (n : ℕ) (text : Option (List ℕ)) → IsPlain prefix → IsPlainIf text
    → IsPlainIf (with_prefix prefix n text)
prefixed_plain prefix n None h g = tt
prefixed_plain prefix n (Some text) h g =
    both_plain (prefix ++ decimal n) (95 ∷ text) (both_plain prefix (decimal n) h (decimal_plain n))
    (one_plain 95 text refl g)

kind_plain : (r : RuleSets) (X : Cells) (k : Kind) → IsPlainIf (code_by_kind r X k)
kind_plain r X Empty = tt
kind_plain r X Still =
    prefixed_plain (codes "xs") (set.len X) (least_text (candidates r X 1)) refl
    (least_plain _ (candidates_plain r X 1))
kind_plain r X (Oscillator p) =
    prefixed_plain (codes "xp") p (least_text (candidates r X p)) refl (least_plain _ (candidates_plain r X p))
kind_plain r X (Ship p dx dy) =
    prefixed_plain (codes "xq") p (least_text (candidates r X p)) refl (least_plain _ (candidates_plain r X p))
kind_plain r X Unresolved = tt

code_plain : (r : RuleSets) (X : Cells) (limit : ℕ) → IsPlainIf (code_of r X limit)
unfolding code_of
code_plain r X limit = kind_plain r _ _

-- a code has code bytes alone
pub code_bytes : (r : RuleSets) (X : Cells) (limit : ℕ) (text : List ℕ) → code_of r X limit ≡ Some text → IsPlain text
code_bytes r X limit text is = subst IsPlainIf is (code_plain r X limit)

-- the text of a coded pattern has code bytes alone
pub coded_bytes : (r : RuleSets) (X : Cells) (limit : ℕ) (answer : Option CodedCells) (o : CodedCells) (text : List ℕ)
    → IsCodeOf r X limit answer → answer ≡ Some o → text ≡ o.text → IsPlain text
coded_bytes r X limit answer o text is some same =
    ap (list_all is_code_byte) same ∙ code_bytes r X limit o.text (subst (IsCodeOf r X limit) some is).0
