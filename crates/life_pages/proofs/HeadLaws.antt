-- Nothing is lost when a value is split at its commas or a path at its parameters, and no path fits two templates.
use Rattle.std.proofs.Common.{◌≡◌, ℕ, zero, suc, ◌+◌, ◌<◌, ◌≤◌, ◌==◌, ◌&&◌, Bool, true, false, not, cond, eq-eqb, List}
use Rattle.std.proofs.Common.{[], ◌∷◌, ◌++◌, length, slice_index_or, Option, Some, None, option_map, refl, sym, ap, ap₂}
use Rattle.std.proofs.Common.{subst, ◌∙◌, arith}
use Rattle.std.specs.List.{AllByRecursion, join_with_byte, list_all}
use Rattle.std.proofs.lemmas.Bool.{eqb-true}
use Rattle.life_core.specs.Ascii.{comma, slash}
use Rattle.life_pages.specs.Head.{onto_first, parts_between_commas}
use Rattle.life_pages.specs.RequestPath.{to_slash, from_slash}
use Rattle.life_pages.specs.Route.{Piece, byte, parameter, pieces_of, captured}
use Rattle.life_pages.specs.PagesLaws.{HasNoComma, PartsAreTheValue, filled, IsParameter, CapturesAreThePath}
use Rattle.life_pages.specs.PagesLaws.{template_texts}
use Rattle.life_pages.specs.PagesLaws.{Fits, OneTemplate}

-- ---- the parts of a value

record HasFirst (parts : List (List ℕ)) : Type 0 where
  first : List ℕ
  rest : List (List ℕ)
  is : parts ≡ first ∷ rest

onto_has : (b : ℕ) (parts : List (List ℕ)) → HasFirst (onto_first b parts)
onto_has b [] = record { first = b ∷ []; rest = []; is = refl }
onto_has b (p ∷ ps) = record { first = b ∷ p; rest = ps; is = refl }

has_first : (value : List ℕ) → HasFirst (parts_between_commas value)
has_first [] = record { first = []; rest = []; is = refl }
has_first (b ∷ value) = by (b == comma)
  where
    by : (t : Bool) → HasFirst (cond t ([] ∷ parts_between_commas value) (onto_first b (parts_between_commas value)))
    by true = record { first = []; rest = parts_between_commas value; is = refl }
    by false = onto_has b (parts_between_commas value)

join_one : (b : ℕ) (p : List ℕ) (ps : List (List ℕ))
    → join_with_byte comma ((b ∷ p) ∷ ps) ≡ b ∷ join_with_byte comma (p ∷ ps)
join_one b p [] = refl
join_one b p (q ∷ qs) = refl

join_empty : (p : List ℕ) (ps : List (List ℕ))
    → join_with_byte comma ([] ∷ p ∷ ps) ≡ comma ∷ join_with_byte comma (p ∷ ps)
join_empty p ps = refl

joined : (value : List ℕ) → join_with_byte comma (parts_between_commas value) ≡ value
joined [] = refl
joined (b ∷ value) = by (b == comma) refl (has_first value) (joined value)
  where
    by : (t : Bool) → (b == comma) ≡ t → HasFirst (parts_between_commas value)
        → join_with_byte comma (parts_between_commas value) ≡ value
        → join_with_byte comma (cond t ([] ∷ parts_between_commas value) (onto_first b (parts_between_commas value)))
        ≡ b ∷ value
    by true is has rest =
        ap (λ (ps : List (List ℕ)). join_with_byte comma ([] ∷ ps)) has.is ∙ join_empty has.first has.rest
        ∙ ap (λ (ps : List (List ℕ)). comma ∷ join_with_byte comma ps) (sym has.is)
        ∙ ap₂ (λ x xs. x ∷ xs) (sym (eqb-true b comma is)) rest
    by false is has rest =
        ap (λ (ps : List (List ℕ)). join_with_byte comma (onto_first b ps)) has.is ∙ join_one b has.first has.rest
        ∙ ap (λ (ps : List (List ℕ)). b ∷ join_with_byte comma ps) (sym has.is) ∙ ap (λ xs. b ∷ xs) rest

onto_plain : (b : ℕ) (parts : List (List ℕ)) → (b == comma) ≡ false → AllByRecursion HasNoComma parts
    → AllByRecursion HasNoComma (onto_first b parts)
onto_plain b [] is all = ((is, tt), tt)
onto_plain b (p ∷ ps) is all = ((is, all.0), all.1)

plain : (value : List ℕ) → AllByRecursion HasNoComma (parts_between_commas value)
plain [] = (tt, tt)
plain (b ∷ value) = by (b == comma) refl (plain value)
  where
    by : (t : Bool) → (b == comma) ≡ t
        → AllByRecursion HasNoComma (parts_between_commas value) → AllByRecursion HasNoComma
        (cond t ([] ∷ parts_between_commas value) (onto_first b (parts_between_commas value)))
    by true is all = (tt, all)
    by false is all = onto_plain b (parts_between_commas value) is all

pub parts_are_the_value : PartsAreTheValue
parts_are_the_value value = (joined value, plain value)

-- ---- what a template captures

cut_at_slash : (path : List ℕ) → to_slash path ++ from_slash path ≡ path
cut_at_slash [] = refl
cut_at_slash (b ∷ path) = by (b == slash) (cut_at_slash path)
  where
    by : (t : Bool) → to_slash path ++ from_slash path ≡ path
        → cond t [] (b ∷ to_slash path) ++ cond t (b ∷ path) (from_slash path) ≡ b ∷ path
    by true rest = refl
    by false rest = ap (λ xs. b ∷ xs) rest

no_slash : (path : List ℕ) → AllByRecursion (λ b. (b == slash) ≡ false) (to_slash path)
no_slash [] = tt
no_slash (b ∷ path) = by (b == slash) refl (no_slash path)
  where
    by : (t : Bool) → (b == slash) ≡ t → AllByRecursion (λ c. (c == slash) ≡ false) (to_slash path)
        → AllByRecursion (λ c. (c == slash) ≡ false) (cond t [] (b ∷ to_slash path))
    by true is rest = tt
    by false is rest = (is, rest)

-- what a parameter takes of a path, and what comes after it
record Takes (pieces : List Piece) (b : ℕ) (path : List ℕ) (texts : List (List ℕ)) : Type 0 where
  plain : (b == slash) ≡ false
  more : List (List ℕ)
  rest : captured pieces (from_slash (b ∷ path)) ≡ Some more
  is : texts ≡ to_slash (b ∷ path) ∷ more

takes : (pieces : List Piece) (b : ℕ) (path : List ℕ) (texts : List (List ℕ))
    → captured (parameter ∷ pieces) (b ∷ path) ≡ Some texts → Takes pieces b path texts
takes pieces b path texts is = by (b == slash) refl is
  where
    after : (o : Option (List (List ℕ))) → option_map (λ ts. to_slash (b ∷ path) ∷ ts) o ≡ Some texts
        → (more : List (List ℕ)) × (o ≡ Some more) × (texts ≡ to_slash (b ∷ path) ∷ more)
    after (Some more) e = (more, refl, sym (let same : to_slash (b ∷ path) ∷ more ≡ texts = cc in same))
    after None e = absurd cc

    by : (t : Bool) → (b == slash) ≡ t
        → cond t None (option_map (λ ts. to_slash (b ∷ path) ∷ ts) (captured pieces (from_slash (b ∷ path))))
        ≡ Some texts → Takes pieces b path texts
    by true is e = absurd cc
    by false is e =
        let it = after (captured pieces (from_slash (b ∷ path))) e in
        record { plain = is; more = it.0; rest = it.1; is = it.2 }

-- a byte of a template is the path's
matches : (x b : ℕ) (pieces : List Piece) (path : List ℕ) (texts : List (List ℕ))
    → captured (byte x ∷ pieces) (b ∷ path) ≡ Some texts → (x ≡ b) × (captured pieces path ≡ Some texts)
matches x b pieces path texts is = by (x == b) refl is
  where
    by : (t : Bool) → (x == b) ≡ t → cond t (captured pieces path) None ≡ Some texts
        → (x ≡ b) × (captured pieces path ≡ Some texts)
    by true same e = (eqb-true x b same, e)
    by false other e = absurd cc

pub captures_are_the_path : CapturesAreThePath
captures_are_the_path [] [] texts is =
    let none : [] ≡ texts = cc in subst (λ ts. (filled [] ts ≡ []) × AllByRecursion IsParameter ts) none (refl, tt)
captures_are_the_path [] (b ∷ path) texts is = absurd cc
captures_are_the_path (piece ∷ pieces) [] texts is = absurd cc
captures_are_the_path (byte x ∷ pieces) (b ∷ path) texts is =
    let it = matches x b pieces path texts is in
    let rest = captures_are_the_path pieces path texts it.1 in
    (ap₂ (λ y ys. y ∷ ys) it.0 rest.0, rest.1)
captures_are_the_path (parameter ∷ pieces) (b ∷ path) texts is =
    let it = takes pieces b path texts is in
    let rest = captures_are_the_path pieces (from_slash (b ∷ path)) it.more it.rest in
    let some : 1 ≤ length (to_slash (b ∷ path)) =
    subst (λ t. 1 ≤ length (cond t [] (b ∷ to_slash path))) (sym it.plain) (omega arith) in
    subst (λ ts. (filled (parameter ∷ pieces) ts ≡ b ∷ path) × AllByRecursion IsParameter ts) (sym it.is) (
      ap (λ ys. to_slash (b ∷ path) ++ ys) rest.0 ∙ cut_at_slash (b ∷ path),
      (record { some = some; plain = no_slash (b ∷ path) }, rest.1),
    )

-- ---- no path fits two templates

abbrev one_if : Bool → ℕ
one_if true = 1
one_if false = 0

abbrev slashes : List ℕ → ℕ
slashes [] = 0
slashes (b ∷ path) = one_if (b == slash) + slashes path

abbrev slashes_in : List Piece → ℕ
slashes_in [] = 0
slashes_in (byte x ∷ pieces) = one_if (x == slash) + slashes_in pieces
slashes_in (parameter ∷ pieces) = slashes_in pieces

plus_none : (n : ℕ) → 0 + n ≡ n
plus_none n = omega arith

slashes_from : (path : List ℕ) → slashes path ≡ slashes (from_slash path)
slashes_from [] = refl
slashes_from (b ∷ path) = by (b == slash) refl (slashes_from path)
  where
    by : (t : Bool) → (b == slash) ≡ t → slashes path ≡ slashes (from_slash path)
        → one_if (b == slash) + slashes path ≡ slashes (cond t (b ∷ path) (from_slash path))
    by true is rest = refl
    by false is rest = ap (λ u. one_if u + slashes path) is ∙ plus_none (slashes path) ∙ rest

slashes_are : (pieces : List Piece) (path : List ℕ) (texts : List (List ℕ)) → captured pieces path ≡ Some texts
    → slashes path ≡ slashes_in pieces
slashes_are [] [] texts is = refl
slashes_are [] (b ∷ path) texts is = absurd cc
slashes_are (piece ∷ pieces) [] texts is = absurd cc
slashes_are (byte x ∷ pieces) (b ∷ path) texts is =
    let it = matches x b pieces path texts is in
    ap₂ (λ (y : ℕ) (n : ℕ). one_if (y == slash) + n) (sym it.0) (slashes_are pieces path texts it.1)
slashes_are (parameter ∷ pieces) (b ∷ path) texts is =
    let it = takes pieces b path texts is in
    slashes_from (b ∷ path) ∙ slashes_are pieces (from_slash (b ∷ path)) it.more it.rest

-- whether some path may fit both, as far as their bytes tell
abbrev may_meet : List Piece → List Piece → Bool
may_meet [] [] = true
may_meet [] (q ∷ qs) = false
may_meet (p ∷ ps) [] = false
may_meet (byte x ∷ ps) (byte y ∷ qs) = (x == y) && may_meet ps qs
may_meet (byte x ∷ ps) (parameter ∷ qs) = true
may_meet (parameter ∷ ps) (byte y ∷ qs) = true
may_meet (parameter ∷ ps) (parameter ∷ qs) = may_meet ps qs

meet : (ps qs : List Piece) (path : List ℕ) (xs ys : List (List ℕ)) → captured ps path ≡ Some xs
    → captured qs path ≡ Some ys → may_meet ps qs ≡ true
meet [] [] path xs ys a b = refl
meet [] (q ∷ qs) [] xs ys a b = absurd cc
meet [] (q ∷ qs) (c ∷ path) xs ys a b = absurd cc
meet (p ∷ ps) [] [] xs ys a b = absurd cc
meet (p ∷ ps) [] (c ∷ path) xs ys a b = absurd cc
meet (p ∷ ps) (q ∷ qs) [] xs ys a b = absurd cc
meet (byte x ∷ ps) (byte y ∷ qs) (c ∷ path) xs ys a b =
    let one = matches x c ps path xs a in
    let two = matches y c qs path ys b in
    ap₂ ◌&&◌ (eq-eqb x y (one.0 ∙ sym two.0)) (meet ps qs path xs ys one.1 two.1)
meet (byte x ∷ ps) (parameter ∷ qs) (c ∷ path) xs ys a b = refl
meet (parameter ∷ ps) (byte y ∷ qs) (c ∷ path) xs ys a b = refl
meet (parameter ∷ ps) (parameter ∷ qs) (c ∷ path) xs ys a b =
    let one = takes ps c path xs a in
    let two = takes qs c path ys b in
    meet ps qs (from_slash (c ∷ path)) one.more two.more one.rest two.rest

abbrev are_apart : List ℕ → List ℕ → Bool
are_apart s t = not ((slashes_in (pieces_of s) == slashes_in (pieces_of t)) && may_meet (pieces_of s) (pieces_of t))

apart_never : (s t path : List ℕ) → are_apart s t ≡ true → Fits s path → Fits t path → ⊥
apart_never s t path apart one two =
    let count = eq-eqb _ _ (sym (slashes_are (pieces_of s) path one.0 one.1)
    ∙ slashes_are (pieces_of t) path two.0 two.1) in
    let both = ap₂ ◌&&◌ count (meet (pieces_of s) (pieces_of t) path one.0 two.0 one.1 two.1) in
    let never : false ≡ true = sym (ap not both) ∙ apart in absurd cc

abbrev all_apart : List (List ℕ) → Bool
all_apart [] = true
all_apart (s ∷ ss) = list_all (are_apart s) ss && all_apart ss

both_of : (a b : Bool) → (a && b) ≡ true → (a ≡ true) × (b ≡ true)
both_of true true h = (refl, refl)
both_of true false h = absurd cc
both_of false b h = absurd cc

apart_at : (x : List ℕ) (ss : List (List ℕ)) → list_all (are_apart x) ss ≡ true → (j : ℕ) (t : List ℕ)
    → j < length ss → slice_index_or ss j t ≡ t → are_apart x t ≡ true
apart_at x [] all j t below at = absurd (omega (arith, below))
apart_at x (s ∷ ss) all zero t below at =
    subst (λ u. are_apart x u ≡ true) at (both_of (are_apart x s) (list_all (are_apart x) ss) all).0
apart_at x (s ∷ ss) all (suc j) t below at =
    apart_at x ss (both_of (are_apart x s) (list_all (are_apart x) ss) all).1 j t (omega (arith, below)) at

among : (path : List ℕ) (ss : List (List ℕ)) → all_apart ss ≡ true → (i j : ℕ) (s t : List ℕ) → i < length ss
    → slice_index_or ss i s ≡ s → j < length ss → slice_index_or ss j t ≡ t → Fits s path → Fits t path → s ≡ t
among path [] all i j s t low is below at one two = absurd (omega (arith, low))
among path (x ∷ ss) all zero zero s t low is below at one two = sym is ∙ at
among path (x ∷ ss) all zero (suc j) s t low is below at one two =
    absurd (apart_never x t path (apart_at x ss (both_of (list_all (are_apart x) ss) (all_apart ss) all).0 j t
    (omega (arith, below)) at) (subst (λ u. Fits u path) (sym is) one) two)
among path (x ∷ ss) all (suc i) zero s t low is below at one two =
    absurd (apart_never x s path (apart_at x ss (both_of (list_all (are_apart x) ss) (all_apart ss) all).0 i s
    (omega (arith, low)) is) (subst (λ u. Fits u path) (sym at) two) one)
among path (x ∷ ss) all (suc i) (suc j) s t low is below at one two =
    among path ss (both_of (list_all (are_apart x) ss) (all_apart ss) all).1 i j s t (omega (arith, low)) is
    (omega (arith, below)) at one two

templates_apart : all_apart template_texts ≡ true
templates_apart = refl

pub one_template : OneTemplate
one_template path one two (i, low, is) (j, below, at) fits also =
    among path template_texts templates_apart i j one two low is below at fits also
