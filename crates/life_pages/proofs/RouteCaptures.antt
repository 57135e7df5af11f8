-- The router's parameters get the same texts of a path as the template captures.
use Rattle.std.proofs.Common.{◌≡◌, ℕ, zero, suc, ◌+◌, ◌-◌, ◌<◌, ◌≤◌, ◌^◌, ◌==◌, ◌&&◌, ◌⊎◌, inl, inr, Bool, true, false}
use Rattle.std.proofs.Common.{cond, if◌then◌else◌, ltb, leb, List, [], ◌∷◌, length, take, drop, get_or, Option, None}
use Rattle.std.proofs.Common.{Some, option_map, refl, sym, ◌∙◌, ap, subst, true≢false, arith}
use Rattle.std.proofs.lemmas.Bool.Decides.{nat_tests}
use Rattle.std.proofs.lemmas.Grind.{common_steps}
use Rattle.std.proofs.lemmas.List.{drop-drop}
use Rattle.std.proofs.lemmas.Str.{encode_ascii, IsUtf8-nil, IsUtf8-past_char, IsUtf8-take, IsUtf8-drop}
use Rattle.std.proofs.lemmas.Str.{IsCharBoundary-before_ascii}
use Rattle.std.specs.Str.{IsUtf8}
use Rattle.matchit.specs.Seek.{segment, has_slash}
use Rattle.matchit.specs.Params.{walk, wild_from, wild_stop, part_of, after_token}
use Rattle.life_pages.specs.RequestPath.{to_slash, from_slash}
use Rattle.life_pages.specs.Route.{Piece, byte, parameter, captured}
use Rattle.life_pages.specs.RouteState.{texts_of, AreTexts}
use Rattle.life_pages.proofs.RouteSeeking.{and_split, same_nat, slash_front, no_slash_front}

-- the tokens of a template
abbrev pub tokens : List Piece → List ℕ
tokens [] = []
tokens (byte x ∷ pieces) = x ∷ tokens pieces
tokens (parameter ∷ pieces) = 256 ∷ tokens pieces

abbrev pub params_in : List Piece → ℕ
params_in [] = 0
params_in (byte x ∷ pieces) = params_in pieces
params_in (parameter ∷ pieces) = params_in pieces + 1

-- what may follow a parameter: a slash, or nothing
abbrev slash_or_end : List Piece → Bool
slash_or_end [] = true
slash_or_end (byte x ∷ pieces) = x == 47
slash_or_end (parameter ∷ pieces) = false

-- bytes are ASCII, and parameters end at a slash or at the end
abbrev pub is_plain : List Piece → Bool
is_plain [] = true
is_plain (byte x ∷ pieces) = ltb x 128 && is_plain pieces
is_plain (parameter ∷ pieces) = slash_or_end pieces && is_plain pieces

-- ---- a path at its first slash

slash_or_none : (p : List ℕ) → (from_slash p ≡ []) ⊎ ((q : List ℕ) × (from_slash p ≡ 47 ∷ q))
slash_or_none p = by (has_slash p) refl
  where
    by : (v : Bool) → has_slash p ≡ v → (from_slash p ≡ []) ⊎ ((q : List ℕ) × (from_slash p ≡ 47 ∷ q))
    by true e = inr (slash_front p e)
    by false e = inl (no_slash_front p e)

all_to_slash : (p : List ℕ) → from_slash p ≡ [] → to_slash p ≡ p
all_to_slash [] e = refl
all_to_slash (b ∷ p) e = at (b == 47) e (all_to_slash p)
  where
    at : (v : Bool) → (if v then b ∷ p else from_slash p) ≡ [] → (from_slash p ≡ [] → to_slash p ≡ p)
        → (if v then [] else b ∷ to_slash p) ≡ b ∷ p
    at true e ih = absurd (cc)
    at false e ih = ap (λ (l : List ℕ). b ∷ l) (ih e)

-- a path in two: as far as a place, and from it on
pub record Cut (p front back : List ℕ) : Type 0 where
  pub before : take (length front) p ≡ front
  pub after : drop (length front) p ≡ back
  pub within : length front ≤ length p

cut : (p : List ℕ) → Cut p (to_slash p) (from_slash p)
cut [] = record { before = refl; after = refl; within = omega arith }
cut (b ∷ p) = at (b == 47) (cut p)
  where
    at : (v : Bool) → Cut p (to_slash p) (from_slash p)
        → Cut (b ∷ p) (if v then [] else b ∷ to_slash p) (if v then b ∷ p else from_slash p)
    at true ih = record { before = refl; after = refl; within = omega arith }
    at false ih = record {
      before = ap (λ (l : List ℕ). b ∷ l) ih.before;
      after = ih.after;
      within = let h = ih.within in omega (arith, h);
    }

slash_at : (n : ℕ) (p q : List ℕ) → drop n p ≡ 47 ∷ q → (n < length p) × (get_or p n 0 ≡ 47)
slash_at zero [] q e = absurd (cc)
slash_at zero (b ∷ p) q e = (omega arith, cc)
slash_at (suc n) [] q e = absurd (cc)
slash_at (suc n) (b ∷ p) q e = let h = slash_at n p q e in (omega (arith, h.0), h.1)

cut_texts : (p q : List ℕ) → IsUtf8 p → from_slash p ≡ 47 ∷ q → IsUtf8 (to_slash p) × IsUtf8 (from_slash p)
cut_texts p q u e =
    let c = cut p in
    let s = slash_at (length (to_slash p)) p q (c.after ∙ e) in
    let b = IsCharBoundary-before_ascii p (length (to_slash p)) s.0 (omega (arith, s.1)) in
    (rw c.before at (IsUtf8-take p (length (to_slash p)) u b), rw c.after at (IsUtf8-drop p (length (to_slash p)) u b))

segment_length : (p q : List ℕ) → from_slash p ≡ 47 ∷ q → length (segment p) ≡ length (to_slash p) + 1
segment_length [] q e = absurd (cc)
segment_length (b ∷ p) q e = at (b == 47) e (segment_length p q)
  where
    at : (v : Bool) → (if v then b ∷ p else from_slash p) ≡ 47 ∷ q
        → (from_slash p ≡ 47 ∷ q → length (segment p) ≡ length (to_slash p) + 1)
        → length (cond v (b ∷ []) (b ∷ segment p)) ≡ length (if v then [] else b ∷ to_slash p) + 1
    at true e ih = refl
    at false e ih = let h = ih e in omega (arith, h)

past_ascii : (b : ℕ) (p : List ℕ) → b < 128 → IsUtf8 (b ∷ p) → IsUtf8 p
past_ascii b p less u = IsUtf8-past_char (b ∷ p) p b u (rw (encode_ascii b less) refl)

-- ---- the walk of the parameters

wild_byte : (x : ℕ) (t : List ℕ) (len token at : ℕ) → x < 128 → at < len
    → wild_from (x ∷ t) len token at ≡ wild_from t len (token + 1) (at + 1)
wild_byte x t len token at less h =
    let byte : ltb x 256 ≡ true = grind (arith, nat_tests, less) in
    let within : ltb at len ≡ true = grind (arith, nat_tests, h) in
    rw (byte, within) refl

drop_next : (n x : ℕ) (l t : List ℕ) → drop n l ≡ x ∷ t → (drop (n + 1) l ≡ t) × (get_or l n 0 ≡ x) × (n < length l)
drop_next zero x [] t e = absurd (cc)
drop_next zero x (y ∷ l) t e = (cc, cc, omega arith)
drop_next (suc n) x [] t e = absurd (cc)
drop_next (suc n) x (y ∷ l) t e =
    let h = drop_next n x l t e in
    let k = h.2 in
    let more : suc n + 1 ≡ suc (n + 1) = omega arith in
    (rw more h.0, h.1, omega (arith, k))

-- what the walk gives are these texts
pub record Gives (took : List (List ℕ × List ℕ)) (texts : List (List ℕ)) : Type 0 where
  pub taken : texts_of took ≡ texts
  pub are_texts : AreTexts took

-- The walk over the path P for a route with these tokens T and names in this text: it depends on where the next
-- parameter is.
module _ (T text P : List ℕ) where
  abbrev walk_from : List (ℕ × ℕ) → ℕ × ℕ → List (List ℕ × List ℕ)
  walk_from [] a = []
  walk_from (name ∷ names) a =
      (part_of text name.0 name.1, part_of P a.1 (wild_stop T a.0 P a.1))
      ∷ walk T text P names (after_token a.0) (wild_stop T a.0 P a.1)

  walk_is : (names : List (ℕ × ℕ)) (token at : ℕ)
      → walk T text P names token at ≡ walk_from names (wild_from (drop token T) (length P) token at)
  walk_is [] token at = refl
  walk_is (name ∷ names) token at = refl

  walk_byte : (names : List (ℕ × ℕ)) (x : ℕ) (t : List ℕ) (token at : ℕ) → x < 128 → at < length P
      → drop token T ≡ x ∷ t → walk T text P names token at ≡ walk T text P names (token + 1) (at + 1)
  walk_byte names x t token at less h e =
      walk_is names token at
      ∙ ap (λ (l : List ℕ). walk_from names (wild_from l (length P) token at)) e
      ∙ ap (walk_from names) (wild_byte x t (length P) token at less h)
      ∙ ap (λ (l : List ℕ). walk_from names (wild_from l (length P) (token + 1) (at + 1)))
      (sym (drop_next token x T t e).0)
      ∙ sym (walk_is names (token + 1) (at + 1))

  -- what a parameter takes, as far as a place
  param_part : (name : ℕ × ℕ) (names : List (ℕ × ℕ)) (t front back : List ℕ) (token at : ℕ)
      → drop token T ≡ 256 ∷ t → length T < 2 ^ 64 → at ≤ length P → Cut (drop at P) front back
      → wild_stop T token P at ≡ at + length front
      → walk T text P (name ∷ names) token at ≡ (part_of text name.0 name.1, front)
      ∷ walk T text P names (token + 1) (at + length front)
  param_part name names t front back token at e short h c stop =
      walk_is (name ∷ names) token at
      ∙ ap (λ (l : List ℕ). walk_from (name ∷ names) (wild_from l (length P) token at)) e
      ∙ ap (λ n. (part_of text name.0 name.1, part_of P at n) ∷ walk T text P names (after_token token) n) stop
      ∙ ap (λ (l : List ℕ). (part_of text name.0 name.1, l)
      ∷ walk T text P names (after_token token) (at + length front)) taken
      ∙ ap (λ n. (part_of text name.0 name.1, front) ∷ walk T text P names n (at + length front)) next
    where
      taken : part_of P at (at + length front) ≡ front
      taken =
          let w = c.within in
          let d : length (drop at P) ≡ length P - at = grind (arith, common_steps) in
          let one : leb at (at + length front) ≡ true = grind (arith, nat_tests) in
          let two : leb (at + length front) (length P) ≡ true = grind (arith, nat_tests, w, d, h) in
          let three : (at + length front) - at ≡ length front = omega arith in
          rw (one, two, three) c.before

      next : after_token token ≡ token + 1
      next = let l = (drop_next token 256 T t e).2 in omega (arith, l, short)

  -- ---- where a parameter ends

  and_false : (a b : Bool) → (a && b && false) ≡ false
  and_false true true = refl
  and_false true false = refl
  and_false false true = refl
  and_false false false = refl

  -- at the end of the path, if the template ends
  stop_at_end : (token at : ℕ) (p : List ℕ) → drop token T ≡ 256 ∷ [] → at ≤ length P → drop at P ≡ p
      → wild_stop T token P at ≡ at + length p
  stop_at_end token at p e h f =
      let d : length (drop token T) ≡ length T - token = grind (arith, common_steps) in
      let l : length (drop token T) ≡ 1 = ap (λ (l : List ℕ). length l) e in
      let last : ltb (token + 1) (length T) ≡ false = grind (arith, nat_tests, d, l) in
      let g : length (drop at P) ≡ length P - at = grind (arith, common_steps) in
      let m : length (drop at P) ≡ length p = ap (λ (l : List ℕ). length l) f in
      let whole : length P ≡ at + length p = omega (arith, g, m, h) in
      rw last (rw (and_false (ltb token (length T)) (get_or T token 0 == 256)) whole)

  -- at the first slash, if a slash follows in the template
  stop_at_slash : (token at : ℕ) (t p q : List ℕ) → drop token T ≡ 256 ∷ 47 ∷ t → drop at P ≡ p
      → from_slash p ≡ 47 ∷ q → wild_stop T token P at ≡ at + length (to_slash p)
  stop_at_slash token at t p q e f s =
      let here = drop_next token 256 T (47 ∷ t) e in
      let next = drop_next (token + 1) 47 T t here.0 in
      let l = here.2 in
      let m = next.2 in
      let one : ltb token (length T) ≡ true = grind (arith, nat_tests, l) in
      let two : ltb (token + 1) (length T) ≡ true = grind (arith, nat_tests, m) in
      let n : length (segment p) ≡ length (to_slash p) + 1 = segment_length p q s in
      let sum : at + length (segment p) - 1 ≡ at + length (to_slash p) = omega (arith, n) in
      rw (one, two, here.1, here.0, f) sum

  -- ---- all parameters

  abbrev Takes : List (ℕ × ℕ) → ℕ → ℕ → List (List ℕ) → Type 0
  Takes names token at texts = Gives (walk T text P names token at) texts

  -- a template's front and what is left of the path there
  pub record At (pieces : List Piece) (names : List (ℕ × ℕ)) (token at : ℕ) (p : List ℕ) : Type 0 where
    pub plain : is_plain pieces ≡ true
    pub rest_of_template : drop token T ≡ tokens pieces
    pub named : length names ≡ params_in pieces
    pub within : at ≤ length P
    pub rest_of_path : drop at P ≡ p
    pub is_text : IsUtf8 p

  takes_byte : (x : ℕ) (pieces : List Piece) (names : List (ℕ × ℕ)) (token at b : ℕ) (p : List ℕ)
      (texts : List (List ℕ)) → At (byte x ∷ pieces) names token at (b ∷ p) → x ≡ b
      → (At pieces names (token + 1) (at + 1) p → Takes names (token + 1) (at + 1) texts) → Takes names token at texts
  takes_byte x pieces names token at b p texts here is later =
      let i = and_split (ltb x 128) (is_plain pieces) here.plain in
      let ascii = i.0 in
      let less : x < 128 = grind (arith, nat_tests, ascii) in
      let n = drop_next at b P p here.rest_of_path in
      let within = n.2 in
      let t = later (record {
        plain = i.1;
        rest_of_template = (drop_next token x T (tokens pieces) here.rest_of_template).0;
        named = here.named;
        within = omega (arith, within);
        rest_of_path = n.0;
        is_text = past_ascii b p (rw (sym is) less) here.is_text;
      }) in
      subst (λ l. Gives l texts) (sym (walk_byte names x (tokens pieces) token at less within here.rest_of_template)) t

  -- the parameter's own text, and where the walk goes on
  takes_param : (pieces : List Piece) (name : ℕ × ℕ) (names : List (ℕ × ℕ)) (token at : ℕ)
      (p front back : List ℕ) (texts : List (List ℕ))
      → At (parameter ∷ pieces) (name ∷ names) token at p → length T < 2 ^ 64 → Cut p front back
      → IsUtf8 front → IsUtf8 back
      → wild_stop T token P at ≡ at + length front
      → (At pieces names (token + 1) (at + length front) back → Takes names (token + 1) (at + length front) texts)
      → Takes (name ∷ names) token at (front ∷ texts)
  takes_param pieces name names token at p front back texts here short c u v stop later =
      let i = and_split (slash_or_end pieces) (is_plain pieces) here.plain in
      let d : length (drop at P) ≡ length P - at = grind (arith, common_steps) in
      let l : length (drop at P) ≡ length p = ap (λ (l : List ℕ). length l) here.rest_of_path in
      let h = here.within in
      let g = c.within in
      let n = here.named in
      let t = later (record {
        plain = i.1;
        rest_of_template = (drop_next token 256 T (tokens pieces) here.rest_of_template).0;
        named = omega (arith, n);
        within = omega (arith, d, l, h, g);
        rest_of_path = sym (drop-drop (length front) at P) ∙ ap (drop (length front)) here.rest_of_path ∙ c.after;
        is_text = v;
      }) in
      let e = param_part name names (tokens pieces) front back token at here.rest_of_template short here.within
      (rw here.rest_of_path c) stop in
      subst (λ l. Gives l (front ∷ texts)) (sym e)
      (record { taken = ap (λ (ts : List (List ℕ)). front ∷ ts) t.taken; are_texts = (u, t.are_texts) })

  -- where a parameter stops, and that what it takes and what is left are texts
  abbrev Stops : ℕ → ℕ → List ℕ → Type 0
  Stops token at p = IsUtf8 (to_slash p) × IsUtf8 (from_slash p) × (wild_stop T token P at ≡ at + length (to_slash p))

  stops : (pieces : List Piece) (token at : ℕ) (p : List ℕ) (texts : List (List ℕ)) → slash_or_end pieces ≡ true
      → drop token T ≡ 256 ∷ tokens pieces → at ≤ length P → drop at P ≡ p → IsUtf8 p
      → captured pieces (from_slash p) ≡ Some texts → Stops token at p
  stops [] token at p texts s e h f u c = by (slash_or_none p)
    where
      by : (from_slash p ≡ []) ⊎ ((q : List ℕ) × (from_slash p ≡ 47 ∷ q)) → Stops token at p
      by (inl none) =
          let all = all_to_slash p none in
          (rw all u, rw none IsUtf8-nil, stop_at_end token at (to_slash p) e h (f ∙ sym all))
      by (inr (q, is)) = let no : None ≡ Some texts = rw is at c in absurd (cc)
  stops (parameter ∷ pieces) token at p texts s e h f u c = absurd (true≢false (sym s))
  stops (byte x ∷ pieces) token at p texts s e h f u c = by (slash_or_none p)
    where
      by : (from_slash p ≡ []) ⊎ ((q : List ℕ) × (from_slash p ≡ 47 ∷ q)) → Stops token at p
      by (inl none) = let no : None ≡ Some texts = rw none at c in absurd (cc)
      by (inr (q, is)) =
          let t = cut_texts p q u is in
          let e2 : drop token T ≡ 256 ∷ 47 ∷ tokens pieces = rw (same_nat x 47 s) at e in
          (t.0, t.1, stop_at_slash token at (tokens pieces) p q e2 f is)

  pub takes : (pieces : List Piece) (names : List (ℕ × ℕ)) (token at : ℕ) (p : List ℕ) (texts : List (List ℕ))
      → length T < 2 ^ 64 → At pieces names token at p → captured pieces p ≡ Some texts
      → Takes names token at texts
  takes [] [] token at [] texts short here c = record { taken = let is : [] ≡ texts = cc in is; are_texts = tt }
  takes [] [] token at (b ∷ p) texts short here c = absurd (cc)
  takes [] (name ∷ names) token at p texts short here c = let n = here.named in absurd (omega (arith, n))
  takes (byte x ∷ pieces) names token at [] texts short here c = absurd (cc)
  takes (byte x ∷ pieces) names token at (b ∷ p) texts short here c =
      by (x == b) refl c (λ later d. takes pieces names (token + 1) (at + 1) p texts short later d)
    where
      by : (v : Bool) → (x == b) ≡ v → (if v then captured pieces p else None) ≡ Some texts
          → (At pieces names (token + 1) (at + 1) p → captured pieces p ≡ Some texts
          → Takes names (token + 1) (at + 1) texts) → Takes names token at texts
      by true is c later = takes_byte x pieces names token at b p texts here (same_nat x b is) (λ h. later h c)
      by false is c later = absurd (cc)
  takes (parameter ∷ pieces) [] token at p texts short here c = let n = here.named in absurd (omega (arith, n))
  takes (parameter ∷ pieces) (name ∷ names) token at [] texts short here c = absurd (cc)
  takes (parameter ∷ pieces) (name ∷ names) token at (b ∷ p) texts short here c =
      first (b == 47) c (λ ts later d. takes pieces names (token + 1) (at + length (to_slash (b ∷ p)))
      (from_slash (b ∷ p)) ts short later d)
    where
      Later : Type 0
      Later =
          (ts : List (List ℕ)) → At pieces names (token + 1) (at + length (to_slash (b ∷ p))) (from_slash (b ∷ p))
          → captured pieces (from_slash (b ∷ p)) ≡ Some ts
          → Takes names (token + 1) (at + length (to_slash (b ∷ p))) ts

      rest : (ts : List (List ℕ)) → captured pieces (from_slash (b ∷ p)) ≡ Some ts → Later
          → Takes (name ∷ names) token at (to_slash (b ∷ p) ∷ ts)
      rest ts d later =
          let i = and_split (slash_or_end pieces) (is_plain pieces) here.plain in
          let s = stops pieces token at (b ∷ p) ts i.0 here.rest_of_template here.within here.rest_of_path
          here.is_text d in
          takes_param pieces name names token at (b ∷ p) (to_slash (b ∷ p)) (from_slash (b ∷ p)) ts here short
          (cut (b ∷ p)) s.0 s.1 s.2 (λ h. later ts h d)

      by : (o : Option (List (List ℕ))) → captured pieces (from_slash (b ∷ p)) ≡ o
          → option_map (λ ts. to_slash (b ∷ p) ∷ ts) o ≡ Some texts → Later → Takes (name ∷ names) token at texts
      by None d c later = absurd (cc)
      by (Some ts) d c later =
          let is : to_slash (b ∷ p) ∷ ts ≡ texts = cc in
          subst (λ l. Takes (name ∷ names) token at l) is (rest ts d later)

      first : (v : Bool) → (if v then None else option_map (λ ts. to_slash (b ∷ p) ∷ ts)
          (captured pieces (from_slash (b ∷ p)))) ≡ Some texts → Later → Takes (name ∷ names) token at texts
      first true c later = absurd (cc)
      first false c later = by (captured pieces (from_slash (b ∷ p))) refl c later
