-- The texts that spell a set, and what each refusal of a code proves.
use Rattle.std.proofs.Common.{◌≡◌, ◌≢◌, ℕ, ◌≤◌, Bool, true, false, cond, Option, Some, None, List, [], ◌∷◌, ◌++◌}
use Rattle.std.proofs.Common.{Result, Ok, Err, refl, sym, ap, ◌∙◌, subst, true≢false}
use Rattle.std.specs.Prelude.{IfOk, IsTrue, MatchOption, ◌↔◌}
use Rattle.std.specs.Bool.{Decides}
use Rattle.std.specs.FinSet as set
use Rattle.life_core.specs.Cell.{cell_cmp}
use Rattle.life_core.specs.Pattern.{Cells, normal, IsWithin}
use Rattle.life_code.specs.Wechsler.{wechsler}
use Rattle.life_code.specs.DecodeState.{decoded}
use Rattle.life_code.specs.Codes.{fits, text_of}
use Rattle.life_code.specs.Open.{IsFront, IsWechsler, Spells}
use Rattle.life_code.proofs.DecodeLemmas.{decoded_within}
use Rattle.life_code.proofs.WechslerGrid.{decoded_wechsler}
use Rattle.life_code.proofs.CodeMarks.{NoMark, front_unmarked, before_mark, behind_mark, not_unmarked}

-- a text without the mark spells nothing
pub unmarked_spells : (text : List ℕ) → NoMark text → (X : Cells) → Spells text X → ⊥
unmarked_spells text h X s = not_unmarked text s.front s.back h s.parts

-- a text that spells a set is cut at its first mark
pub spells_front : (text front back : List ℕ) (X : Cells) → NoMark front → text ≡ front ++ 95 ∷ back
    → Spells text X → IsFront front
spells_front text front back X h e s =
    subst IsFront (sym (before_mark front s.front back s.back h (front_unmarked s.front s.is_front) (sym e ∙ s.parts)))
    s.is_front

pub spells_back : (text front back : List ℕ) (X : Cells) → NoMark front → text ≡ front ++ 95 ∷ back
    → Spells text X → IsWechsler back X
spells_back text front back X h e s =
    subst (λ b. IsWechsler b X)
    (sym (behind_mark front s.front back s.back h (front_unmarked s.front s.is_front) (sym e ∙ s.parts))) s.is_wechsler

pub refused_front : (text front back : List ℕ) (b : Bool) → NoMark front → text ≡ front ++ 95 ∷ back
    → (IsTrue b) ↔ (IsFront front) → b ≡ false → (X : Cells) → Spells text X → ⊥
refused_front text front back b h e tells refused X s =
    true≢false (sym (tells.1 (spells_front text front back X h e s)) ∙ refused)

-- what stands after the mark decides
pub read_behind : {E : Type 0} (r : Result (Option Cells) E) (text front back : List ℕ) → NoMark front
    → text ≡ front ++ 95 ∷ back → IsFront front
    → IfOk r (λ o. MatchOption o ((X : Cells) → ¬ IsWechsler back X) (IsWechsler back))
    → IfOk r (λ o. MatchOption o ((X : Cells) → ¬ Spells text X) (Spells text))
read_behind (Err fault) text front back h e is read = tt
read_behind (Ok None) text front back h e is read = λ X s. read X (spells_back text front back X h e s)
read_behind (Ok (Some X)) text front back h e is read =
    record { front = front; is_front = is; back = back; is_wechsler = read; parts = e }

-- ---- the Wechsler text

-- a text of a set is decoded as the set
pub decoded_is : (text : List ℕ) (X : Cells) → IsWechsler text X → decoded text ≡ X
decoded_is text X is = ap decoded is.text_is ∙ decoded_wechsler X is.at_origin is.small

-- what is decoded lies within the box
pub decoded_room : (text : List ℕ) (X : Cells) (k : ℕ) → 39 ≤ k → X ≡ decoded text → IsWithin k X
decoded_room text X k far is = subst (IsWithin k) (sym is) (decoded_within k far text)

-- a set that a text spells lies within the box
pub spelled_room : (text : List ℕ) (X : Cells) (k : ℕ) → 39 ≤ k → Spells text X → IsWithin k X
spelled_room text X k far s = decoded_room s.back X k far (sym (decoded_is s.back X s.is_wechsler))

pub refused_empty : (text : List ℕ) (Z : Cells) → Z ≡ decoded text → set.len Z ≡ 0 → (X : Cells) → IsWechsler text X → ⊥
refused_empty text Z is none X w = w.cells (sym (is ∙ decoded_is text X w) ∙ set.empty_of_len Z none)

pub refused_normal : (text : List ℕ) (Z : Cells) (b : Bool) → Z ≡ decoded text → (IsTrue b) ↔ (normal Z ≡ Z)
    → b ≡ false → (X : Cells) → IsWechsler text X → ⊥
refused_normal text Z b is tells refused X w =
    let same = is ∙ decoded_is text X w in
    true≢false (sym (tells.1 (ap normal same ∙ w.at_origin ∙ sym same)) ∙ refused)

pub refused_large : (text : List ℕ) (Z : Cells) → Z ≡ decoded text → [] ≡ text_of Z → (X : Cells)
    → IsWechsler text X → ⊥
unfolding text_of
refused_large text Z is none X w =
    let same = is ∙ decoded_is text X w in
    absurd (let e : [] ≡ wechsler X ∷ [] = none ∙ (λ i. cond (fits (same i)) (wechsler (same i) ∷ []) [])
    ∙ ap (λ b. cond b (wechsler X ∷ []) []) w.small in cc)

-- the one text of a set whose box is small enough
one_text : (Z : Cells) (text : List ℕ) → text ∷ [] ≡ text_of Z → (fits Z ≡ true) × (text ≡ wechsler Z)
unfolding text_of
one_text Z text e = go (fits Z) refl e
  where
    go : (b : Bool) → fits Z ≡ b → text ∷ [] ≡ cond b (wechsler Z ∷ []) [] → (fits Z ≡ true) × (text ≡ wechsler Z)
    go true small e = (small, cc)
    go false small e = absurd (cc)

pub refused_text : (text again : List ℕ) (Z : Cells) (b : Bool) → Z ≡ decoded text → again ∷ [] ≡ text_of Z
    → Decides b (again ≡ text) → b ≡ false → (X : Cells) → IsWechsler text X → ⊥
refused_text text again Z b is one tells refused X w =
    let same = is ∙ decoded_is text X w in
    true≢false (sym (tells.1 ((one_text Z again one).1 ∙ ap wechsler same ∙ sym w.text_is)) ∙ refused)

pub is_wechsler : (text again : List ℕ) (Z : Cells) → again ∷ [] ≡ text_of Z → again ≡ text
    → normal Z ≡ Z → set.len Z ≢ 0 → IsWechsler text Z
is_wechsler text again Z one same at_origin some =
    let parts = one_text Z again one in
    record {
      text_is = sym same ∙ parts.1;
      at_origin = at_origin;
      cells = λ e. some (ap set.len e ∙ set.len-empty cell_cmp);
      small = parts.0;
    }

-- whether a set and its normal set are one
pub same_as_normal : (Z N : Cells) (b : Bool) → N ≡ normal Z → (IsTrue b) ↔ (N ≡ Z) → (IsTrue b) ↔ (normal Z ≡ Z)
same_as_normal Z N b is tells = ((λ h. sym is ∙ tells.0 h), λ e. tells.1 (is ∙ e))
