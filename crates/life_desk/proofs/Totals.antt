-- A request for a total has exactly one reply.
use Rattle.std.proofs.Common.{◌≡◌, ◌≢◌, ◌≤◌, ◌⊎◌, inl, inr, ℕ, List, [], ◌∷◌, ◌++◌, Bool, true, false, ◌==◌, Option}
use Rattle.std.proofs.Common.{None, Some, refl, sym, ◌∙◌, ap, subst, if◌then◌else◌, true≢false}
use Rattle.std.specs.Str.{bytes_eq}
use Rattle.std.proofs.lemmas.Bool.{eqb-true}
use Rattle.std.proofs.lemmas.Slice.Eq.{bytes_eq-Decides}
use Rattle.life_core.specs.Rule.{RuleSets}
use Rattle.life_core.specs.Pattern.{Cells}
use Rattle.life_code.specs.Codes.{code_of}
use Rattle.life_code.specs.DecodeState.{decoded}
use Rattle.life_code.proofs.CodeMarks.{NoMark, front_unmarked}
use Rattle.life_code.proofs.OpenLaws.{codes_spell}
use Rattle.life_code.proofs.OpenCodeLemmas.{decoded_is}
use Rattle.life_desk.specs.declared.refusal.Refusal.{Refusal}
use Rattle.life_desk.specs.declared.refusal.Refusal.TheVariants as refusals
use Rattle.life_desk.specs.declared.request.Reply.{Reply}
use Rattle.life_desk.specs.declared.request.Reply.TheVariants as replies
use Rattle.life_desk.specs.Archive.{Archive, clusters_with}
use Rattle.life_desk.specs.Replies.{IsTotal}

-- ---- some set has the code, or none has

-- what stands after the first `_`
behind : List ℕ → List ℕ
behind [] = []
behind (c ∷ cs) = if c == 95 then cs else behind cs

behind_other : (c : ℕ) (cs : List ℕ) (b : Bool) → (c == 95) ≡ b → (c ≡ 95 → ⊥)
    → (if b then cs else behind cs) ≡ behind cs
behind_other c cs true is other = absurd (other (eqb-true c 95 is))
behind_other c cs false is other = refl

behind_front : (front back : List ℕ) → NoMark front → behind (front ++ 95 ∷ back) ≡ back
unfolding behind
behind_front [] back none = refl
behind_front (c ∷ front) back none =
    behind_other c (front ++ 95 ∷ back) (c == 95) refl none.0 ∙ behind_front front back none.1

-- the one set that can have the code
spelled : List ℕ → Cells
spelled text = decoded (behind text)

has_spelled : (rule : RuleSets) (text : List ℕ) (limit : ℕ) (X : Cells) → limit ≤ 999999
    → code_of rule X limit ≡ Some text → code_of rule (spelled text) limit ≡ Some text
unfolding spelled
has_spelled rule text limit X small is =
    let s = codes_spell rule X limit text small is in
    let back : behind text ≡ s.1.back = ap behind s.1.parts
    ∙ behind_front s.1.front s.1.back (front_unmarked s.1.front s.1.is_front) in
    let same : decoded (behind text) ≡ s.0 = ap decoded back ∙ decoded_is s.1.back s.0 s.1.is_wechsler in
    ap (λ Y. code_of rule Y limit) same ∙ s.2

-- whether a code that may be missing is this one
tells : (o : Option (List ℕ)) (text : List ℕ) → (o ≡ Some text) ⊎ (o ≢ Some text)
tells None text = inr (λ e. let bad : None ≡ Some text = e in cc)
tells (Some t) text =
    elim (bytes_eq t text) as (λ b. bytes_eq t text ≡ b → (Some t ≡ Some text) ⊎ (Some t ≢ Some text)) [
      | true ↦ λ is. inl (ap (λ (x : List ℕ). Some x) ((bytes_eq-Decides t text).0 is))
      | false ↦ λ is. inr (λ e. let same : t ≡ text = cc in true≢false (sym ((bytes_eq-Decides t text).1 same) ∙ is))
    ] refl

total_case : (A : Archive) (rule : RuleSets) (text : List ℕ) (limit : ℕ) → limit ≤ 999999
    → (code_of rule (spelled text) limit ≡ Some text) ⊎ (code_of rule (spelled text) limit ≢ Some text)
    → (r : Reply) × IsTotal A rule text limit r
total_case A rule text limit small (inl has) = (replies.Total (clusters_with A rule text), (spelled text, has, refl))
total_case A rule text limit small (inr none) =
    (replies.Refused refusals.BadCode, λ X is. none (has_spelled rule text limit X small is))

pub total_there : (A : Archive) (rule : RuleSets) (text : List ℕ) (limit : ℕ) → limit ≤ 999999
    → (r : Reply) × IsTotal A rule text limit r
total_there A rule text limit small =
    total_case A rule text limit small (tells (code_of rule (spelled text) limit) text)

-- ---- no two

with_refusal : (A : Archive) (rule : RuleSets) (text : List ℕ) (limit n : ℕ) (refusal : Refusal)
    → IsTotal A rule text limit (replies.Total n) → IsTotal A rule text limit (replies.Refused refusal) → ⊥
with_refusal A rule text limit n refusals.BadCode one other = other one.0 one.1
with_refusal A rule text limit n _ one other = other

-- a refusal of a total is that of the code
refusal_is : (A : Archive) (rule : RuleSets) (text : List ℕ) (limit : ℕ) (refusal : Refusal)
    → IsTotal A rule text limit (replies.Refused refusal) → refusal ≡ refusals.BadCode
refusal_is A rule text limit refusals.BadCode is = refl
refusal_is A rule text limit _ is = absurd is

-- what a reply to a request for a total is
total_kind : (A : Archive) (rule : RuleSets) (text : List ℕ) (limit : ℕ) (r : Reply) → IsTotal A rule text limit r
    → ((n : ℕ) × (r ≡ replies.Total n)) ⊎ ((refusal : Refusal) × (r ≡ replies.Refused refusal))
total_kind A rule text limit (replies.Total n) is = inl (n, refl)
total_kind A rule text limit (replies.Refused refusal) is = inr (refusal, refl)
total_kind A rule text limit _ is = absurd is

pub total_one : (A : Archive) (rule : RuleSets) (text : List ℕ) (limit : ℕ) (r s : Reply) → IsTotal A rule text limit r
    → IsTotal A rule text limit s → s ≡ r
total_one A rule text limit r s one other =
    by (total_kind A rule text limit r one) (total_kind A rule text limit s other)
  where
    by : ((n : ℕ) × (r ≡ replies.Total n)) ⊎ ((refusal : Refusal) × (r ≡ replies.Refused refusal))
        → ((n : ℕ) × (s ≡ replies.Total n)) ⊎ ((refusal : Refusal) × (s ≡ replies.Refused refusal)) → s ≡ r
    by (inl a) (inl b) =
        let x : IsTotal A rule text limit (replies.Total a.0) = subst (λ y. IsTotal A rule text limit y) a.1 one in
        let z : IsTotal A rule text limit (replies.Total b.0) = subst (λ y. IsTotal A rule text limit y) b.1 other in
        b.1 ∙ ap replies.Total (z.2 ∙ sym x.2) ∙ sym a.1
    by (inl a) (inr b) =
        absurd (with_refusal A rule text limit a.0 b.0 (subst (λ y. IsTotal A rule text limit y) a.1 one)
        (subst (λ y. IsTotal A rule text limit y) b.1 other))
    by (inr a) (inl b) =
        absurd (with_refusal A rule text limit b.0 a.0 (subst (λ y. IsTotal A rule text limit y) b.1 other)
        (subst (λ y. IsTotal A rule text limit y) a.1 one))
    by (inr a) (inr b) =
        b.1 ∙ ap replies.Refused (refusal_is A rule text limit b.0 (subst (λ y. IsTotal A rule text limit y) b.1 other)
        ∙ sym (refusal_is A rule text limit a.0 (subst (λ y. IsTotal A rule text limit y) a.1 one))) ∙ sym a.1
