-- A code by the kind is the code.
use Rattle.std.proofs.Common.{◌≡◌, ℕ, ◌≤◌, Bool, Option, None, Some, Result, Ok, Err, List, sym, ap, ◌∙◌, subst, arith}
use Rattle.std.specs.Prelude.{MatchOption, IfOk, IsTrue, ◌↔◌, nat_eq}
use Rattle.std.specs.Bool.{Decides}
use Rattle.std.proofs.lemmas.Bool.Decides.{Decides-eqb}
use Rattle.std.proofs.lemmas.Slice.Eq.{slice_eq-Decides}
use lib.Pointwise.{pointwise}
use Rattle.life_core.specs.Pattern.{Cells}
use Rattle.life_core.specs.Rule.{RuleSets}
use Rattle.life_code.specs.declared.kinds.Kind.{Kind}
use Rattle.life_code.specs.declared.kinds.Kind.TheVariants.{Empty, Still, Oscillator, Ship, Unresolved}
use Rattle.life_code.specs.Period.{HasKind, kind_of}
use Rattle.life_code.specs.PeriodState.{PeriodWithin}
use Rattle.life_code.specs.Codes.{code_by_kind, code_of, Same}
use Rattle.life_code.specs.Object.{CodedCells, IsCoded, IsCodeOf}
use Rattle.life_code.proofs.PeriodKinds.{kind_is}
use Rattle.life_code.proofs.CodesLaws.{code_same, code_is_complete}

period_within : (r : RuleSets) (X : Cells) (limit most : ℕ) → limit ≤ most → (k : Kind) → HasKind r X limit k
    → PeriodWithin most k
period_within r X limit most few Empty h = tt
period_within r X limit most few Still h = tt
period_within r X limit most few (Oscillator p) h = let below = h.1 in omega arith
period_within r X limit most few (Ship p dx dy) h = let below = h.1 in omega arith
period_within r X limit most few Unresolved h = tt

-- the period of a kind lies within its limit
pub kind_within : (r : RuleSets) (X : Cells) (limit most : ℕ) (k : Kind) → limit ≤ most → k ≡ kind_of r X limit
    → PeriodWithin most k
kind_within r X limit most k few is =
    subst (PeriodWithin most) (sym is) (period_within r X limit most few (kind_of r X limit) (kind_is r X limit))

pub code_is : (r : RuleSets) (X : Cells) (limit : ℕ) (k : Kind) (answer : Option (List ℕ))
    → k ≡ kind_of r X limit → answer ≡ code_by_kind r X k → code_of r X limit ≡ answer
unfolding code_of
code_is r X limit k answer is gives = sym (gives ∙ ap (code_by_kind r X) is)

pub code_of_copy : (r : RuleSets) (X Z : Cells) (limit : ℕ) (k : Kind) (text : List ℕ) → Z ≡ X
    → k ≡ kind_of r X limit → Some text ≡ code_by_kind r X k → code_of r Z limit ≡ Some text
code_of_copy r X Z limit k text same is gives =
    ap (λ Y. code_of r Y limit) same ∙ code_is r X limit k (Some text) is gives

-- sets that are one object have the code that was found
pub code_of_object : (r : RuleSets) (X : Cells) (limit : ℕ) (o : Option CodedCells) → IsCodeOf r X limit o
    → (Y : Cells) → Same r Y X → MatchOption o (code_of r Y limit ≡ None) (λ c. code_of r Y limit ≡ Some c.text)
code_of_object r X limit None is Y same = code_same r Y X same limit ∙ is
code_of_object r X limit (Some o) is Y same = code_same r Y X same limit ∙ is.0

pub codes_of_object : {E : Type 0} (r : RuleSets) (X : Cells) (limit : ℕ) (answer : Result (Option CodedCells) E)
    → IfOk answer (IsCodeOf r X limit)
    → IfOk answer
    (λ o. (Y : Cells) → Same r Y X → MatchOption o (code_of r Y limit ≡ None) (λ c. code_of r Y limit ≡ Some c.text))
codes_of_object r X limit (Ok o) is = code_of_object r X limit o is
codes_of_object r X limit (Err fault) is = tt

-- two texts are one where the test of their bytes says so
pub texts_decide : (xs ys : List ℕ) (b : Bool) → b ≡ pointwise nat_eq xs ys → Decides b (xs ≡ ys)
texts_decide xs ys b e = slice_eq-Decides Decides-eqb xs ys b e

-- under one rule, two texts are one exactly if their sets are one object
pub one_rule : (a b : CodedCells) → IsCoded a → IsCoded b → a.rule ≡ b.rule → (t : Bool) → Decides t (a.text ≡ b.text)
    → (IsTrue t) ↔ ((a.rule ≡ b.rule) × Same a.rule a.cells b.cells)
one_rule a b p q same t decides =
    let there : code_of a.rule b.cells b.limit ≡ Some b.text = ap (λ r. code_of r b.cells b.limit) same ∙ q in
    let law = code_is_complete a.rule a.cells b.cells a.limit b.limit a.text b.text p there in
    ((λ h. (same, law.0 (decides.0 h))), λ both. decides.1 (law.1 both.1))
