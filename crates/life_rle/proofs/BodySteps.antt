-- The result of a step, and the position at which the body continues.
use Rattle.std.proofs.Common.{◌≡◌, ℕ, ◌+◌, ◌<◌, suc, List, ◌∷◌, length, drop, get_or, refl, ap, ◌∙◌, sym, Result, Ok}
use Rattle.std.proofs.Common.{Err, Bool, true, false, not, cond, subst, arith}
use Rattle.std.proofs.Math.Seq.{drop-cons}
use Rattle.life_core.specs.RuleText.{is_blank, without_blanks}
use Rattle.life_rle.specs.declared.rle_fault.RleFault.{RleFault}
use Rattle.life_rle.specs.declared.rle_fault.RleFault.TheVariants.{Memory}
use Rattle.life_rle.specs.BodyState.{Position, Step, goes, ends, fails, step, going, Took, body_from}

false_is_true : {E : Type 0} → (let r : Result Bool E = Ok false in r) ≡ Ok true → ⊥
false_is_true h = cc

true_is_false : true ≡ false → ⊥
true_is_false h = cc

ok_is_err : {b : Bool} {e : RleFault} → (let r : Result Bool RleFault = Ok b in r) ≡ Err e → ⊥
ok_is_err h = cc

err_is_ok : {b : Bool} {e : RleFault} → (let r : Result Bool RleFault = Err e in r) ≡ Ok b → ⊥
err_is_ok h = cc

same_fault : {X : Type 0} {f g : RleFault} → (let r : Result Bool RleFault = Err f in r) ≡ Err g
    → (let r : Result X RleFault = Err f in r) ≡ Err g
same_fault h = cc

pub body_next : (p : Position) (b : ℕ) (bytes : List ℕ)
    → going (step p b) (λ q. body_from q bytes) ≡ body_from p (b ∷ bytes)
unfolding body_from
body_next p b bytes = refl

pub took_more : (s : Step) (new : Position) (next : Position → Result (List (ℕ × ℕ)) RleFault)
    (r : Result Bool RleFault) (b : Bool) → Took s new r → r ≡ Ok b → b ≡ false → next new ≡ going s next
took_more (goes q) new next r b h e t = let both = subst (λ x. Took (goes q) new x) e h in ap next both.1
took_more (ends cells) new next r b h e t = absurd (false_is_true (ap Ok (sym t) ∙ sym e ∙ h.0))
took_more (fails fault) new next r b h e t = absurd (ok_is_err (sym e ∙ h))

pub took_end : (s : Step) (new : Position) (next : Position → Result (List (ℕ × ℕ)) RleFault)
    (r : Result Bool RleFault) (b : Bool) → Took s new r → r ≡ Ok b → b ≡ true → Ok new.cells ≡ going s next
took_end (goes q) new next r b h e t =
    let both = subst (λ x. Took (goes q) new x) e h in absurd (true_is_false (sym t ∙ both.0))
took_end (ends cells) new next r b h e t = ap Ok h.1
took_end (fails fault) new next r b h e t = absurd (ok_is_err (sym e ∙ h))

pub took_fault : (s : Step) (new : Position) (next : Position → Result (List (ℕ × ℕ)) RleFault)
    (r : Result Bool RleFault) (fault : RleFault) → (fault ≡ Memory → ⊥) → Took s new r → r ≡ Err fault
    → Err fault ≡ going s next
took_fault (goes q) new next r fault other h e =
    let memory = subst (λ x. Took (goes q) new x) e h in absurd (other memory)
took_fault (ends cells) new next r fault other h e = absurd (err_is_ok (sym e ∙ h.0))
took_fault (fails f) new next r fault other h e = same_fault (sym e ∙ h)

-- ---- the bytes of a line

bytes_by : (line : List ℕ) (i : ℕ) (t : Bool) → i < length line → is_blank (get_or line i 0) ≡ t
    → without_blanks (drop i line)
    ≡ cond (not t) (get_or line i 0 ∷ without_blanks (drop (i + 1) line)) (without_blanks (drop (i + 1) line))
bytes_by line i t h e =
    let next : suc i ≡ i + 1 = omega arith in
    ap without_blanks (drop-cons line i 0 h)
    ∙ ap (λ n. cond (not (is_blank (get_or line i 0))) (get_or line i 0 ∷ without_blanks (drop n line))
    (without_blanks (drop n line))) next
    ∙ ap (λ t. cond (not t) (get_or line i 0 ∷ without_blanks (drop (i + 1) line)) (without_blanks (drop (i + 1) line)))
    e

-- a blank is nothing
pub blank_on : (line : List ℕ) (i : ℕ) → i < length line → is_blank (get_or line i 0) ≡ true
    → without_blanks (drop i line) ≡ without_blanks (drop (i + 1) line)
blank_on line i h e = bytes_by line i true h e

pub byte_on : (line : List ℕ) (i : ℕ) → i < length line → is_blank (get_or line i 0) ≡ false
    → without_blanks (drop i line) ≡ get_or line i 0 ∷ without_blanks (drop (i + 1) line)
byte_on line i h e = bytes_by line i false h e
