-- A number below 16 and its four binary digits.
use Rattle.std.proofs.Common.{◌≡◌, ℕ, ◌+◌, ◌*◌, ◌%◌, ◌<◌, Bool, true, false, nat_eq, sym, ap, min, if◌then◌else◌, arith}
use Rattle.std.proofs.lemmas.Bool.Decides.{nat_tests}
use Rattle.life_core.specs.PackedRow.{one_if}

-- one of two digits, by a third
pub either_bit : (p u s : ℕ) → p < 2 → u < 2 → s < 2 → (u + min p ((u + s) % 2)) % 2 ≡ (if nat_eq p 1 then s else u)
either_bit p u s a b c = grind (arith, nat_tests)

digit_is : (n : ℕ) → n < 2 → n ≡ one_if (nat_eq n 1)
digit_is n lt = grind (arith, nat_tests)

-- the number that four digits name, among those from 0 to 8
chosen : (F : ℕ → ℕ) (o t f e : Bool) (n : ℕ) → n ≡ one_if o + (2 * one_if t + (4 * one_if f + 8 * one_if e)) → n < 9
    → (if e then F 8 else (if f then (if t then (if o then F 7 else F 6) else (if o then F 5 else F 4))
    else (if t then (if o then F 3 else F 2) else (if o then F 1 else F 0)))) ≡ F n
chosen F false false false false n is lt = ap F (sym is)
chosen F true false false false n is lt = ap F (sym is)
chosen F false true false false n is lt = ap F (sym is)
chosen F true true false false n is lt = ap F (sym is)
chosen F false false true false n is lt = ap F (sym is)
chosen F true false true false n is lt = ap F (sym is)
chosen F false true true false n is lt = ap F (sym is)
chosen F true true true false n is lt = ap F (sym is)
chosen F false false false true n is lt = ap F (sym is)
chosen F true false false true n is lt = absurd (omega (arith, is, lt))
chosen F o true f true n is lt = absurd (omega (arith, is, lt))
chosen F o t true true n is lt = absurd (omega (arith, is, lt))

pub picked : (F : ℕ → ℕ) (o t f e : ℕ) → o < 2 → t < 2 → f < 2 → e < 2 → o + (2 * t + (4 * f + 8 * e)) < 9
    → (if nat_eq e 1 then F 8 else (if nat_eq f 1
    then (if nat_eq t 1 then (if nat_eq o 1 then F 7 else F 6) else (if nat_eq o 1 then F 5 else F 4))
    else (if nat_eq t 1 then (if nat_eq o 1 then F 3 else F 2) else (if nat_eq o 1 then F 1 else F 0))))
    ≡ F (o + (2 * t + (4 * f + 8 * e)))
picked F o t f e a b c d lt =
    chosen F (nat_eq o 1) (nat_eq t 1) (nat_eq f 1) (nat_eq e 1) (o + (2 * t + (4 * f + 8 * e)))
    (λ i. digit_is o a i + (2 * digit_is t b i + (4 * digit_is f c i + 8 * digit_is e d i))) lt
