-- Members and tokens that a request may have.
use Rattle.std.proofs.Common.{◌≡◌, ◌↔◌, List, [], ℕ, Bool, true, false, None, Some, Result, Ok, Err, IsTrue, refl}
use Rattle.std.proofs.Common.{sym, subst, subst₂}
use Rattle.std.specs.Prelude.{is_ok, if◌then◌else◌}
use Rattle.life_desk.specs.declared.refusal.Refusal.{Refusal}
use Rattle.life_desk.specs.declared.refusal.Refusal.TheVariants.{BadMember, BadToken}
use Rattle.life_desk.specs.declared.request.Request.{Request}
use Rattle.life_desk.specs.declared.request.Request.TheVariants as requests
use Rattle.life_desk.specs.Validation.{is_member, is_token, validated, validated_by, IsChecked}
use Rattle.life_check.specs.ReadState.{AreNames}

no_truth : IsTrue false → ⊥
no_truth it = cc

by_tests : (x y : Bool) (word : Request) (r : Result (Unit {0}) Refusal)
    → IsChecked r (validated_by (if x then (if y then None else Some BadToken) else Some BadMember) word)
    → IsTrue (is_ok r) ↔ (IsTrue x × IsTrue y)
by_tests true true word (Ok u) it = (λ ok. (refl, refl), λ names. refl)
by_tests true true word (Err e) it = absurd cc
by_tests true false word (Ok u) it = absurd cc
by_tests true false word (Err e) it = (λ ok. absurd (no_truth ok), λ names. absurd (no_truth names.1))
by_tests false y word (Ok u) it = absurd cc
by_tests false y word (Err e) it = (λ ok. absurd (no_truth ok), λ names. absurd (no_truth names.0))

-- the check of a deposit's fields passes exactly valid ones
pub names_checked : (m t member token : List ℕ) (r : Result (Unit {0}) Refusal) (b : Bool)
    → m ≡ member → t ≡ token → ((file : List ℕ) → IsChecked r (validated (requests.Deposit m t file)))
    → b ≡ is_ok r → IsTrue b ↔ AreNames member token
names_checked m t member token r b first second checked is =
    subst₂ (λ (x y : List ℕ). IsTrue b ↔ AreNames x y) first second
    (subst (λ (x : Bool). IsTrue x ↔ AreNames m t) (sym is) (by_tests (is_member m) (is_token t)
    (requests.Deposit m t []) r (checked [])))
