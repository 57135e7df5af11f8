-- Numbers at the places of several words, with a word for each binary digit.
use Rattle.std.specs.Prelude.{◌≡◌, ℕ, ◌+◌, ◌*◌, ◌<◌, List, nat_eq}
use Rattle.life_core.specs.PackedRow.{place, one_if}
use Rattle.life_core.specs.Rule.{RuleSets, lives_at}

-- the number at a place, from its two digits
abbrev pub digits_at : List ℕ → List ℕ → ℕ → ℕ
digits_at low high p = place low p + 2 * place high p

-- the sum of three numbers of two digits at a place
abbrev pub sum_at : List ℕ → List ℕ → List ℕ → List ℕ → List ℕ → List ℕ → ℕ → ℕ
sum_at above above2 sides sides2 below below2 p =
    digits_at above above2 p + (digits_at sides sides2 p + digits_at below below2 p)

-- a place of the n words is set exactly when it is live next, by the sum of its live neighbours
abbrev pub AreNextLanes : RuleSets → ℕ → List ℕ → List ℕ → List ℕ → List ℕ → List ℕ → List ℕ → List ℕ → List ℕ → Type 0
AreNextLanes r n here above above2 sides sides2 below below2 next =
    (p : ℕ) → p < 64 * n → sum_at above above2 sides sides2 below below2 p < 9
    → place next p ≡ one_if (lives_at r (nat_eq (place here p) 1) (sum_at above above2 sides sides2 below below2 p))
