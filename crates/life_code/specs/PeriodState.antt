-- Facts that the search for a period finds out.
use Rattle.std.specs.Prelude.{ℕ, ◌≤◌, ℤ}
use Rattle.life_core.specs.Pattern.{Cells}
use Rattle.life_core.specs.Rule.{RuleSets}
use Rattle.life_code.specs.declared.kinds.Kind.{Kind}
use Rattle.life_code.specs.declared.kinds.Kind.TheVariants.{Oscillator, Ship}
use Rattle.life_code.specs.Period.{Returns}

-- the period of an oscillator or a spaceship is at most the limit
abbrev pub PeriodWithin : ℕ → Kind → Type 0
PeriodWithin limit (Oscillator p) = p ≤ limit
PeriodWithin limit (Ship p dx dy) = p ≤ limit
PeriodWithin limit k = Unit {0}

-- no later generation of X is X moved
abbrev pub NeverReturns : RuleSets → Cells → Type 0
NeverReturns r X = (n : ℕ) → 1 ≤ n → (dx dy : ℤ) → ¬ Returns r X n dx dy
