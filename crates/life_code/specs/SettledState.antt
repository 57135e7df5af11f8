-- The known parts of a field that has settled.
use Rattle.std.specs.Prelude.{ℕ}
use Rattle.life_core.specs.Pattern.{IsWithin}
use Rattle.life_core.specs.Rule.{RuleSets}
use Rattle.life_code.specs.declared.apart.Moving.{Moving}
use Rattle.life_code.specs.ApartState.{IsMoving}

-- the part has its orbit, and lies within k of the origin
pub record IsMovingWithin {A : Type 0} (k : ℕ) (r : RuleSets) (m : Moving A) : Type 0 where
  pub moving : IsMoving r m
  pub room : IsWithin k m.part
