-- The set of cells that a code spells, and the meaning of each refusal.
use Rattle.std.specs.Prelude.{◌≡◌, ◌≢◌, ◌⊎◌, ℕ, Bool, true, false, not, ◌&&◌, ◌==◌, nat_le, Some, List, [], ◌∷◌, ◌++◌}
use Rattle.std.specs.Prelude.{length, codes}
use Rattle.std.specs.Char.{is_ascii_digit}
use Rattle.std.specs.List.{list_all}
use Rattle.std.specs.FinSet as set
use Rattle.life_core.specs.Ascii.{digit_0, underscore}
use Rattle.life_core.specs.Pattern.{Cells, normal}
use Rattle.life_core.specs.Rule.{RuleSets}
use Rattle.life_code.specs.declared.kinds.Kind.TheVariants.{Unresolved}
use Rattle.life_code.specs.declared.code_fault.CodeFault.{CodeFault}
use Rattle.life_code.specs.declared.code_fault.CodeFault.TheVariants.{BadText, NotCanonical, NotWithinLimit, Memory}
use Rattle.life_code.specs.Period.{kind_of}
use Rattle.life_code.specs.Wechsler.{wechsler}
use Rattle.life_code.specs.Codes.{fits, code_of}

-- a code begins with `xs` for a still life, `xp` for an oscillator or `xq` for a spaceship
abbrev pub IsPrefix : List ℕ → Type 0
IsPrefix prefix = (prefix ≡ codes "xs") ⊎ ((prefix ≡ codes "xp") ⊎ (prefix ≡ codes "xq"))

-- a number in a code: one to six digits, the first of them not `0`
abbrev pub is_number : List ℕ → Bool
is_number [] = false
is_number (digit ∷ digits) =
    not (digit == digit_0) && nat_le (length digits) 5 && list_all is_ascii_digit (digit ∷ digits)

-- the part of a code before the `_`, such as `xq4`
pub record IsFront (front : List ℕ) : Type 0 where
  pub prefix : List ℕ
  pub is_prefix : IsPrefix prefix
  pub number : List ℕ
  pub is_number : is_number number ≡ true
  pub parts : front ≡ prefix ++ number

-- the text is the Wechsler text of X, which is normal, not empty, and at most 40 by 40
pub record IsWechsler (text : List ℕ) (X : Cells) : Type 0 where
  pub text_is : text ≡ wechsler X
  pub at_origin : normal X ≡ X
  pub cells : X ≢ set.empty
  pub small : fits X ≡ true

-- the text is a prefix, a number, `_`, and the Wechsler text of X
pub record Spells (text : List ℕ) (X : Cells) : Type 0 where
  pub front : List ℕ
  pub is_front : IsFront front
  pub back : List ℕ
  pub is_wechsler : IsWechsler back X
  pub parts : text ≡ front ++ underscore ∷ back

-- The meaning of each refusal: the text spells no set; its set has no period within the limit; or its set has another
-- code, or none. Out of memory allows no conclusion.
abbrev pub Refuses : RuleSets → List ℕ → ℕ → CodeFault → Type 0
Refuses r text limit BadText = (X : Cells) → ¬ Spells text X
Refuses r text limit NotWithinLimit = (X : Cells) × Spells text X × (kind_of r X limit ≡ Unresolved)
Refuses r text limit NotCanonical =
    (X : Cells) × Spells text X × (kind_of r X limit ≢ Unresolved) × (code_of r X limit ≢ Some text)
Refuses r text limit Memory = Unit {0}
