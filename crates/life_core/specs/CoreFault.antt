-- The number and the name of a fault or a refusal.
use Rattle.std.specs.Prelude.{ℕ, List}

-- a fault or refusal as replies and messages identify it: by its number, or by its name
pub record Label : Type 0 where
  pub number : ℕ
  pub name : List ℕ

abbrev pub label : ℕ → List ℕ → Label
label number name = record { number = number; name = name }
