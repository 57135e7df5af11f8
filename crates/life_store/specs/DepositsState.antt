-- Used only by contracts inside the crate: the values of a deposit's INSERT, and its effect.
use Rattle.std.specs.Prelude.{◌≡◌, ◌+◌, ◌++◌, ◌∷◌, [], ℕ, ℤ, pos, List, length, Result}
use Rattle.std.specs.FinSet as set
use Rattle.sqlite_trees.specs.declared.store.Store.{Ghosts}
use Rattle.sqlite.specs.Held.{Held}
use Rattle.life_core.specs.RuleText.{rule_text}
use Rattle.life_rle.specs.Writer.{text}
use Rattle.life_store.specs.declared.kept.Deposit.{Deposit}
use Rattle.life_store.specs.Stored.{IsFiled}
use Rattle.life_store.specs.Statements.{AddsNext}

-- the values of a deposit's row other than its number, member and token
pub record AreValuesOf (d : Deposit) (r : List ℕ) (n : ℤ) (file : List ℕ) : Type 0 where
  pub filed : IsFiled d
  pub rule : r ≡ rule_text d.content.rule
  pub population : n ≡ pos (set.len d.content.cells)
  pub content : file ≡ text d.content

-- the INSERT of a deposit under a number, which has to be the next one
abbrev pub AddsUnder : {S A E : Type 0} → Ghosts S → ℤ → Deposit → Held S → Held S → Result A E → Type 0
AddsUnder g id d old new result =
    AddsNext g (λ k. id ≡ pos (length k.deposits + 1))
    (λ k. record k { deposits = k.deposits ++ d ∷ [] }) old new result
