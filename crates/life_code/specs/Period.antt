-- Periods and kinds of patterns (LifeWiki, "Period", "Still life", "Oscillator" and "Spaceship").
use Rattle.std.specs.Prelude.{◌≡◌, ◌≢◌, ℕ, ◌<◌, ◌≤◌, Bool, ◌&&◌, ◌==◌, if◌then◌else◌, Option, Some, None, Result, IfOk}
use Rattle.std.specs.Prelude.{ℤ, pos, ◌-ℤ◌}
use Rattle.std.specs.List.{find, range_with_len}
use Rattle.std.specs.Ordering.{int_eq}
use Rattle.std.specs.FinSet as set
use Rattle.life_core.specs.Cell.{moved_cell}
use Rattle.life_core.specs.Pattern.{Cells, IsWithin, image, corner, normal}
use Rattle.life_core.specs.Rule.{RuleSets}
use Rattle.life_core.specs.Generations.{generation_of}
use Rattle.life_code.specs.declared.kinds.Kind.{Kind}
use Rattle.life_code.specs.declared.kinds.Kind.TheVariants.{Empty, Still, Oscillator, Ship, Unresolved}
use Rattle.life_code.specs.declared.period.TheConstants.{PERIOD_LIMIT}

-- ---- what a kind says

-- generation p of X is X moved dx columns to the right and dy rows down
abbrev pub Returns : RuleSets → Cells → ℕ → ℤ → ℤ → Type 0
Returns r X p dx dy = generation_of r X p ≡ image (moved_cell dx dy) X

-- X has period p: generation p is the first after generation 0 that is X moved, here by dx and dy. A blinker has
-- period 2 and moves by 0 and 0.
abbrev pub HasPeriod : RuleSets → Cells → ℕ → ℤ → ℤ → Type 0
HasPeriod r X p dx dy = (1 ≤ p) × Returns r X p dx dy × ((q : ℕ) → 1 ≤ q → q < p → (ex ey : ℤ) → ¬ Returns r X q ex ey)

-- the meaning of each kind under a limit on the period
abbrev pub HasKind : RuleSets → Cells → ℕ → Kind → Type 0
HasKind r X limit Empty = X ≡ set.empty
HasKind r X limit Still = (X ≢ set.empty) × (1 ≤ limit) × HasPeriod r X 1 (pos 0) (pos 0)
HasKind r X limit (Oscillator p) = (X ≢ set.empty) × (p ≤ limit) × (1 < p) × HasPeriod r X p (pos 0) (pos 0)
HasKind r X limit (Ship p dx dy) =
    (X ≢ set.empty) × (p ≤ limit) × ¬ ((dx ≡ pos 0) × (dy ≡ pos 0)) × HasPeriod r X p dx dy
HasKind r X limit Unresolved = (X ≢ set.empty) × ((p : ℕ) → 1 ≤ p → p ≤ limit → (dx dy : ℤ) → ¬ Returns r X p dx dy)

-- ---- the kind

-- whether two sets have the same cells
abbrev pub same_cells : Cells → Cells → Bool
same_cells X Y = set.is_subset X Y && set.is_subset Y X

-- whether generation p is X moved, by comparing their normal forms
unfoldable pub returns : RuleSets → Cells → ℕ → Bool
returns r X p = same_cells (normal X) (normal (generation_of r X p))

-- the least p from 1 to the limit at which X returns
abbrev pub period_of : RuleSets → Cells → ℕ → Option ℕ
period_of r X limit = find (returns r X) (range_with_len 1 limit)

-- still life, oscillator or spaceship, from the period and the move in it
abbrev pub kind_of_period : ℕ → ℤ → ℤ → Kind
kind_of_period p dx dy =
    if int_eq dx (pos 0) && int_eq dy (pos 0) then (if p == 1 then Still else Oscillator p) else Ship p dx dy

-- the kind from the period, if there is one; the corner shows how far X has moved
abbrev pub kind_at : RuleSets → Cells → Option ℕ → Kind
kind_at r X None = Unresolved
kind_at r X (Some p) =
    kind_of_period p ((corner (generation_of r X p)).column -ℤ (corner X).column)
    ((corner (generation_of r X p)).row -ℤ (corner X).row)

-- the kind of X under a limit on the period
unfoldable pub kind_of : RuleSets → Cells → ℕ → Kind
kind_of r X limit = if set.len X == 0 then Empty else kind_at r X (period_of r X limit)

-- ---- what a call asks and gives

-- The limit is valid, and X is so far inside the plane that it cannot leave it within that many generations.
pub record IsSearchable (limit : ℕ) (X : Cells) : Type 0 where
  pub from_one : 1 ≤ limit
  pub few : limit ≤ PERIOD_LIMIT
  pub room : IsWithin 400000000 X

-- k is the kind of X under a valid limit, and X is as far inside the plane as for a search
pub record IsKindOf (r : RuleSets) (X : Cells) (limit : ℕ) (k : Kind) : Type 0 where
  pub few : limit ≤ PERIOD_LIMIT
  pub room : IsWithin 400000000 X
  pub kind : k ≡ kind_of r X limit

-- a call that succeeds returns the kind of X, and the kind's meaning holds
pub record GivesKind {E : Type 0} (r : RuleSets) (X : Cells) (limit : ℕ) (result : Result Kind E) : Type 0 where
  pub value : IfOk result (λ k. k ≡ kind_of r X limit)
  pub meaning : IfOk result (HasKind r X limit)
