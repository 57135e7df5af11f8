-- Steady fields: their clusters are still lifes and oscillators, and no two of them ever come near each other.
use Rattle.std.specs.Prelude.{◌≢◌, ℕ, Bool, true, false, not, ◌&&◌, List, [], ◌∷◌, map, ◌⊎◌}
use Rattle.std.specs.List.{list_any, list_all, range_with_len}
use Rattle.std.specs.FinSet as set
use Rattle.life_core.specs.Pattern.{Cells}
use Rattle.life_core.specs.Rule.{RuleSets}
use Rattle.life_core.specs.Generations.{generation_of}
use Rattle.life_code.specs.declared.kinds.Kind.{Kind}
use Rattle.life_code.specs.declared.kinds.Kind.TheVariants.{Empty, Still, Oscillator, Ship, Unresolved}
use Rattle.life_code.specs.Period.{HasKind, kind_of}
use Rattle.life_code.specs.Apart.{AreApart}
use Rattle.life_census.specs.Cluster.{IsCluster, touches, clusters_of}

-- ---- what a steady field is

-- P is a still life, or an oscillator within the limit on the period
unfoldable pub Stays : RuleSets → ℕ → Cells → Type 0
Stays r limit P = HasKind r P limit Still ⊎ ((p : ℕ) × HasKind r P limit (Oscillator p))

-- Each cluster of X stays in place, and no phase of a cluster is near a phase of another. The phases of a cluster are
-- its generations without the other clusters.
pub record IsSteady (r : RuleSets) (X : Cells) (limit : ℕ) : Type 0 where
  pub stay : (P : Cells) → IsCluster X P → Stays r limit P
  pub apart : (P Q : Cells) → IsCluster X P → IsCluster X Q → P ≢ Q → (i j : ℕ)
      → AreApart (generation_of r P i) (generation_of r Q j)

-- ---- whether a field is steady, as a function

-- whether patterns of this kind stay in place
abbrev pub is_staying : Kind → Bool
is_staying Empty = false
is_staying Still = true
is_staying (Oscillator p) = true
is_staying (Ship p dx dy) = false
is_staying Unresolved = false

-- whether P is a still life, or an oscillator within the limit on the period
abbrev pub stays : RuleSets → ℕ → Cells → Bool
stays r limit P = is_staying (kind_of r P limit)

-- decides `AreApart`
abbrev pub are_apart : Cells → Cells → Bool
are_apart Y Z = not (list_any (λ c. touches c Z) (set.items Y))

-- the first n generations of P, beginning with P
abbrev pub first_generations : RuleSets → ℕ → Cells → List Cells
first_generations r n P = map (generation_of r P) (range_with_len 0 n)

-- whether none of the first n generations of P is near one of the first n generations of Q
abbrev pub keep_apart : RuleSets → ℕ → Cells → Cells → Bool
keep_apart r n P Q = list_all (λ Y. list_all (are_apart Y) (first_generations r n Q)) (first_generations r n P)

-- whether the sets keep apart pairwise
abbrev pub all_keep_apart : RuleSets → ℕ → List Cells → Bool
all_keep_apart r n [] = true
all_keep_apart r n (P ∷ Ps) = list_all (keep_apart r n P) Ps && all_keep_apart r n Ps

-- whether each cluster of X stays in place, and the clusters are apart in their first generations up to the limit,
-- which include all phases
unfoldable pub is_steady : RuleSets → Cells → ℕ → Bool
is_steady r X limit = list_all (stays r limit) (clusters_of X) && all_keep_apart r limit (clusters_of X)
