-- The table of the known shapes of clusters.
use Rattle.std.specs.Prelude.{◌≡◌, ℕ, zero, suc, ◌≤◌, ◌<◌, Bool, IsTrue, List, [], ◌++◌, length, slice_index_or, Option}
use Rattle.std.specs.Prelude.{MatchOption}
use Rattle.std.specs.List.{All}
use Rattle.life_core.specs.declared.cell.Cell.{Cell}
use Rattle.life_core.specs.Cell.{moved_cell}
use Rattle.life_core.specs.Pattern.{Cells, image, in_order}
use Rattle.life_core.specs.Rule.{RuleSets}
use Rattle.life_core.specs.Generations.{generation_of}
use Rattle.life_code.specs.declared.period.TheConstants.{PERIOD_LIMIT}
use Rattle.life_code.specs.Codes.{code_of}
use Rattle.life_census.specs.declared.survey.Shape.{Shape}
use Rattle.life_census.specs.Steady.{Stays}

-- the cells of the first n phases of P, one phase after another
unfoldable pub phases_of : RuleSets → Cells → ℕ → List Cell
phases_of r P zero = []
phases_of r P (suc i) = phases_of r P i ++ in_order (generation_of r P i)

-- P stays in place, and returns after p generations
pub record StaysFor (r : RuleSets) (limit : ℕ) (P : Cells) (p : ℕ) : Type 0 where
  pub stays : Stays r limit P
  pub from_one : 1 ≤ p
  pub few : p ≤ limit
  pub back : generation_of r P p ≡ P

-- the cells are the phases of P, which stays in place
abbrev pub ArePhases : RuleSets → ℕ → Cells → List Cell → Type 0
ArePhases r limit P cells = (p : ℕ) × StaysFor r limit P p × (cells ≡ phases_of r P p)

-- An entry of the table has the code of its first cluster. If phases are listed, it also has the cells of all phases,
-- or none if the cluster doesn't stay in place.
pub record IsShape {A : Type 0} (r : RuleSets) (limit : ℕ) (listed : Bool) (s : Shape A) : Type 0 where
  pub code : s.code ≡ code_of r s.cluster limit
  pub phases : IsTrue listed → MatchOption s.phases (Stays r limit s.cluster → ⊥)
      (λ v. ArePhases r limit s.cluster v.items)

-- all entries are right under this rule and a valid limit
pub record IsSurvey {A : Type 0} (r : RuleSets) (limit : ℕ) (listed : Bool) (shapes : List (Shape A)) : Type 0 where
  pub from_one : 1 ≤ limit
  pub few : limit ≤ PERIOD_LIMIT
  pub each : All (IsShape r limit listed) shapes

-- X is the first cluster of the shape at place i, moved by the columns and rows of v
abbrev pub HasShapeAt : {A : Type 0} → List (Shape A) → Cells → ℕ → Cell → Type 0
HasShapeAt {A} shapes X i v =
    (i < length shapes) × ((d : Shape A) → X ≡ image (moved_cell v.column v.row) (slice_index_or shapes i d).cluster)

-- the shape at place i has this code, or no code
abbrev pub HasCodeAt : {A : Type 0} → List (Shape A) → Option (List ℕ) → ℕ → Type 0
HasCodeAt {A} shapes code i = (i < length shapes) × ((d : Shape A) → (slice_index_or shapes i d).code ≡ code)
