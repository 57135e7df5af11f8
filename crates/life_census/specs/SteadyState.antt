-- Visits: the cells that are live in some phase of a cluster.
use Rattle.std.specs.Prelude.{◌≡◌, ◌≢◌, ℕ, ◌<◌, ℤ, ◌+ℤ◌, true, false, List, slice_index_or}
use Rattle.std.specs.declared.cmp.Ordering.{Ordering}
use Rattle.std.specs.Ordering.{is_lt, nat_cmp, ordering_then}
use Rattle.std.specs.List.{Contains}
use Rattle.std.specs.FinSet as set
use Rattle.life_core.specs.declared.cell.Cell.{Cell}
use Rattle.life_core.specs.declared.cell.TheConstants.{PLANE}
use Rattle.life_core.specs.Cell.{cell_cmp, IsCellWithin}
use Rattle.life_core.specs.Pattern.{Cells}
use Rattle.life_core.specs.Rule.{RuleSets}
use Rattle.life_core.specs.Generations.{generation_of}
use Rattle.life_code.specs.Apart.{near}
use Rattle.life_census.specs.declared.meeting.Visit.{Visit}

-- the order of visits: by cell, and then by cluster
abbrev pub visit_cmp : Visit → Visit → Ordering
visit_cmp v w = ordering_then (cell_cmp v.cell w.cell) (nat_cmp v.cluster w.cluster)

-- the visit of a cluster to a cell
abbrev pub visit_of : ℕ → Cell → Visit
visit_of number c = record { cell = c; cluster = number }

-- the cell of a visit lies in the plane
abbrev pub IsVisitInPlane : Visit → Type 0
IsVisitInPlane v = IsCellWithin PLANE v.cell

-- the list has exactly the visits of all phases of the first n sets
pub record AreVisits (r : RuleSets) (Ps : List Cells) (n : ℕ) (visits : List Visit) : Type 0 where
  pub only : (v : Visit) → Contains visits v → (v.cluster < n)
      × ((i : ℕ) × ((d : Cells) → set.contains (generation_of r (slice_index_or Ps v.cluster d) i) v.cell ≡ true))
  pub all : (number i : ℕ) (d : Cells) (c : Cell) → number < n
      → set.contains (generation_of r (slice_index_or Ps number d) i) c ≡ true → Contains visits (visit_of number c)

-- two visits of different clusters are to cells that are not near
abbrev pub KeepApart : Visit → Visit → Type 0
KeepApart v w = v.cluster ≢ w.cluster → near v.cell w.cell ≡ false

-- the first cell comes before the second
abbrev pub ComesBefore : Cell → Cell → Type 0
ComesBefore c d = is_lt (cell_cmp c d) ≡ true

-- the same, unless the second cell comes after `last`
abbrev pub KeepApartUpTo : Cell → Visit → Visit → Type 0
KeepApartUpTo last v w = is_lt (cell_cmp last w.cell) ≡ false → KeepApart v w

-- the same, for all pairs of visits whose second cell is this many rows below the first
abbrev pub AreRowsApart : ℤ → List Visit → Type 0
AreRowsApart rows visits =
    (v w : Visit) → Contains visits v → Contains visits w → w.cell.row ≡ v.cell.row +ℤ rows → KeepApart v w

-- the same, for all pairs of visits
abbrev pub AreAllApart : List Visit → Type 0
AreAllApart visits = (v w : Visit) → Contains visits v → Contains visits w → KeepApart v w
