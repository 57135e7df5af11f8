-- Runs that are moved.
use Rattle.std.specs.Prelude.{ℕ, suc, ◌<◌, ℤ, List, [], ◌∷◌, length, map, get_or}
use Rattle.std.proofs.Common.{sym, ap, ◌∙◌, arith}
use Rattle.std.proofs.lemmas.Int.{ints}
use Rattle.std.proofs.lemmas.List.{length-map}
use Rattle.std.proofs.lemmas.List.Elements.{All-contains}
use Rattle.std.proofs.lemmas.Map.Views.{Contains-from_any}
use Rattle.std.specs.List.{All}
use Rattle.life_core.specs.declared.cell.Cell.{Cell}
use Rattle.life_core.specs.declared.cell.TheConstants.{PLANE}
use Rattle.life_core.specs.declared.runs.Run.{Run}
use Rattle.life_core.specs.Cell.{moved_cell, IsCellWithin}
use Rattle.life_core.specs.Runs.{runs_cells, first_cell, moved_run, NoneJoins, AreLongest}
use Rattle.life_core.specs.RunsState.{IsNear, IsRunList}
use Rattle.life_core.proofs.PatternMembers.{same_cell-true}
use Rattle.life_core.proofs.RunsLaws.{first_listed, moved_list}

-- what holds of all cells of runs holds of the first of each
first_of : (P : Cell → Type 0) (rs : List Run) (i : ℕ) (d : Run) → AreLongest rs → All P (runs_cells rs)
    → i < length rs → P (first_cell (get_or rs i d))
first_of P rs i d longest all low =
    All-contains P (runs_cells rs) (first_cell (get_or rs i d)) all
    (Contains-from_any same_cell-true (first_cell (get_or rs i d)) (runs_cells rs) (first_listed rs i d longest low))

pub near_runs : (rs : List Run) → AreLongest rs → All (IsCellWithin PLANE) (runs_cells rs) → All IsNear rs
near_runs rs longest all i d low =
    let it = first_of (IsCellWithin PLANE) rs i d longest all low in
    record { top = it.top; bottom = it.bottom; left = it.left; right = it.right }

pub near_moved : (dx dy : ℤ) (rs : List Run) → AreLongest rs
    → All (λ c. IsCellWithin PLANE (moved_cell dx dy c)) (runs_cells rs) → All (λ r. IsNear (moved_run dx dy r)) rs
near_moved dx dy rs longest all i d low =
    let it = first_of (λ c. IsCellWithin PLANE (moved_cell dx dy c)) rs i d longest all low in
    record { top = it.top; bottom = it.bottom; left = it.left; right = it.right }

none_moved : (dx dy : ℤ) (r : Run) (rs : List Run) → NoneJoins r rs
    → NoneJoins (moved_run dx dy r) (map (moved_run dx dy) rs)
none_moved dx dy r [] none = tt
none_moved dx dy r (s ∷ rs) none =
    λ joins. none (let row = joins.0 in omega (arith, ints, row), let column = joins.1 in omega (arith, ints, column))

moved_longest : (dx dy : ℤ) (rs : List Run) → AreLongest rs
    → ((i : ℕ) (d : Run) → i < length rs → IsNear (moved_run dx dy (get_or rs i d)))
    → AreLongest (map (moved_run dx dy) rs)
moved_longest dx dy [] h near = tt
moved_longest dx dy (r ∷ rs) h near =
    let here = near 0 r (omega arith) in (
      record { some = h.0.some; from = let left = here.left in omega (arith, ints, left) },
      none_moved dx dy r rs h.1,
      moved_longest dx dy rs h.2 (λ i d low. near (suc i) d (omega (arith, low))),
    )

pub moved_run_list : (dx dy : ℤ) (rs : List Run) (n : ℕ) → IsRunList rs n → All (λ r. IsNear (moved_run dx dy r)) rs
    → IsRunList (map (moved_run dx dy) rs) n
moved_run_list dx dy rs n h near = record {
  longest = moved_longest dx dy rs h.longest near;
  count = h.count ∙ sym (length-map (runs_cells rs) (moved_cell dx dy)) ∙ ap length (sym (moved_list dx dy rs));
}
