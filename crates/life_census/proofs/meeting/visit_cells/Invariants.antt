use Rattle.std.proofs.Common.{◌≡◌, ◌++◌, take, map}
use Rattle.life_core.specs.Cell.{moved_cell}
use Rattle.life_census.specs.SteadyState.{visit_of}
use Rattle.life_census.proofs.meeting.visit_cells.Given as goal

abbrev pub invariant-loop-cell : goal.invariant-loop-cell
invariant-loop-cell g l =
    l.visits.items ≡ l.fn.visits.items ++ map (λ c. visit_of l.number (moved_cell l.move_by.column l.move_by.row c))
    (take l.cell-index l.cells)
