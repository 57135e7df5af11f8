use Rattle.std.proofs.Common.{◌≡◌, List, ◌++◌, drop, take, length, map, ap, sym, subst, ◌∙◌, arith}
use Rattle.std.proofs.lemmas.List.{take_at}
use Rattle.std.proofs.lemmas.List.Elements.{All-same}
use Rattle.life_core.specs.declared.cell.TheConstants.{PLANE}
use Rattle.life_core.specs.declared.runs.Run.{Run}
use Rattle.life_core.specs.Cell.{moved_cell, IsCellWithin}
use Rattle.life_core.specs.Runs.{runs_cells, moved_run}
use Rattle.life_core.specs.RunsState.{IsNear, IsRunList}
use Rattle.life_core.proofs.RunsLaws.{moved_list}
use Rattle.life_core.proofs.RunsMoves.{near_runs, near_moved, moved_run_list}
use Rattle.life_core.proofs.runs.Runs.into_moved.Given as given
use Rattle.life_core.proofs.runs.Runs.into_moved.Goals as goal

pub move_runs-requires-clause-here : goal.move_runs-requires-clause-here
move_runs-requires-clause-here g c =
    All-same IsNear _ _ c.deref_mut.ensures.value (near_runs c.self.inside.runs.items c.self.invariant.longest
    (All-same (IsCellWithin PLANE) _ _ c.self.view_is c.requires.here))

pub move_runs-requires-clause-there : goal.move_runs-requires-clause-there
move_runs-requires-clause-there g c =
    let by = c.args.by in
    All-same (λ r. IsNear (moved_run by.column by.row r)) _ _ c.deref_mut.ensures.value
    (near_moved by.column by.row c.self.inside.runs.items c.self.invariant.longest
    (All-same (λ d. IsCellWithin PLANE (moved_cell by.column by.row d)) _ _ c.self.view_is c.requires.there))

-- the runs that are left are the moved ones
left : (g : given.Over) (c : goal.After-runs-2-1 g)
    → take c.self.inside.runs.len (c.move_runs.new.runs ++ drop (length c.move_runs.new.runs) c.self.inside.runs.items)
    ≡ map (moved_run c.args.by.column c.args.by.row) c.self.inside.runs.items
left g c =
    take_at c.move_runs.new.runs (drop (length c.move_runs.new.runs) c.self.inside.runs.items) c.self.inside.runs.len
    (omega (arith, c.move_runs.auto.runs, c.deref_mut.ensures.len)) ∙ c.move_runs.ensures
    ∙ ap (map (moved_run c.args.by.column c.args.by.row)) c.deref_mut.ensures.value

pub invariant_of-result : goal.invariant_of-result
invariant_of-result g c =
    let by = c.args.by in
    let own = c.self.inside.runs.items in
    subst (λ (rs : List Run). IsRunList rs c.self.inside.len) (sym (left g c))
    (moved_run_list by.column by.row own c.self.inside.len c.self.invariant
    (near_moved by.column by.row own c.self.invariant.longest
    (All-same (λ d. IsCellWithin PLANE (moved_cell by.column by.row d)) _ _ c.self.view_is c.requires.there)))

pub returns : goal.returns
returns g c =
    let by = c.args.by in
    ap runs_cells (left g c) ∙ moved_list by.column by.row c.self.inside.runs.items
    ∙ ap (map (moved_cell by.column by.row)) c.self.view_is
