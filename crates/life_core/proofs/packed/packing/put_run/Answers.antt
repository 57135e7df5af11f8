use Rattle.std.proofs.Common.{◌≡◌, ◌*◌, pos, ◌+ℤ◌, subst, sym, ◌∙◌, refl, arith}
use Rattle.std.proofs.lemmas.Int.{ints}
use Rattle.life_core.proofs.CellLemmas.{same_coordinates}
use Rattle.life_core.specs.PackedFrameState.{cell_in, IsIn}
use Rattle.life_core.specs.Runs.{first_cell}
use Rattle.life_core.proofs.FrameBounds.{places_few, row_fits}
use Rattle.life_core.proofs.PackedRuns.{run_cells_join, run_narrow}
use Rattle.life_core.proofs.RunsLemmas.{all_at}
use Rattle.life_core.proofs.packed.packing.put_run.Goals as goal

pub offset-x-requires-clause-cell : goal.offset-x-requires-clause-cell
offset-x-requires-clause-cell c =
    let f = c.args.frame in
    let first = all_at (IsIn f.left f.top (64 * f.words) f.height) c.args.run.row c.args.run.first
    c.args.run.len 0 c.requires.cells (omega (arith, c.requires.some)) in
    let here : first_cell c.args.run ≡ record {
      row = c.args.run.row;
      column = c.args.run.first +ℤ pos 0;
    } = same_coordinates _ _ refl (omega (arith, ints)) in
    subst (IsIn f.left f.top (64 * f.words) f.height) (sym (c.first_cell.ensures ∙ here)) first

pub overflow_mul-y : goal.overflow_mul-y
overflow_mul-y c =
    let f = c.args.frame in
    record {
      fits =
          omega
          (arith, places_few f c.requires.frame, row_fits f.words f.height c.offset-x.result.1 c.offset-x.ensures.row);
    }

pub overflow_add-y : goal.overflow_add-y
overflow_add-y c =
    let f = c.args.frame in
    record {
      fits = omega (
        arith,
        places_few f c.requires.frame,
        row_fits f.words f.height c.offset-x.result.1 c.offset-x.ensures.row,
        c.offset-x.ensures.column,
      );
    }

pub set_bits-requires-clause-within : goal.set_bits-requires-clause-within
set_bits-requires-clause-within c =
    let f = c.args.frame in
    let at : first_cell c.args.run ≡ cell_in f.left f.top c.offset-x.result.0 c.offset-x.result.1 =
    sym c.first_cell.ensures ∙ c.offset-x.ensures.cell in
    let narrow = run_narrow f c.args.run c.offset-x.result.0 c.offset-x.result.1 c.requires.some at c.requires.cells in
    omega (arith, narrow, row_fits f.words f.height c.offset-x.result.1 c.offset-x.ensures.row, c.requires.rows)

pub set_bits-requires-clause-few : goal.set_bits-requires-clause-few
set_bits-requires-clause-few c =
    let f = c.args.frame in
    let at : first_cell c.args.run ≡ cell_in f.left f.top c.offset-x.result.0 c.offset-x.result.1 =
    sym c.first_cell.ensures ∙ c.offset-x.ensures.cell in
    let narrow = run_narrow f c.args.run c.offset-x.result.0 c.offset-x.result.1 c.requires.some at c.requires.cells in
    omega
    (arith, narrow, row_fits f.words f.height c.offset-x.result.1 c.offset-x.ensures.row, places_few f c.requires.frame)

pub returns-clause-cells : goal.returns-clause-cells
returns-clause-cells c d =
    let f = c.args.frame in
    let at : first_cell c.args.run ≡ cell_in f.left f.top c.offset-x.result.0 c.offset-x.result.1 =
    sym c.first_cell.ensures ∙ c.offset-x.ensures.cell in
    let narrow = run_narrow f c.args.run c.offset-x.result.0 c.offset-x.result.1 c.requires.some at c.requires.cells in
    run_cells_join f c.args.rows.now c.set_bits.new.rows c.args.run c.offset-x.result.0
    c.offset-x.result.1 c.requires.frame.wide c.requires.rows c.set_bits.ensures.len narrow
    c.offset-x.ensures.row at c.set_bits.ensures.inside c.set_bits.ensures.outside d
