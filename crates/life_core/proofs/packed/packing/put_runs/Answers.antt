use Rattle.std.proofs.Common.{◌*◌, ◌||◌, List, get_or, pos, ap, ◌∙◌, arith}
use Rattle.std.proofs.lemmas.List.{take_all}
use Rattle.std.specs.FinSet as set
use Rattle.life_core.specs.declared.runs.Run.{Run}
use Rattle.life_core.specs.PackedFrameState.{framed, IsIn}
use Rattle.life_core.specs.Runs.{runs_cells, run_cells}
use Rattle.life_core.proofs.PatternMembers.{has_cell}
use Rattle.life_core.proofs.RunsLaws.{run_at}
use Rattle.life_core.proofs.RunsLemmas.{runs_join, all_of_run}
use Rattle.life_core.proofs.packed.packing.put_runs.Goals as goal

abbrev none : Run
none = record { row = pos 0; first = pos 0; len = 0 }

pub put_run-requires-clause-some : goal.put_run-requires-clause-some
put_run-requires-clause-some c =
    (run_at c.args.runs.now c.loop-run.run-index none c.requires.longest c.loop-run-test.true).some

pub put_run-requires-clause-cells : goal.put_run-requires-clause-cells
put_run-requires-clause-cells c =
    let f = c.args.frame in
    all_of_run (IsIn f.left f.top (64 * f.words) f.height) c.args.runs.now c.loop-run.run-index
    none c.requires.cells c.loop-run-test.true

pub loop-run-preserved : goal.loop-run-preserved
loop-run-preserved c =
    let f = c.args.frame in
    let i = c.loop-run.run-index in
    record {
      long = omega arith;
      members = λ d.
          c.put_run.ensures.cells d ∙ ap (λ b. has_cell (run_cells (get_or c.args.runs.now i none)) d || b)
          (c.loop-run.invariant.members d)
          ∙ runs_join c.args.runs.now i none d (set.contains (framed f c.args.rows.now) d) c.loop-run-test.true;
    }

pub returns-clause-cells : goal.returns-clause-cells
returns-clause-cells c d =
    c.loop-run.invariant.members d
    ∙ ap (λ (rs : List Run). has_cell (runs_cells rs) d || set.contains (framed c.args.frame c.args.rows.now) d)
    (take_all _ c.args.runs.now (omega arith))
