use Rattle.std.proofs.Common.{◌≡◌, ℕ, ◌++◌, List, drop, map}
use Rattle.life_core.specs.declared.runs.Run.{Run}
use Rattle.life_core.specs.Runs.{runs_cells}
use Rattle.life_rle.specs.Writer.{laid, coordinates}
use Rattle.life_rle.specs.WriterState.{texts_from, AreNextRuns}
use Rattle.life_rle.specs.ItemLinesState.{body_written}
use Rattle.life_rle.proofs.writer.write_body.Given as goal

pub record Writes (out : List ℕ) (all rest : List Run) (text : List (List ℕ) → List ℕ)
    (row column live : ℕ) : Type 0 where
  pub same : (items : List (List ℕ))
      → text items ≡ out ++ laid 0 (texts_from 0 0 0 (map coordinates (runs_cells all)) ++ items)
  pub next : AreNextRuns row column live rest

abbrev pub invariant-loop-run : goal.invariant-loop-run
invariant-loop-run g l =
    Writes l.fn.out.items l.runs (drop l.run-index l.runs)
    (λ items. body_written l.body (map coordinates (runs_cells (drop l.run-index l.runs))) items)
    l.body.row l.body.column l.body.live
