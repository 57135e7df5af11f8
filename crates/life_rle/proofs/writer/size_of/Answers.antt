use Rattle.std.proofs.Common.{rules, ◌≡◌, ◌+◌, max, get_or, pos, sym, ap, ◌∙◌}
use Rattle.life_core.specs.declared.runs.Run.{Run}
use Rattle.life_rle.specs.WriterState.{column_of, row_of}
use Rattle.life_rle.proofs.RunPairs.{width_more, height_more}
use Rattle.life_rle.proofs.writer.size_of.Goals as goal

pub loop-run-preserved : goal.loop-run-preserved
loop-run-preserved c =
    let runs = c.args.runs.now in
    let i = c.loop-run.run-index in
    let none : Run = record { row = pos 0; first = pos 0; len = 0 } in
    let r = get_or runs i none in
    let width : c.max-width.result ≡ max c.loop-run.width (column_of r + r.len) = search rules in
    let height : c.max-height.result ≡ max c.loop-run.height (row_of r + 1) = search rules in (
      width ∙ ap (λ n. max n (column_of r + r.len)) c.loop-run.invariant.0
          ∙ sym (width_more runs i none c.loop-run-test.true (c.requires i none c.loop-run-test.true)),
      height ∙ ap (λ n. max n (row_of r + 1)) c.loop-run.invariant.1
          ∙ sym (height_more runs i none c.loop-run-test.true (c.requires i none c.loop-run-test.true)),
    )
