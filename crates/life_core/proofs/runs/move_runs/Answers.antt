use Rattle.std.proofs.Common.{◌<◌, ◌∙◌, ap, get_or, length, pos, set, arith}
use Rattle.std.proofs.lemmas.List.{get_or_default}
use Rattle.std.proofs.lemmas.List.Edits.{map_over_more}
use Rattle.life_core.specs.declared.runs.Run.{Run}
use Rattle.life_core.specs.Runs.{moved_run}
use Rattle.life_core.proofs.runs.move_runs.Goals as goal

pub loop-run-preserved : goal.loop-run-preserved
loop-run-preserved c =
    let i = c.loop-run.run-index in
    let runs = c.loop-run.runs in
    let f = moved_run c.args.by.column c.args.by.row in
    let none : Run = record { row = pos 0; first = pos 0; len = 0 } in
    let here : i < length runs = omega (arith, c.loop-run-test.true, c.loop-run.auto.runs) in
    ap (λ d. set runs i d) (c.moved.ensures ∙ ap f (get_or_default runs i _ none here))
    ∙ map_over_more f c.args.runs.now runs i (get_or runs i none) c.loop-run-test.true c.loop-run.invariant
    (get_or_default runs i none _ here)
