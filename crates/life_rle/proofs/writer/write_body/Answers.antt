use Rattle.std.proofs.Common.{◌≡◌, ◌++◌, ◌∷◌, [], List, ap, sym, subst, ◌∙◌, ◌+◌, drop, map, get_or, pos, arith}
use Rattle.std.proofs.lemmas.List.{drop_all, drop_more}
use Rattle.life_core.specs.declared.runs.Run.{Run}
use Rattle.life_core.specs.Runs.{runs_cells}
use Rattle.life_rle.specs.Writer.{laid, coordinates}
use Rattle.life_rle.specs.WriterState.{texts_from, column_of, row_of, AreNextRuns}
use Rattle.life_rle.specs.ItemLinesState.{written, body_written}
use Rattle.life_rle.proofs.RunPairs.{runs_pairs}
use Rattle.life_rle.proofs.WriterRuns.{texts_none}
use Rattle.life_rle.proofs.writer.write_body.Goals as goal

abbrev none : Run
none = record { row = pos 0; first = pos 0; len = 0 }

pub run-requires : goal.run-requires
run-requires g c =
    let body = c.loop-run.body in
    (subst (AreNextRuns body.row body.column body.live)
    (drop_more c.args.runs.now c.loop-run.run-index none c.loop-run-test.true) c.loop-run.invariant.next).0

pub loop-run-preserved : goal.loop-run-preserved
loop-run-preserved g c =
    let runs = c.args.runs.now in
    let i = c.loop-run.run-index in
    let r = get_or runs i none in
    let rest = drop (i + 1) runs in
    let body = c.loop-run.body in
    let new = c.run.new.self in
    let after = c.in_ok-run.ensures in
    let more = drop_more runs i none c.loop-run-test.true in
    let next = (subst (AreNextRuns body.row body.column body.live) more c.loop-run.invariant.next).1 in
    record {
      same = λ items.
          after.text (map coordinates (runs_cells rest)) items
          ∙ ap (λ ps. body_written body ps items)
          (sym (ap (λ (rs : List Run). map coordinates (runs_cells rs)) more ∙ runs_pairs r rest))
          ∙ c.loop-run.invariant.same items;
      next =
          subst (λ n. AreNextRuns n new.column new.live rest) (sym after.row_after)
          (subst (λ n. AreNextRuns (row_of r) n new.live rest) (sym after.column_after)
          (subst (λ n. AreNextRuns (row_of r) (column_of r + r.len) n rest) (sym after.live_after) next));
    }

pub returns : goal.returns
unfolding laid
returns g c =
    let body = c.loop-run.body in
    let rest : drop c.loop-run.run-index c.args.runs.now ≡ [] =
    drop_all c.loop-run.run-index c.args.runs.now (omega arith) in
    c.in_ok-end_line.ensures.out
    ∙ c.in_ok-put_digit.ensures []
    ∙ c.in_ok-item.ensures ((33 ∷ []) ∷ [])
    ∙ ap (λ t. written body.lines (t ++ (33 ∷ []) ∷ []))
    (sym (ap (λ (rs : List Run). texts_from body.live body.row body.column (map coordinates (runs_cells rs))) rest
    ∙ texts_none body.live body.row body.column))
    ∙ c.loop-run.invariant.same ((33 ∷ []) ∷ [])
