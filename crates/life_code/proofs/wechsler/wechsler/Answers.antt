use Rattle.std.proofs.Common.{◌≡◌, map, ◌∙◌, arith}
use Rattle.std.specs.List.{range_with_len}
use Rattle.life_code.specs.Wechsler.{column_value}
use Rattle.life_code.proofs.CellMarksLemmas.{shown_columns}
use Rattle.life_code.proofs.WechslerSteps.{write_first, write_next, columns_fit, columns_few, all_strips}
use Rattle.life_code.proofs.wechsler.wechsler.Goals as goal
use Rattle.life_code.proofs.wechsler.wechsler.Goals.{then-strip-gt0+in_ok-push, else-strip-gt0}

pub push_strip-requires-clause-small : goal.push_strip-requires-clause-small
push_strip-requires-clause-small g c =
    columns_fit c.args.pattern.now c.loop-strip.strip c.args.columns c.deref.result.now (c.deref.ensures.value
    ∙ c.in_ok-column_values.ensures ∙ shown_columns c.marked-flags.result c.args.pattern.now c.loop-strip.strip
    c.args.columns c.marked-flags.ensures (omega (arith, c.requires.low, c.loop-strip-test.true)) c.requires.narrow)

pub push_strip-requires-clause-narrow : goal.push_strip-requires-clause-narrow
push_strip-requires-clause-narrow g c =
    columns_few c.args.pattern.now c.loop-strip.strip c.args.columns c.deref.result.now
    (c.deref.ensures.value ∙ c.in_ok-column_values.ensures
    ∙ shown_columns c.marked-flags.result c.args.pattern.now c.loop-strip.strip c.args.columns c.marked-flags.ensures
    (omega (arith, c.requires.low, c.loop-strip-test.true)) c.requires.narrow) c.requires.narrow

pub loop-strip-preserved : goal.loop-strip-preserved
loop-strip-preserved g c =
    let columns : c.deref.result.now ≡ map (column_value c.args.pattern.now c.loop-strip.strip)
    (range_with_len 0 c.args.columns) = c.deref.ensures.value ∙ c.in_ok-column_values.ensures
    ∙ shown_columns c.marked-flags.result c.args.pattern.now c.loop-strip.strip c.args.columns c.marked-flags.ensures
    (omega (arith, c.requires.low, c.loop-strip-test.true)) c.requires.narrow in
    elim c.if-strip-gt0.branch [
      | then-strip-gt0+in_ok-push b ↦
          write_next c.args.pattern.now c.loop-strip.strip c.args.columns c.deref.result.now
          c.loop-strip.text.items b.push.new.self.items c.push_strip.new.text.items c.requires.columns
          columns b.if-strip-gt0.true c.loop-strip.invariant
          b.in_ok-push.ensures.items (rw b.text-is at c.in_ok-push_strip.ensures)
      | else-strip-gt0 b ↦
          write_first c.args.pattern.now c.loop-strip.strip c.args.columns c.deref.result.now c.loop-strip.text.items
          c.push_strip.new.text.items c.requires.columns columns (omega arith) c.loop-strip.invariant
          (rw b.text-is at c.in_ok-push_strip.ensures)
    ]

pub returns : goal.returns
returns g c =
    all_strips c.args.pattern.now c.loop-strip.text.items c.loop-strip.strip c.args.rows c.requires.rows
    (omega arith) c.loop-strip.invariant
