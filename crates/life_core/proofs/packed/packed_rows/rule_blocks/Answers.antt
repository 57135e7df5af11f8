use Rattle.life_core.proofs.packed.packed_rows.rule_blocks.Goals as goal

pub returns-then-is_life-clause-blocks : goal.returns-then-is_life-clause-blocks
returns-then-is_life-clause-blocks c line column =
    c.advance_blocks.ensures.blocks c.args.rule.now line column (c.is_life.ensures.0 c.if-is_life.true)

pub returns-clause-blocks : goal.returns-clause-blocks
returns-clause-blocks c line column = c.advance_blocks-2.ensures.blocks c.args.rule.now line column c.of-form.ensures
