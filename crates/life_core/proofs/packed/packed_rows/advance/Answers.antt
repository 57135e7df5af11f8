use Rattle.std.proofs.Common.{◌*◌, sym, ◌∙◌, arith}
use Rattle.life_core.proofs.BlockSteps.{stepped_rows, stepped_settled}
use Rattle.life_core.proofs.packed.packed_rows.advance.Goals as goal

pub rule_blocks-requires-clause-columns : goal.rule_blocks-requires-clause-columns
rule_blocks-requires-clause-columns c = omega (arith, c.requires.frame.wide, c.requires.whole.wide)

pub rule_blocks-requires-clause-lines : goal.rule_blocks-requires-clause-lines
rule_blocks-requires-clause-lines c = c.requires.whole.many

pub rule_blocks-requires-clause-rows : goal.rule_blocks-requires-clause-rows
rule_blocks-requires-clause-rows c =
    let whole = c.requires.whole in
    let size = sym c.requires.rows ∙ (λ t. whole.tall t * whole.wide t) in
    omega (arith, size)

pub rule_blocks-requires-clause-out : goal.rule_blocks-requires-clause-out
rule_blocks-requires-clause-out c = c.requires.out

pub rule_blocks-requires-clause-marks : goal.rule_blocks-requires-clause-marks
rule_blocks-requires-clause-marks c = omega (arith, c.set_unless.ensures.kept.long, c.requires.marks.count)

pub rule_blocks-requires-clause-next_marks : goal.rule_blocks-requires-clause-next_marks
rule_blocks-requires-clause-next_marks c = c.requires.next_marks.count

pub returns-clause-rows : goal.returns-clause-rows
returns-clause-rows c =
    let e = c.rule_blocks.ensures in
    stepped_rows c.args.frame c.args.rule.now c.args.rows.now c.args.out.now c.rule_blocks.new.out c.args.follows
    c.args.marks.now c.set_unless.new.marks c.rule_blocks.new.next_marks c.set_unless-2.new.marks
    c.requires.frame c.requires.whole c.flags-flags.ensures.kept.quiet
    c.requires.rows (c.requires.rows ∙ sym c.requires.out) (omega (arith, c.requires.rows, c.requires.out))
    c.requires.room c.requires.out_room c.requires.marks
    (record { count = omega (arith, c.requires.next_marks.count) })
    (record { kept = c.set_unless.ensures.kept; set = c.set_unless.ensures.set })
    (record { kept = c.set_unless-2.ensures.kept; set = c.set_unless-2.ensures.set })
    c.requires.settled c.requires.follows e.guards e.blocks

pub returns-clause-settled : goal.returns-clause-settled
returns-clause-settled c =
    let e = c.rule_blocks.ensures in
    stepped_settled c.args.frame c.args.rule.now c.args.rows.now c.args.out.now c.rule_blocks.new.out c.args.follows
    c.args.marks.now c.set_unless.new.marks c.rule_blocks.new.next_marks c.set_unless-2.new.marks
    c.requires.frame c.requires.whole c.flags-flags.ensures.kept.quiet
    c.requires.rows (c.requires.rows ∙ sym c.requires.out) (omega (arith, c.requires.rows, c.requires.out))
    c.requires.room c.requires.out_room c.requires.marks
    (record { count = omega (arith, c.requires.next_marks.count) })
    (record { kept = c.set_unless.ensures.kept; set = c.set_unless.ensures.set })
    (record { kept = c.set_unless-2.ensures.kept; set = c.set_unless-2.ensures.set })
    c.requires.settled c.requires.follows e.guards e.blocks
