use Rattle.std.proofs.Common.{arith, sym, ◌∙◌}
use Rattle.life_pages.proofs.MessageStanding.{long_blank_never}
use Rattle.life_pages.proofs.serving.is_long_blank.Goals as goal

pub returns-then-held-ge-HEAD_LIMIT-clause-never : goal.returns-then-held-ge-HEAD_LIMIT-clause-never
returns-then-held-ge-HEAD_LIMIT-clause-never c =
    λ e. long_blank_never c.args.held.now (sym c.are_blank.ensures ∙ e) (omega (arith, c.if-held-ge-HEAD_LIMIT.true))
