use Rattle.std.proofs.Common.{sym, subst}
use Rattle.life_check.specs.Listed.{AreWrongThere}
use Rattle.life_check.proofs.listing.further_errors.Goals as goal

pub returns-clause-wrong : goal.returns-clause-wrong
returns-clause-wrong g c =
    λ deposits clean same. c.add_further-complete.ensures.wrong deposits clean same
    (subst (AreWrongThere deposits) (sym c.new-errors.ensures.items) tt)
