use Rattle.life_check.proofs.listing.add_rows_left.Goals as goal

pub returns-clause-wrong : goal.returns-clause-wrong
returns-clause-wrong g c = λ trees before. c.add.ensures.wrong trees before tt
