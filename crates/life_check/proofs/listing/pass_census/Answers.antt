use Rattle.life_check.proofs.listing.pass_census.Goals as goal

pub returns-clause-wrong : goal.returns-clause-wrong
returns-clause-wrong g c = λ deposits before. c.add.ensures.wrong deposits before tt

pub returns-in_err-add-clause-wrong : goal.returns-in_err-add-clause-wrong
returns-in_err-add-clause-wrong g c = λ deposits before. c.add.ensures.wrong deposits before tt
