use Rattle.std.proofs.Common.{◌∙◌, sym}
use Rattle.life_store.proofs.LastingLemmas.{goes_last, goes_more}
use Rattle.life_desk.proofs.Crashes.{deposit_there}
use Rattle.life_desk.proofs.Tokens.{told_first}
use Rattle.life_desk.proofs.desk.keep_census.Goals as goal

pub returns-in_err-deposit_of-clause-transition : goal.returns-in_err-deposit_of-clause-transition
returns-in_err-deposit_of-clause-transition g c = goes_more _ _ c.deposit_of.ensures.looks.transition

pub returns-in-None-clause-transition : goal.returns-in-None-clause-transition
returns-in-None-clause-transition g c = goes_more _ _ c.deposit_of.ensures.looks.transition

pub returns-in-Some-clause-transition : goal.returns-in-Some-clause-transition
returns-in-Some-clause-transition g c =
    let looked = c.deposit_of.ensures.looks in
    goes_last _ _ _ (λ clean db. deposit_there c.args.archive.now c.deposit_of.new.archive looked.transition.was_healthy
    looked.same db c.args.census.now c.in-Some.deposit _ c.in_ok-deposit_of.ensures.looks.value c.in-Some.is)
    looked.transition c.count_new.ensures.transition

pub returns-in-Some-clause-effect : goal.returns-in-Some-clause-effect
returns-in-Some-clause-effect g c = λ A healthy m first.
    let looked = c.in_ok-deposit_of.ensures.looks in
    let before = c.count_new.ensures.transition.was_healthy healthy in
    let there = sym (looked.value A before m) ∙ c.in-Some.is in
    told_first A _ c.args.census.now c.in-Some.deposit _ first there
    (c.count_new.ensures.effect A healthy (looked.same A before m) there)
