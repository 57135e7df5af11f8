use Rattle.std.proofs.Common.{◌≡◌, ◌∙◌, true, false, sym, rules}
use Rattle.life_store.proofs.LastingLemmas.{goes_last, goes_more, goes_then}
use Rattle.life_desk.specs.Replies.{is_same_census}
use Rattle.life_desk.proofs.Crashes.{token_first}
use Rattle.life_desk.proofs.Representing.{each_of}
use Rattle.life_desk.proofs.Tokens.{told_repeated, told_reused}
use Rattle.life_desk.proofs.desk.take_census.Goals as goal

pub returns-in_err-find_census-clause-transition : goal.returns-in_err-find_census-clause-transition
returns-in_err-find_census-clause-transition g c = goes_more _ _ c.find_census.ensures.transition

pub returns-in-None-clause-transition : goal.returns-in-None-clause-transition
returns-in-None-clause-transition g c =
    let looked = c.find_census.ensures in
    goes_last _ _ _ (λ clean db. token_first c.args.archive.now c.find_census.new.archive looked.transition.was_healthy
    looked.same db c.args.census.now _ c.in_ok-find_census.ensures.value c.in-None.is) looked.transition
    c.keep_census.ensures.transition

pub returns-in-None-clause-effect : goal.returns-in-None-clause-effect
returns-in-None-clause-effect g c = λ A healthy m.
    let looked = c.in_ok-find_census.ensures in
    let before = c.keep_census.ensures.transition.was_healthy healthy in
    c.keep_census.ensures.effect A healthy (looked.same A before m) (sym c.in-None.is ∙ looked.value A before m)

pub returns-then-is_same_census-clause-transition : goal.returns-then-is_same_census-clause-transition
returns-then-is_same_census-clause-transition g c = goes_more _ _ c.find_census.ensures.transition

pub returns-then-is_same_census-clause-effect : goal.returns-then-is_same_census-clause-effect
returns-then-is_same_census-clause-effect g c = λ A healthy m.
    let looked = c.in_ok-find_census.ensures in
    let same : is_same_census c.in-Some.stored c.args.census.now ≡ true = search rules in
    told_repeated A _ c.args.census.now c.in-Some.id c.in-Some.stored (each_of _ A m)
    (sym c.in-Some.is ∙ looked.value A healthy m) same (looked.same A healthy m)

pub returns-else-is_same_census-clause-transition : goal.returns-else-is_same_census-clause-transition
returns-else-is_same_census-clause-transition g c =
    goes_more _ _ (goes_then _ _ _ c.find_census.ensures.transition c.refuse_reused.ensures.transition)

pub returns-else-is_same_census-clause-effect : goal.returns-else-is_same_census-clause-effect
returns-else-is_same_census-clause-effect g c = λ A healthy m.
    let looked = c.in_ok-find_census.ensures in
    let before = c.refuse_reused.ensures.transition.was_healthy healthy in
    let other : is_same_census c.in-Some.stored c.args.census.now ≡ false = search rules in
    told_reused A _ c.args.census.now _ c.in-Some.id c.in-Some.stored (sym c.in-Some.is ∙ looked.value A before m) other
    (c.refuse_reused.ensures.effect A healthy (looked.same A before m))
