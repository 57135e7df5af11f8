use Rattle.std.proofs.Common.{◌≡◌, rules, true, Some}
use Rattle.life_store.specs.Kept.{numbered}
use Rattle.life_store.proofs.LastingLemmas.{goes_last, goes_more}
use Rattle.life_desk.proofs.Crashes.{room_for}
use Rattle.life_desk.proofs.CensusesOnce.{censuses}
use Rattle.life_desk.proofs.desk.count_new.Goals as goal

pub returns-in_err-has_census_room-clause-transition : goal.returns-in_err-has_census_room-clause-transition
returns-in_err-has_census_room-clause-transition g c = goes_more _ _ c.has_census_room.ensures.transition

pub returns-then-not-branch-clause-transition : goal.returns-then-not-branch-clause-transition
returns-then-not-branch-clause-transition g c = goes_more _ _ c.has_census_room.ensures.transition

pub returns-clause-transition : goal.returns-clause-transition
returns-clause-transition g c =
    let looked = c.has_census_room.ensures in
    let room = c.in_ok-has_census_room.field-0 in
    let is : room ≡ true = search rules in
    let census = c.args.census.now in
    goes_last _ _ _
    (λ clean db. room_for c.args.archive.now c.has_census_room.new.archive looked.transition.was_healthy
    looked.same db censuses (λ A. numbered A.deposits census.deposit ≡ Some c.args.deposit.now)
    census room c.in_ok-has_census_room.ensures.value is)
    looked.transition c.add_counted.ensures.transition
