use Rattle.std.proofs.Common.{◌≡◌, rules, true}
use Rattle.life_store.proofs.LastingLemmas.{goes_last, goes_more}
use Rattle.life_desk.proofs.Crashes.{room_for}
use Rattle.life_desk.proofs.DepositsOnce.{deposits}
use Rattle.life_desk.proofs.desk.keep_new.Goals as goal

pub returns-in_err-has_room-clause-transition : goal.returns-in_err-has_room-clause-transition
returns-in_err-has_room-clause-transition g c = goes_more _ _ c.has_room.ensures.transition

pub returns-then-not-branch-clause-transition : goal.returns-then-not-branch-clause-transition
returns-then-not-branch-clause-transition g c = goes_more _ _ c.has_room.ensures.transition

pub returns-in_err-add_deposit-clause-transition : goal.returns-in_err-add_deposit-clause-transition
returns-in_err-add_deposit-clause-transition g c =
    let looked = c.has_room.ensures in
    let room = c.in_ok-has_room.field-0 in
    let is : room ≡ true = search rules in
    goes_last _ _ _ (λ clean db. room_for c.args.archive.now c.has_room.new.archive looked.transition.was_healthy
    looked.same db deposits (λ A. Unit {0}) c.args.deposit.now room c.in_ok-has_room.ensures.value is)
    looked.transition c.add_deposit.ensures.transition

pub returns-clause-transition : goal.returns-clause-transition
returns-clause-transition g c =
    let looked = c.has_room.ensures in
    let room = c.in_ok-has_room.field-0 in
    let is : room ≡ true = search rules in
    goes_last _ _ _ (λ clean db. room_for c.args.archive.now c.has_room.new.archive looked.transition.was_healthy
    looked.same db deposits (λ A. Unit {0}) c.args.deposit.now room c.in_ok-has_room.ensures.value is)
    looked.transition c.add_deposit.ensures.transition
