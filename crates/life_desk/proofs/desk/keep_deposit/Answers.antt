use Rattle.std.proofs.Common.{◌∙◌, ℕ, List, option_map, sym, ap}
use Rattle.life_store.specs.Kept.{deposit_by}
use Rattle.life_store.proofs.LastingLemmas.{goes_last, goes_more}
use Rattle.life_desk.proofs.Crashes.{token_new}
use Rattle.life_desk.proofs.StoredReplies.{told_again, told_new, no_file}
use Rattle.life_desk.proofs.DepositsOnce.{deposits}
use Rattle.life_desk.proofs.desk.keep_deposit.Goals as goal

pub returns-in-Some-clause-effect : goal.returns-in-Some-clause-effect
returns-in-Some-clause-effect g c = λ A healthy m.
    let d = c.args.deposit.now in
    let asked = c.in_ok-id.ensures in
    told_again A _ d _ c.in-Some.id c.in-Some.file.items _
    (sym (ap (option_map {U = ℕ × List ℕ} (λ p. (p.0, p.1.items))) c.in-Some.is) ∙ asked.value A healthy m)
    (rw c.as_slice.ensures.value at c.kept_again.ensures) (asked.same A healthy m)

pub returns-in-None-clause-effect : goal.returns-in-None-clause-effect
returns-in-None-clause-effect g c = λ A healthy m.
    let d = c.args.deposit.now in
    let asked = c.in_ok-id.ensures in
    let before = c.keep_new.ensures.transition.was_healthy healthy in
    told_new A _ d _ _ (no_file _ (sym (ap (option_map {U = ℕ × List ℕ} (λ p. (p.0, p.1.items))) c.in-None.is)
    ∙ asked.value A before m)) (c.keep_new.ensures.effect A healthy (asked.same A before m))

pub returns-in_err-id-clause-transition : goal.returns-in_err-id-clause-transition
returns-in_err-id-clause-transition g c = goes_more _ _ c.find_file.ensures.transition

pub returns-in-Some-clause-transition : goal.returns-in-Some-clause-transition
returns-in-Some-clause-transition g c = goes_more _ _ c.find_file.ensures.transition

pub returns-in-None-clause-transition : goal.returns-in-None-clause-transition
returns-in-None-clause-transition g c =
    let d = c.args.deposit.now in
    let looked = c.find_file.ensures in
    goes_last _ _ _
    (λ clean db. token_new c.args.archive.now c.find_file.new.archive looked.transition.was_healthy
    looked.same db deposits (λ A. Unit {0}) d (λ A. deposit_by d.member d.token A.deposits)
    (λ A healthy m. no_file _ (sym (ap (option_map {U = ℕ × List ℕ} (λ p. (p.0, p.1.items))) c.in-None.is)
    ∙ c.in_ok-id.ensures.value A healthy m)))
    looked.transition c.keep_new.ensures.transition
