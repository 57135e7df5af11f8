use Rattle.std.proofs.Common.{◌≡◌, suc, ◌+◌, ◌-◌, IfSome, Ok, subst, sym, ap, refl, ◌∙◌, arith}
use Rattle.std.specs.List.{All}
use Rattle.life_core.specs.Generations.{generation_of, next}
use Rattle.life_code.specs.ApartState.{IsMoving}
use Rattle.life_core.proofs.GenerationsLaws.{within_more}
use Rattle.life_code.proofs.PeriodSteps.{here_room, room_at}
use Rattle.life_code.proofs.SettledLemmas.{rest_is, given_generation}
use Rattle.life_code.proofs.settled.settled_generation_by.Goals as goal
use Rattle.life_code.proofs.settled.settled_generation_by.Goals.{then-is_look+in_ok-later-3+in_default-3, else-is_look}

pub first_look-requires-clause-room : goal.first_look-requires-clause-room
first_look-requires-clause-room g c = within_more 400000000 500000000 c.args.pattern.now (omega arith) c.requires.room

pub returns-in-Some : goal.returns-in-Some
returns-in-Some g c =
    let r = c.args.rule.now in
    let later : c.in-Some.later ≡ generation_of r c.args.pattern.now c.args.n =
    subst (λ o. IfSome o (λ X. X ≡ generation_of r c.args.pattern.now c.args.n)) c.in-Some.is
    c.in_ok-later.ensures.later in
    given_generation r c.args.pattern.now c.in-Some.later c.args.n (Ok c.in-Some.later) later refl

pub repeated-requires-clause-room : goal.repeated-requires-clause-room
repeated-requires-clause-room g c = within_more 400000000 500000000 c.args.pattern.now (omega arith) c.requires.room

pub returns-in-Some-2 : goal.returns-in-Some-2
returns-in-Some-2 g c =
    let r = c.args.rule.now in
    let later : c.in-Some-2.later ≡ generation_of r c.args.pattern.now c.args.n =
    subst (λ o. IfSome o (λ X. X ≡ generation_of r c.args.pattern.now c.args.n)) c.in-Some-2.is
    c.in_ok-later-2.ensures in
    given_generation r c.args.pattern.now c.in-Some-2.later c.args.n (Ok c.in-Some-2.later) later refl

pub look-requires-clause-room : goal.look-requires-clause-room
look-requires-clause-room g c =
    here_room c.args.rule.now c.args.pattern.now _ c.requires.room c.loop-i.i
    (omega (arith, c.loop-i-test.true, c.requires.few)) c.loop-i.invariant.now

pub returns-in-Some-3 : goal.returns-in-Some-3
returns-in-Some-3 g c =
    let r = c.args.rule.now in
    let here = g.P.Plane.cells c.loop-i.plane in
    let later : c.in-Some-3.later ≡ generation_of r here (c.args.n - c.loop-i.i) =
    subst (λ o. IfSome o (λ X. X ≡ generation_of r here (c.args.n - c.loop-i.i))) c.in-Some-3.is
    c.in_ok-later-3.ensures.later in
    given_generation r c.args.pattern.now c.in-Some-3.later c.args.n (Ok c.in-Some-3.later)
    (rest_is r c.args.pattern.now here c.in-Some-3.later c.loop-i.i c.args.n c.loop-i-test.true
    c.loop-i.invariant.now later) refl

pub step-requires : goal.step-requires
step-requires g c =
    room_at c.args.rule.now c.args.pattern.now _ c.requires.room c.loop-i.i
    (omega (arith, c.loop-i-test.true, c.requires.few)) c.loop-i.invariant.now

pub returns : goal.returns
returns g c =
    let end : c.loop-i.i ≡ c.args.n = omega (arith, c.loop-i-test.false, c.loop-i.auto.i-end) in
    given_generation c.args.rule.now c.args.pattern.now (g.P.Plane.cells c.loop-i.plane) c.args.n c.to_pattern.result
    (c.loop-i.invariant.now ∙ ap (generation_of c.args.rule.now c.args.pattern.now) end) c.to_pattern.ensures

pub loop-i-preserved : goal.loop-i-preserved
loop-i-preserved g c =
    let known : All (IsMoving c.args.rule.now) c.if-is_look.known.items = elim c.if-is_look.branch [
      | then-is_look+in_ok-later-3+in_default-3 w ↦
          subst (λ k. All (IsMoving c.args.rule.now) k.items) (sym w.known-is) w.look.ensures.known
      | else-is_look w ↦ subst (λ k. All (IsMoving c.args.rule.now) k.items) (sym w.known-is) c.loop-i.invariant.known
    ] in
    let later : suc c.loop-i.i ≡ c.loop-i.i + 1 = omega arith in
    let now = c.in_ok-step.ensures.ok ∙ ap (next c.args.rule.now) c.loop-i.invariant.now in
    record { now = now ∙ ap (generation_of c.args.rule.now c.args.pattern.now) later; known = known }
