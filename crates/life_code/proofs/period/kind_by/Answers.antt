use Rattle.std.proofs.Common.{rules, IsTrue, ◌≡◌, ◌-◌, ◌+◌, arith, sym, ap, ◌∙◌, SFits, w64, to_z-of_z}
use Rattle.life_core.specs.Generations.{generation_of}
use Rattle.life_code.proofs.PeriodBirths.{birth_at_one_never_returns}
use Rattle.life_code.proofs.PeriodKinds.{given}
use Rattle.life_code.proofs.PeriodSteps.{room_at, here_room, never_from_phase, generation_more, none_more, nothing}
use Rattle.life_code.proofs.PeriodSteps.{something, found_at, none_at, none_after, none_of_nothing}
use Rattle.life_code.proofs.period.kind_by.Goals as goal
use Rattle.life_code.proofs.period.kind_by.Goals.{then-period-mark+in_ok-here+else-population-eq0-2+in_ok-is_past_return+else-branch+in_ok-kept-2}
use Rattle.life_code.proofs.period.kind_by.Goals.{else-period-mark}

pub returns-then-population-eq0 : goal.returns-then-population-eq0
returns-then-population-eq0 g c =
    given _ _ _ _ (nothing c.args.pattern.now _ c.population.ensures c.if-population-eq0.true)

pub returns-then-is_live_next : goal.returns-then-is_live_next
returns-then-is_live_next g c =
    let some = something c.args.pattern.now _ c.population.ensures c.if-population-eq0.false in
    given _ _ _ _ (
      some,
      λ q from below dx dy. birth_at_one_never_returns c.args.rule.now c.args.pattern.now q
          dx dy c.is_live_next.ensures.kept.quiet (sym c.is_live_next.ensures.value ∙ c.if-is_live_next.true) some from,
    )

pub returns-then-grows_for_ever : goal.returns-then-grows_for_ever
returns-then-grows_for_ever g c =
    let some = something c.args.pattern.now _ c.population.ensures c.if-population-eq0.false in
    given _ _ _ _ (some, λ q from below dx dy. c.grows_for_ever.ensures c.if-grows_for_ever.true q from dx dy)

pub step-requires : goal.step-requires
step-requires g c =
    room_at c.args.rule.now c.args.pattern.now _ c.requires.room (c.loop-period.period - 1)
    (omega arith) c.loop-period.invariant.now

pub returns-in-Some : goal.returns-in-Some
returns-in-Some g c =
    let rule = c.args.rule.now in
    let cells = c.args.pattern.now in
    let some = something cells _ c.population.ensures c.if-population-eq0.false in
    let now : g.P.Plane.cells c.step.new.self ≡ generation_of rule cells c.loop-period.period =
    generation_more rule cells (g.P.Plane.cells c.loop-period.plane) (g.P.Plane.cells c.step.new.self)
    c.loop-period.period c.loop-period.auto.period c.loop-period.invariant.now c.in_ok-step.ensures.ok in
    let fits_x : SFits w64 c.in-Some.dx = search rules in
    let fits_y : SFits w64 c.in-Some.dy = search rules in
    given _ _ _ _ (found_at rule cells _ _ c.args.limit c.loop-period.period c.in-Some.dx c.in-Some.dy _ _ _ some
    c.loop-period.auto.period (omega arith) c.loop-period.invariant.none c.in_ok-start.ensures now c.in-Some.ensures.1
    (to_z-of_z fits_x) (to_z-of_z fits_y) c.kind_of_period.ensures)

pub returns-then-is_some : goal.returns-then-is_some
returns-then-is_some g c =
    let rule = c.args.rule.now in
    let cells = c.args.pattern.now in
    let period = c.loop-period.period in
    let some = something cells _ c.population.ensures c.if-population-eq0.false in
    let now : g.P.Plane.cells c.step.new.self ≡ generation_of rule cells c.loop-period.period =
    generation_more rule cells (g.P.Plane.cells c.loop-period.plane) (g.P.Plane.cells c.step.new.self)
    c.loop-period.period c.loop-period.auto.period c.loop-period.invariant.now c.in_ok-step.ensures.ok in
    let none = none_more rule cells c.loop-period.period c.loop-period.invariant.none
    (none_at rule cells _ _ c.loop-period.period some c.in_ok-start.ensures now c.in_default.ensures) in
    given _ _ _ _ (none_after rule cells _ _ c.args.limit c.loop-period.mark period _ some c.loop-period.invariant.mark
    c.loop-period.invariant.kept now c.shift_to-in-loop-period.ensures (sym c.is_some.ensures ∙ c.if-is_some.true) none)

pub returns-then-population-eq0-2 : goal.returns-then-population-eq0-2
returns-then-population-eq0-2 g c =
    let rule = c.args.rule.now in
    let cells = c.args.pattern.now in
    let period = c.loop-period.period in
    let some = something cells _ c.population.ensures c.if-population-eq0.false in
    let now : g.P.Plane.cells c.step.new.self ≡ generation_of rule cells c.loop-period.period =
    generation_more rule cells (g.P.Plane.cells c.loop-period.plane) (g.P.Plane.cells c.step.new.self)
    c.loop-period.period c.loop-period.auto.period c.loop-period.invariant.now c.in_ok-step.ensures.ok in
    let none = none_more rule cells c.loop-period.period c.loop-period.invariant.none
    (none_at rule cells _ _ c.loop-period.period some c.in_ok-start.ensures now c.in_default.ensures) in
    given _ _ _ _ (none_of_nothing rule cells _ c.args.limit period some c.loop-period.auto.period
    (c.in_ok-here.ensures ∙ now) (nothing _ _ c.population-then-period-mark.ensures c.if-population-eq0-2.true) none)

pub is_past_return-requires-clause-room : goal.is_past_return-requires-clause-room
is_past_return-requires-clause-room g c =
    let rule = c.args.rule.now in
    let cells = c.args.pattern.now in
    let now : g.P.Plane.cells c.step.new.self ≡ generation_of rule cells c.loop-period.period =
    generation_more rule cells (g.P.Plane.cells c.loop-period.plane) (g.P.Plane.cells c.step.new.self)
    c.loop-period.period c.loop-period.auto.period c.loop-period.invariant.now c.in_ok-step.ensures.ok in
    here_room rule cells _ c.requires.room c.loop-period.period (omega arith) (c.in_ok-here.ensures ∙ now)

pub returns-then-branch : goal.returns-then-branch
returns-then-branch g c =
    let rule = c.args.rule.now in
    let cells = c.args.pattern.now in
    let period = c.loop-period.period in
    let some = something cells _ c.population.ensures c.if-population-eq0.false in
    let now : g.P.Plane.cells c.step.new.self ≡ generation_of rule cells c.loop-period.period =
    generation_more rule cells (g.P.Plane.cells c.loop-period.plane) (g.P.Plane.cells c.step.new.self)
    c.loop-period.period c.loop-period.auto.period c.loop-period.invariant.now c.in_ok-step.ensures.ok in
    let seen : IsTrue c.in_ok-is_past_return.field-0 = search (c.if-branch.true) in
    given _ _ _ _ (
      some,
      λ q from below dx dy. never_from_phase rule cells _ period (c.in_ok-here.ensures ∙ now)
          (c.in_ok-is_past_return.ensures seen c.is_live_next.ensures.kept) q from dx dy,
    )

pub loop-period-preserved : goal.loop-period-preserved
loop-period-preserved g c =
    let rule = c.args.rule.now in
    let cells = c.args.pattern.now in
    let period = c.loop-period.period in
    let some = something cells _ c.population.ensures c.if-population-eq0.false in
    let now : g.P.Plane.cells c.step.new.self ≡ generation_of rule cells c.loop-period.period =
    generation_more rule cells (g.P.Plane.cells c.loop-period.plane) (g.P.Plane.cells c.step.new.self)
    c.loop-period.period c.loop-period.auto.period c.loop-period.invariant.now c.in_ok-step.ensures.ok in
    let none = none_more rule cells c.loop-period.period c.loop-period.invariant.none
    (none_at rule cells _ _ c.loop-period.period some c.in_ok-start.ensures now c.in_default.ensures) in
    record {
      now = (elim c.if-period-mark.branch [
        | then-period-mark+in_ok-here+else-population-eq0-2+in_ok-is_past_return+else-branch+in_ok-kept-2 w ↦
            ap g.P.Plane.cells w.plane-is ∙ w.trim.ensures ∙ now
        | else-period-mark w ↦ ap g.P.Plane.cells w.plane-is ∙ now
      ]) ∙ ap (generation_of rule cells)
          (let e : c.loop-period.period ≡ c.loop-period.period + 1 - 1 = omega arith in e);
      mark = elim c.if-period-mark.branch [
        | then-period-mark+in_ok-here+else-population-eq0-2+in_ok-is_past_return+else-branch+in_ok-kept-2 w ↦
            omega (arith, w.mark-is)
        | else-period-mark w ↦ omega (arith, w.mark-is, c.loop-period.invariant.mark)
      ];
      kept = elim c.if-period-mark.branch [
        | then-period-mark+in_ok-here+else-population-eq0-2+in_ok-is_past_return+else-branch+in_ok-kept-2 w ↦
            ap g.P.Plane.cells w.kept-is ∙ w.in_ok-kept-2.ensures ∙ w.in_ok-here.ensures ∙ now
            ∙ ap (generation_of rule cells) (sym w.mark-is)
        | else-period-mark w ↦
            ap g.P.Plane.cells w.kept-is ∙ c.loop-period.invariant.kept ∙ ap (generation_of rule cells) (sym w.mark-is)
      ];
      none = none;
    }

pub returns : goal.returns
returns g c = given _ _ _ _ ((
  something c.args.pattern.now _ c.population.ensures c.if-population-eq0.false,
  λ q from below. c.loop-period.invariant.none q from (omega arith),
))
