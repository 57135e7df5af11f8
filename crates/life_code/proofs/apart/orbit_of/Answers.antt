use Rattle.std.proofs.Common.{rules, refl, ◌≡◌, ◌-◌, ◌+◌, arith, ap, subst, ◌∙◌, SFits, w64, to_z-of_z}
use Rattle.std.specs.Prelude.{true}
use Rattle.std.specs.FinSet as set
use Rattle.life_core.specs.Generations.{generation_of}
use Rattle.life_core.specs.Pattern.{in_order}
use Rattle.life_code.proofs.ApartOrbits.{orbit_room, has_all, has_more, orbit_found}
use Rattle.life_code.proofs.PeriodSteps.{generation_more}
use Rattle.life_code.proofs.apart.orbit_of.Goals as goal

pub loop-period-init : goal.loop-period-init
loop-period-init g c = record {
  now = c.in_ok-plane.ensures;
  inside =
      λ i d first has. has_all c.args.part.now _ _
      (c.runs-runs.ensures.cells ∙ c.cells.ensures.cells) c.with_runs-frame.ensures.inside d
      (subst (λ k. set.contains (generation_of c.args.rule.now c.args.part.now k) d ≡ true)
      (let e : i ≡ 0 = omega arith in e) has);
}

pub step-requires : goal.step-requires
step-requires g c =
    orbit_room c.args.rule.now c.args.part.now _ c.requires.room (c.loop-period.period - 1)
    (omega arith) c.loop-period.invariant.now

pub returns-in-Some-shift_to : goal.returns-in-Some-shift_to
returns-in-Some-shift_to g c =
    let rule = c.args.rule.now in
    let cells = c.args.part.now in
    let now : g.P.Plane.cells c.step.new.self ≡ generation_of rule cells c.loop-period.period =
    generation_more rule cells (g.P.Plane.cells c.loop-period.plane) (g.P.Plane.cells c.step.new.self)
    c.loop-period.period c.loop-period.auto.period c.loop-period.invariant.now c.in_ok-step.ensures.ok in
    let fits_x : SFits w64 c.in-Some-shift_to.dx = search rules in
    let fits_y : SFits w64 c.in-Some-shift_to.dy = search rules in
    orbit_found rule cells _ _ c.loop-period.period c.in-Some-shift_to.dx c.in-Some-shift_to.dy _ _ c.loop-period.frame
    (to_z-of_z fits_x) (to_z-of_z fits_y) refl (c.in_ok-phase.ensures ∙ now) c.in-Some-shift_to.ensures.0
    c.in-Some-shift_to.ensures.1 c.loop-period.auto.period c.loop-period.invariant.inside

pub loop-period-preserved : goal.loop-period-preserved
loop-period-preserved g c =
    let rule = c.args.rule.now in
    let cells = c.args.part.now in
    let now : g.P.Plane.cells c.step.new.self ≡ generation_of rule cells c.loop-period.period =
    generation_more rule cells (g.P.Plane.cells c.loop-period.plane) (g.P.Plane.cells c.step.new.self)
    c.loop-period.period c.loop-period.auto.period c.loop-period.invariant.now c.in_ok-step.ensures.ok in
    record {
      now =
          now ∙ ap (generation_of rule cells)
          (let e : c.loop-period.period ≡ c.loop-period.period + 1 - 1 = omega arith in e);
      inside =
          has_more rule cells c.loop-period.frame _ c.loop-period.period c.loop-period.invariant.inside
          c.with_runs-frame-in-loop-period.ensures.wider
          (has_all _ _ _ (c.runs.ensures.cells ∙ c.cells-in-loop-period.ensures.cells
          ∙ ap in_order (c.in_ok-phase.ensures ∙ now)) c.with_runs-frame-in-loop-period.ensures.inside);
    }
