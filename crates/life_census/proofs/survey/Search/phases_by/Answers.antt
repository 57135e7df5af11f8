use Rattle.std.proofs.Common.{◌≡◌, suc, ◌+◌, ap, ◌∙◌, arith}
use Rattle.life_core.specs.Generations.{next, generation_of}
use Rattle.life_code.proofs.PeriodSteps.{room_at}
use Rattle.life_census.proofs.SurveyLaws.{no_phases, more_phases}
use Rattle.life_census.proofs.survey.Search.phases_by.Goals as goal

pub loop-i-init : goal.loop-i-init
loop-i-init g c = record {
  phase = c.in_ok-plane.ensures;
  cells = no_phases c.args.self.now.rule c.args.cluster.now _ c.new-cells.ensures.items;
}

pub step-requires : goal.step-requires
step-requires g c =
    room_at c.args.self.now.rule c.args.cluster.now _ c.requires.room c.loop-i._i
    (omega (arith, c.loop-i-test.true, c.requires.few)) c.loop-i.invariant.phase

pub loop-i-preserved : goal.loop-i-preserved
loop-i-preserved g c =
    let more : suc c.loop-i._i ≡ c.loop-i._i + 1 = omega arith in
    record {
      phase =
          c.in_ok-step.ensures.ok ∙ ap (next c.args.self.now.rule) c.loop-i.invariant.phase
          ∙ ap (generation_of c.args.self.now.rule c.args.cluster.now) more;
      cells =
          more_phases c.args.self.now.rule c.args.cluster.now c.in_ok-to_pattern.field-0 c.loop-i._i _ _ _
          (c.in_ok-to_pattern.ensures ∙ c.loop-i.invariant.phase) c.in_ok-list_runs.ensures.cells
          (c.runs.ensures.cells ∙ c.cells-in-loop-i.ensures.cells) c.loop-i.invariant.cells;
    }
