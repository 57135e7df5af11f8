use Rattle.std.proofs.Common.{ap, inl, inr, arith}
use Rattle.life_census.specs.Steady.{is_staying}
use Rattle.life_census.proofs.SteadyPhases.{still_stays, oscillator_stays, others_go}
use Rattle.life_census.proofs.survey.Search.listed_phases.Goals as goal

pub phases-requires-in-Oscillator-clause-few : goal.phases-requires-in-Oscillator-clause-few
phases-requires-in-Oscillator-clause-few g c =
    let stays = oscillator_stays c.args.self.now.rule c.args.self.now.limit c.in-Oscillator.period
    c.args.cluster.now _ c.in-Oscillator.is c.requires.kind in
    omega (arith, stays.few, c.requires.few)

pub returns-in_ok-phases-in-Still : goal.returns-in_ok-phases-in-Still
returns-in_ok-phases-in-Still g c listed = (
  1,
  still_stays c.args.self.now.rule c.args.self.now.limit c.args.cluster.now _ c.in-Still.is c.requires.kind,
  c.in_ok-phases-in-Still.ensures,
)

pub returns-in_ok-phases-in-Oscillator : goal.returns-in_ok-phases-in-Oscillator
returns-in_ok-phases-in-Oscillator g c listed = (
  c.in-Oscillator.period,
  oscillator_stays c.args.self.now.rule c.args.self.now.limit c.in-Oscillator.period c.args.cluster.now
      _ c.in-Oscillator.is c.requires.kind,
  c.in_ok-phases-in-Oscillator.ensures,
)

pub returns-in-Empty : goal.returns-in-Empty
returns-in-Empty g c listed =
    others_go c.args.self.now.rule c.args.self.now.limit c.args.cluster.now _ c.requires.kind (elim c.in-Empty.is [
      | inl empty ↦ ap is_staying empty
      | inr more ↦ elim more [ inl ship ↦ ap is_staying ship.3 | inr unresolved ↦ ap is_staying unresolved ]
    ])
