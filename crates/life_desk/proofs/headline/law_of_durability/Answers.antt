use Rattle.life_desk.proofs.RequestRuns.{is_durable}
use Rattle.life_desk.proofs.headline.law_of_durability.Goals as goal

pub returns : goal.returns
returns g c = is_durable g.S.Store _ c.law_of_crashes.ensures
