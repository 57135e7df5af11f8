use Rattle.life_check.proofs.WalkLemmas.{placed_at_start}
use Rattle.life_check.proofs.walk.begin.Goals as goal

pub returns-in-Ok-clause-placed : goal.returns-in-Ok-clause-placed
returns-in-Ok-clause-placed g c clean =
    placed_at_start (g.S.Store.view c.args.store.now)
    (g.S.Store.view c.seek-2.new.self) c.args.cursor c.args.table _ _ c.new.ensures (c.in-Ok.ensures.ok clean)
