use Rattle.life_archive.proofs.SessionLemmas.{serves_none, serves_more}
use Rattle.life_archive.proofs.session.serve_each.Goals as goal

pub loop-connection-init : goal.loop-connection-init
loop-connection-init g c = serves_none g.S.Store _ _

pub loop-connection-preserved : goal.loop-connection-preserved
loop-connection-preserved g c = serves_more g.S.Store _ _ _ _ _ _ _ c.loop-connection.invariant c.serve_next.ensures
