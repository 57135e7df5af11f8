use Rattle.life_archive.proofs.SessionLemmas.{serves_connections}
use Rattle.life_archive.proofs.session.serve_connections.Goals as goal

pub returns-clause-served : goal.returns-clause-served
returns-clause-served g c = serves_connections g.S.Store _ _ _ _ _ c.law_of_crashes.ensures c.serve_each.ensures
