use Rattle.life_archive.proofs.SessionLemmas.{sessions_compose, sessions_over_crashes}
use Rattle.life_archive.proofs.session.law_of_sessions.Goals as goal

pub returns-clause-composed : goal.returns-clause-composed
returns-clause-composed g c = sessions_compose g.D.Disk g.met.D.Disk.seen_may_stay

pub returns-clause-crashed : goal.returns-clause-crashed
returns-clause-crashed g c = sessions_over_crashes g.D.Disk g.E.Disk
