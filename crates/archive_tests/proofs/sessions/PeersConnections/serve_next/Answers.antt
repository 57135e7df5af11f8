use Rattle.archive_tests.specs.Sessions.{streams_from}
use Rattle.archive_tests.proofs.TestSessionLemmas.{none_sent}
use Rattle.archive_tests.proofs.sessions.PeersConnections.serve_next.Goals as goal

pub returns-in_default : goal.returns-in_default
returns-in_default g c = rw (c.one_more-failures.ensures) (none_sent g.S.Store _ _ _)

pub returns : goal.returns
returns g c =
    rw (c.in-Some.ensures) (c.serve_sent-failures.ensures (streams_from c.in-Some.found.1 c.args.self.now.sent.now))
