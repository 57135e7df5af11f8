use Rattle.archive_tests.proofs.TestSessionLemmas.{next_stream}
use Rattle.archive_tests.proofs.sessions.stream_at.Goals as goal

pub returns-in-Some : goal.returns-in-Some
returns-in-Some c = next_stream _ _ _ _ _ c.get.ensures.lookup c.copied.ensures c.in-Some.is
