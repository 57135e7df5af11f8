use Rattle.archive_tests.proofs.TestSessionLemmas.{sent_whole, sent_first}
use Rattle.archive_tests.proofs.sessions.serve_sent.Goals as goal

pub returns-in-Ok : goal.returns-in-Ok
returns-in-Ok g c = λ later. sent_whole g.S.Store _ _ _ later _ _ c.new.ensures.to_come _ c.in-Ok.ensures.whole

pub returns-in-Err : goal.returns-in-Err
returns-in-Err g c =
    λ later. rw (c.one_more.ensures)
    (sent_first g.S.Store _ _ _ later _ _ c.new.ensures.to_come _ c.in-Err.ensures.steps)
