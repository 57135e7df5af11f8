use Rattle.std.proofs.Common.{rules}
use Rattle.life_pages.proofs.ServingOutcome.{outcome_told, outcome_some, some_grows}
use Rattle.life_pages.proofs.serving.serve_desk.Goals as goal

pub returns-in-Ok-clause-served : goal.returns-in-Ok-clause-served
returns-in-Ok-clause-served g c =
    let is = c.serve_stream.ensures.outcome in
    record {
      known = outcome_told _ _ _ _ _ _ _ _ _ is;
      some = outcome_some _ _ _ _ _ _ _ _ _ is;
      on_read_failure = λ e. rw e at is;
      on_too_many_reads = λ e. let o = rw e at is in o.0;
      on_write_failure = λ e. rw e at is;
    }

pub returns-in-Ok-clause-streams : goal.returns-in-Ok-clause-streams
returns-in-Ok-clause-streams g c =
    let it = c.serve_stream.ensures in
    record {
      many = λ e. let o = rw e at it.outcome in o.1;
      grows = some_grows _ _ _ _ _ _ (outcome_some _ _ _ _ _ _ _ _ _ it.outcome);
      takes = it.takes;
      most = it.most;
      ended = it.ends;
      on_failed_take = it.on_failed_take;
      puts = it.puts;
      read = search rules;
      write = search rules;
    }

pub returns-in-Ok-clause-memory : goal.returns-in-Ok-clause-memory
returns-in-Ok-clause-memory g c = λ e. let o = rw e at c.serve_stream.ensures.outcome in absurd o
