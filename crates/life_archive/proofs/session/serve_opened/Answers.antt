use Rattle.sqlite.specs.Files.{over_files}
use Rattle.life_pages.proofs.ArchiveRuns.{run_answered}
use Rattle.life_pages.proofs.FirmReplies.{firm_run}
use Rattle.life_archive.specs.Session.{messages_of, replies_of}
use Rattle.life_archive.proofs.SessionLemmas.{end_ok, end_err, leaves_either, either_clean}
use Rattle.life_archive.proofs.session.serve_opened.Goals as goal

pub returns-in-Ok-clause-ends : goal.returns-in-Ok-clause-ends
returns-in-Ok-clause-ends g c =
    let a = c.args.archive in
    let (mid, some, counted, same_held) = c.serve_and_count.ensures.run in
    let last = c.serve_and_count.new.archive in
    let ms = messages_of some.exchanges in
    let bytes = replies_of some.exchanges in
    let it = run_answered over_files a mid ms bytes some.run in
    let own_refusals = firm_run over_files a mid ms bytes some.run in
    let files = c.into_files.result in
    let same = c.reopenable.ensures.same in
    let sound = c.into_files.ensures.honest in
    record {
      exchanges = some.exchanges;
      counted = some.counted;
      carried = some.carried;
      own_refusals = own_refusals;
      honest =
          λ clean. it.taken.transition.crash.honest (counted.crash.honest
          (sound (either_clean g.D.Disk files c.reopenable.result same clean)));
      leaves = λ A up m. leaves_either g.D.Disk A ms bytes files c.reopenable.result same
          (end_ok a mid last files ms bytes it counted sound same_held
          c.in-Ok.ensures.healthy c.into_files.ensures.held A m)
          (end_err a mid last files ms bytes it counted sound c.serve_and_count.ensures.law
          c.into_files.ensures.left A up m);
    }

pub returns-in-Err-clause-ends : goal.returns-in-Err-clause-ends
returns-in-Err-clause-ends g c =
    let a = c.args.archive in
    let (mid, some, counted, same_held) = c.serve_and_count.ensures.run in
    let last = c.serve_and_count.new.archive in
    let ms = messages_of some.exchanges in
    let bytes = replies_of some.exchanges in
    let it = run_answered over_files a mid ms bytes some.run in
    let own_refusals = firm_run over_files a mid ms bytes some.run in
    record {
      exchanges = some.exchanges;
      counted = some.counted;
      carried = some.carried;
      own_refusals = own_refusals;
      honest =
          λ clean. it.taken.transition.crash.honest
          (counted.crash.honest (c.into_files-in-Err.ensures.honest clean));
      leaves =
          λ A up m. end_err a mid last c.into_files-in-Err.result ms bytes it counted
          c.into_files-in-Err.ensures.honest c.serve_and_count.ensures.law c.into_files-in-Err.ensures.left A up m;
    }
