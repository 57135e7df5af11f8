use Rattle.std.proofs.Common.{refl, arith}
use Rattle.life_store.proofs.RecoverableLemmas.{left_honest, left_allowed, left_held, left_same}
use Rattle.life_check.proofs.checked_files.check_opened.Goals as goal

pub returns-clause-check : goal.returns-clause-check
returns-clause-check g c =
    let was = c.args.archive.store in
    let last = c.check_and_list-checked.result.2 in
    let files = c.close.result in
    let end = c.check_and_list-checked.ensures in
    record {
      honest = left_honest was was last files c.close.ensures refl end.calm.clean;
      finds = λ clean. end.sound (left_honest last last last files c.close.ensures refl (omega arith) clean);
      lists = λ clean. end.wrong (left_honest last last last files c.close.ensures refl (omega arith) clean);
      held = λ k healthy holds clean.
          left_held was last files k g.met.D.Disk.seen_may_stay
          (end.was_open healthy) (end.crash healthy k holds)
          (left_allowed was last files c.close.ensures end.numbered end.databases end.calm.outcomes) clean;
      stays = λ healthy.
          left_same was last files g.met.D.Disk.seen_may_stay (end.was_open healthy)
          (left_allowed was last files c.close.ensures end.numbered end.databases end.calm.outcomes);
    }
