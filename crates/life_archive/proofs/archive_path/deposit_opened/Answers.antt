use Rattle.life_archive.proofs.PathLemmas.{deposit_leaves, ends_deposit}
use Rattle.life_archive.proofs.archive_path.deposit_opened.Goals as goal

pub returns-in-Ok-clause-ends : goal.returns-in-Ok-clause-ends
returns-in-Ok-clause-ends g c =
    let last = c.run_deposit-done.new.archive in
    ends_deposit g.D.Disk c.args.archive last _ _ _ _ _ _ _ c.run_deposit-done.ensures.law
    c.run_deposit-done.ensures.crash
    (λ deposits image capacity opens A fits begins.
    deposit_leaves c.args.archive last c.law_of_migrated_archives.ensures c.in-Ok.files c.in-Ok.ensures.healthy
    c.in-Ok.ensures.left c.in-Ok.ensures.alone _ _ _ _ _ _ deposits image capacity opens A fits begins)
    tt

pub returns-in-Err-clause-ends : goal.returns-in-Err-clause-ends
returns-in-Err-clause-ends g c =
    ends_deposit g.D.Disk c.args.archive c.run_deposit-done.new.archive _ _ _ _ _ _ _ c.run_deposit-done.ensures.law
    c.run_deposit-done.ensures.crash (λ deposits image capacity opens A fits begins. tt) c.in-Err.ensures.refused
