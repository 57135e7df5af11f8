use Rattle.life_cli.proofs.ServingLemmas.{deposit_answers}
use Rattle.life_cli.proofs.archives.ArchiveFileArchiveJobs.deposit.Goals as goal

pub returns : goal.returns
returns g c =
    deposit_answers _ g.I.Inlet g.O.Outlet _ _ _ _ _ _ _ _ _ _ c.deposit_path-done.ensures.deposits
    c.deposit_path-done.ensures.takes c.deposit_path-done.ensures.once
    (λ line. line.now) c.or_line.result c.or_line.ensures
