use Rattle.life_cli.proofs.ServingLemmas.{check_answers}
use Rattle.life_cli.proofs.archives.ArchiveFileArchiveJobs.check.Goals as goal

pub returns : goal.returns
returns g c =
    check_answers c.args.quick _ g.O.Outlet _ _ _ _ _ _ c.run_check-done.ensures.checks c.run_check-done.ensures.once
    (λ line. line.now) c.or_line_of_check.result c.or_line_of_check.ensures
