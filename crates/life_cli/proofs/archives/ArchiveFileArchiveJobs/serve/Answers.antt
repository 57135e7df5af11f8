use Rattle.life_cli.proofs.ServingLemmas.{serving_answers}
use Rattle.life_cli.proofs.archives.ArchiveFileArchiveJobs.serve.Goals as goal

pub returns : goal.returns
returns g c =
    serving_answers _ _ _ c.args.connections c.serve_path-done.new.connections.failures _ c.new-peers.ensures
    (λ line. line.now) c.serve_path-done.result.0 c.serve_path-done.result.1 c.or_line.result
    c.serve_path-done.ensures.session c.serve_path-done.ensures.refused c.or_line.ensures
