use Rattle.life_archive.proofs.SessionLemmas.{is_session}
use Rattle.life_archive.proofs.session.serve_files.Goals as goal

pub returns-in-Ok-clause-session : goal.returns-in-Ok-clause-session
returns-in-Ok-clause-session g c =
    is_session c.in-Ok.archive c.args.files c.args.capacity c.args.count _ _ c.serve_opened.result
    c.in-Ok.ensures.found c.in-Ok.ensures.fresh c.in-Ok.ensures.migrated c.law_of_migrated_archives.ensures
    c.in-Ok.ensures.capacity.0 c.in-Ok.ensures.healthy c.in-Ok.ensures.honest c.serve_opened.ensures.ends
