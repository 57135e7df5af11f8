use Rattle.sqlite_wal.specs.Files.{image_at}
use Rattle.sqlite.specs.Files.{file_state}
use Rattle.life_store.proofs.KeepLemmas.{healthy_is, healthy_from}
use Rattle.life_store.proofs.FoundLemmas.{shows_found}
use Rattle.life_store.proofs.SchemaLemmas.{finds_held}
use Rattle.life_store.proofs.unprepared.Archive+FileStore+FileFrom+T.open_unprepared.Goals as goal

pub returns-in-Ok-clause-found : goal.returns-in-Ok-clause-found
returns-in-Ok-clause-found g c k healthy files =
    let clean = (healthy_is (file_state c.in-Ok.conn) healthy).0 in
    finds_held (file_state c.in-Ok.conn) (image_at g.T.Start) k (c.in-Ok.ensures.opened clean)
    (c.in-Ok.ensures.found clean).holds files

pub returns-in-Ok-clause-shows : goal.returns-in-Ok-clause-shows
returns-in-Ok-clause-shows g c healthy =
    let clean = (healthy_is (file_state c.in-Ok.conn) healthy).0 in
    shows_found c.in-Ok.conn c.args.capacity (image_at g.T.Start) (c.in-Ok.ensures.opened clean)
    (c.in-Ok.ensures.found clean).reads

pub returns-in-Ok-clause-healthy : goal.returns-in-Ok-clause-healthy
returns-in-Ok-clause-healthy g c clean =
    healthy_from (file_state c.in-Ok.conn) clean (c.in-Ok.ensures.opened clean).0.is_open
