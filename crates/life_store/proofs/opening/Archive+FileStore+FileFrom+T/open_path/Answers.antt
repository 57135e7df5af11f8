use Rattle.sqlite_wal.specs.Files.{image_at}
use Rattle.sqlite.specs.Files.{file_state}
use Rattle.life_store.proofs.SchemaLemmas.{finds_held, finds_first, finds_versions, finds_none, refused_as}
use Rattle.life_store.proofs.opening.Archive+FileStore+FileFrom+T.open_path.Goals as goal

pub returns-in-Ok-archive_over-clause-found : goal.returns-in-Ok-archive_over-clause-found
returns-in-Ok-archive_over-clause-found g c k healthy files =
    let clean = c.in-Ok-archive_over.ensures.clean healthy in
    c.in-Ok-archive_over.ensures.found k healthy (finds_held (file_state c.in-Ok.conn) (image_at g.T.Start) k
    (c.in-Ok.ensures.opened clean) (c.in-Ok.ensures.found clean).holds files)

pub returns-in-Ok-archive_over-clause-migrated : goal.returns-in-Ok-archive_over-clause-migrated
returns-in-Ok-archive_over-clause-migrated g c k healthy files =
    let clean = c.in-Ok-archive_over.ensures.clean healthy in
    c.in-Ok-archive_over.ensures.carries k healthy (finds_first (file_state c.in-Ok.conn) (image_at g.T.Start) k
    (c.in-Ok.ensures.opened clean) (c.in-Ok.ensures.found clean).holds files)

pub returns-in-Ok-archive_over-clause-fresh : goal.returns-in-Ok-archive_over-clause-fresh
returns-in-Ok-archive_over-clause-fresh g c healthy none =
    let clean = c.in-Ok-archive_over.ensures.clean healthy in
    let conn = file_state c.in-Ok.conn in
    c.in-Ok-archive_over.ensures.fresh healthy (record {
      is =
          finds_none conn (c.in-Ok.ensures.opened clean)
          (none conn.committed.trees (c.in-Ok.ensures.found clean).reads);
      none = tt;
    })

pub returns-in-Ok-archive_over-clause-known : goal.returns-in-Ok-archive_over-clause-known
returns-in-Ok-archive_over-clause-known g c schema own versions known healthy files =
    let clean = c.in-Ok-archive_over.ensures.clean healthy in
    c.in-Ok-archive_over.ensures.known schema own versions known healthy
    (finds_versions (file_state c.in-Ok.conn) (image_at g.T.Start) schema own versions known
    (c.in-Ok.ensures.opened clean) (c.in-Ok.ensures.found clean).holds files)

pub returns-in-Err-clause-ours : goal.returns-in-Err-clause-ours
returns-in-Err-clause-ours g c is clean =
    refused_as (file_state c.in-Ok.conn) (image_at g.T.Start) c.in-Ok.ensures.opened
    (λ now. (c.in-Ok.ensures.found now).holds) (λ now. (c.in-Ok.ensures.found now).reads)
    c.in-Err.fault is c.in-Err.ensures.ours c.in-Err.ensures.none clean
