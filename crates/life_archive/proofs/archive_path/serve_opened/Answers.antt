use Rattle.life_archive.proofs.PathLemmas.{closed_leaves}
use Rattle.life_archive.proofs.archive_path.serve_opened.Goals as goal

pub returns-in-Ok : goal.returns-in-Ok
returns-in-Ok g c =
    let last = c.serve_connections.new.archive in
    let served = c.serve_connections.ensures.served in
    record {
      last = last;
      serves = served;
      leaves =
          λ image capacity opens A fits begins.
          closed_leaves c.args.archive last c.law_of_migrated_archives.ensures c.in-Ok.files c.in-Ok.ensures.healthy
          c.in-Ok.ensures.left c.in-Ok.ensures.alone c.args.count _ _ served image capacity opens A fits begins;
      released = tt;
    }

pub returns-in-Err : goal.returns-in-Err
returns-in-Err g c = record {
  last = c.serve_connections.new.archive;
  serves = c.serve_connections.ensures.served;
  leaves = λ image capacity opens A fits begins. tt;
  released = c.in-Err.ensures.refused;
}
