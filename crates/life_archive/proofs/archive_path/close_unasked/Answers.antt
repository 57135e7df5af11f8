use Rattle.std.proofs.Common.{refl}
use Rattle.life_archive.proofs.PathLemmas.{unasked_leaves}
use Rattle.life_archive.proofs.archive_path.close_unasked.Goals as goal

pub returns-in-Ok : goal.returns-in-Ok
returns-in-Ok g c = record {
  leaves =
      λ image capacity opens A fits begins.
      unasked_leaves c.args.archive c.args.archive c.law_of_migrated_archives.ensures c.in-Ok.files
      c.in-Ok.ensures.healthy c.in-Ok.ensures.left c.in-Ok.ensures.alone refl image capacity opens A fits begins;
  released = tt;
}

pub returns-in-Err : goal.returns-in-Err
returns-in-Err g c = record { leaves = λ image capacity opens A fits begins. tt; released = c.in-Err.ensures.refused }
