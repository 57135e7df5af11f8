use Rattle.std.proofs.Common.{inl, inr, refl}
use Rattle.life_archive.proofs.PathLemmas.{is_path_session, unopened, unlistened}
use Rattle.life_archive.proofs.archive_path.serve_path.Goals as goal

pub returns-in-Ok-listen-clause-session : goal.returns-in-Ok-listen-clause-session
returns-in-Ok-listen-clause-session g c =
    let it = c.in-Ok.ensures in (
      c.serve_opened-closed.result,
      refl,
      is_path_session c.in-Ok.archive _ c.args.capacity c.args.count _ _ _ c.serve_opened-closed.result
          c.listen.ensures.traffic
          (record {
            capacity = it.capacity.0;
            healthy = it.healthy;
            found = it.found;
            migrated = it.migrated;
            fresh = it.fresh;
          }) c.serve_opened-closed.ensures,
    )

pub returns-in-Err-listen-clause-refused : goal.returns-in-Err-listen-clause-refused
returns-in-Err-listen-clause-refused g c =
    let it = c.in-Ok.ensures in
    inr (
      c.in-Err-listen.ensures.refused,
      (
        c.close_unasked-closed.result,
        refl,
        unlistened c.in-Ok.archive _ c.args.capacity c.close_unasked-closed.result
            (record {
              capacity = it.capacity.0;
              healthy = it.healthy;
              found = it.found;
              migrated = it.migrated;
              fresh = it.fresh;
            }) c.close_unasked-closed.ensures,
      ),
    )

pub returns-in-Err-clause-refused : goal.returns-in-Err-clause-refused
returns-in-Err-clause-refused g c =
    inl (unopened _ _ c.in-Err.fault c.opening_stop.result c.in-Err.left c.refused.result c.opening_stop.ensures
    c.refused.ensures c.in-Err.ensures.ours)
