use Rattle.std.proofs.Common.{inl, inr, refl}
use Rattle.life_archive.proofs.PathLemmas.{is_path_deposit, unopened}
use Rattle.life_archive.proofs.archive_path.deposit_path.Goals as goal

pub returns-in-Ok-clause-deposits : goal.returns-in-Ok-clause-deposits
returns-in-Ok-clause-deposits g c =
    let it = c.in-Ok.ensures in
    inr (
      c.deposit_opened-done.result.1,
      refl,
      is_path_deposit c.in-Ok.archive _ c.args.capacity _ _ _ _ _ _ _
          (record {
            capacity = it.capacity.0;
            healthy = it.healthy;
            found = it.found;
            migrated = it.migrated;
            fresh = it.fresh;
          }) c.deposit_opened-done.ensures.ends,
    )

pub returns-in-Err-clause-deposits : goal.returns-in-Err-clause-deposits
returns-in-Err-clause-deposits g c = inl (
  c.opening_stop.result,
  refl,
  unopened _ _ c.in-Err.fault c.opening_stop.result c.in-Err.files c.refused.result c.opening_stop.ensures
      c.refused.ensures c.in-Err.ensures.ours,
  refl,
  refl,
)
