use Rattle.std.proofs.Common.{inl, inr, refl, None, Some}
use Rattle.life_check.proofs.FileLemmas.{is_path_check}
use Rattle.life_check.proofs.checked_files.check_path.Goals as goal

pub returns-in-Ok-clause-check : goal.returns-in-Ok-clause-check
returns-in-Ok-clause-check g c =
    let it = c.in-Ok.ensures in
    let end = c.check_opened-checked in
    inr (
      end.result.2,
      refl,
      is_path_check c.args.quick c.in-Ok.archive end.result.0 end.result.1.items end.result.2 end.ensures.check
          _ c.args.capacity
          (record { capacity = it.capacity; healthy = it.healthy; found = it.found; shows = it.shows }),
    )

pub returns-in-Err-Some-clause-check : goal.returns-in-Err-Some-clause-check
returns-in-Err-Some-clause-check g c = inl (_, refl, Some c.in-Err-Some.files, refl)

pub returns-in-Err-None-clause-check : goal.returns-in-Err-None-clause-check
returns-in-Err-None-clause-check g c = inl (_, refl, None, refl)
