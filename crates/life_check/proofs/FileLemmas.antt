-- The contents of files after a check.
use Rattle.std.proofs.Common.{ℕ, Bool, List, Result, Ok, Err, IsTrue}
use Rattle.std.specs.Prelude.{IfOk}
use Rattle.sqlite_disk.specs.declared.Disk as disk
use Rattle.sqlite_disk.specs.declared.Files.{Files}
use Rattle.sqlite_wal.specs.Reads.{AreClean}
use Rattle.sqlite_wal.specs.Recovery.{Image}
use Rattle.sqlite_store.specs.declared.store.FileStore.{FileStore}
use Rattle.life_store.specs.declared.store_fault.Unavailable.{Unavailable}
use Rattle.life_store.specs.Tables.{ArchiveView}
use Rattle.life_desk.specs.Represents.{kept_of}
use Rattle.life_desk.proofs.Representing.{holds_of}
use Rattle.life_check.specs.declared.archive_check.CheckVerdict.{CheckVerdict}
use Rattle.life_check.specs.declared.archive_check.CheckVerdict.TheVariants.{Sound, SoundButForCounts, NotSound}
use Rattle.life_check.specs.declared.archive_check.Wrong.{Wrong}
use Rattle.life_check.specs.Sound.{RepresentsSome}
use Rattle.life_check.specs.Files.{EndsCheck, IsFoundAt, FindsIn, IsPathCheck}

module _ {D : Type 0} {g : disk.Ghosts D} (quick : Bool) (a : ArchiveView (FileStore D g))
    (checked : Result CheckVerdict Unavailable) (further : List Wrong) (files : Files D)
    (ends : EndsCheck quick g a checked further files) (image : Image) (capacity : ℕ)
    (opens : IsFoundAt image capacity a) where
  still_healthy : AreClean g files.log files.db → IsTrue a.tables.is_healthy
  still_healthy clean = opens.healthy (ends.honest clean)

  finds_in : (r : Result CheckVerdict Unavailable) → AreClean g files.log files.db → IfOk r (RepresentsSome quick a)
      → IfOk r (FindsIn quick files a)
  finds_in (Ok (Sound d c)) clean it = (
    it.0,
    it.1,
    it.2,
    it.3,
    ends.held (kept_of it.0) (still_healthy clean) (holds_of a it.0 it.1) clean,
    it.4,
    it.5,
    it.6,
  )
  finds_in (Ok (SoundButForCounts d c)) clean it = it
  finds_in (Ok (NotSound w)) clean it = it
  finds_in (Err e) clean it = tt

  pub is_path_check : IsPathCheck quick g image capacity checked further files
  is_path_check = record {
    opened = a;
    opens = opens;
    finds = λ clean. finds_in checked clean (ends.finds clean);
    lists = ends.lists;
    keeps = λ clean k holds. let now = still_healthy clean in ends.held k now (opens.found k now holds) clean;
    stays = λ clean. ends.stays (still_healthy clean) clean;
  }
