-- The job that opens files after `life check` found them sound.
use Rattle.std.specs.Prelude.{◌≡◌, ℕ, List, length, false, Option, Some, Result, Ok}
use Rattle.sqlite_disk.specs.declared.Disk as disk
use Rattle.sqlite_disk.specs.declared.Files.{Files}
use Rattle.sqlite_wal.specs.Files.{outcomes}
use Rattle.sqlite_wal.specs.Reads.{AreClean}
use Rattle.sqlite_wal.specs.Recovery.{Image}
use Rattle.life_rle.specs.Stream.{Appends}
use Rattle.life_desk.specs.Archive.{Archive}
use Rattle.life_check.specs.declared.archive_check.CheckVerdict.TheVariants.{Sound}
use Rattle.life_check.specs.Report.{verdict_line, ChecksAt}
use Rattle.life_archive.specs.ArchivePath.{PathJob, BecomesBy, LeavesOne}
use Rattle.life_archive.specs.Session.{under}

-- A check that counted each census again returned Ok. Then `life serve` or `life deposit` opens the files, or what a
-- crash left of them, possibly on another disk. If the disk was honest, that job begins with an archive A, under its
-- own capacity. The check's line has the numbers of deposits and censuses of A. Any program may have written the files.
abbrev pub CheckedFilesBegin : {D E : Type 0} → disk.Ghosts D → disk.Ghosts E → Type 0
CheckedFilesBegin {D} {E} g h =
    (image again : Image) (capacity next : ℕ) (before after : Option (List ℕ)) (files : Files D)
    (left : Result (Files E) (Files E))
    → ChecksAt false g image capacity before after (Ok tt) (Some (Ok files)) → (two : PathJob h again next left)
    → AreClean g files.log files.db → outcomes g files.log files.db again
    → (A : Archive) × Appends before after (verdict_line (Sound (length A.deposits) (length A.censuses)))
    × LeavesOne h (BecomesBy two (under next A)) left
