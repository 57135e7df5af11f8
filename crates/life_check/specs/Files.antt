-- The result of checking files, and their contents after it.
use Rattle.std.specs.Prelude.{◌≡◌, ◌⊎◌, ℕ, Bool, false, List, length, Option, Some, option_map, Result, Ok, Err, IfOk}
use Rattle.std.specs.Prelude.{IsTrue}
use Rattle.sqlite_disk.specs.declared.Disk as disk
use Rattle.sqlite_disk.specs.declared.Files.{Files}
use Rattle.sqlite_wal.specs.Reads.{AreClean}
use Rattle.sqlite_wal.specs.Recovery.{Image}
use Rattle.sqlite_store.specs.declared.store.FileStore.{FileStore}
use Rattle.sqlite_store.specs.FileStore.{view}
use Rattle.sqlite_wal.specs.Files.{outcomes}
use Rattle.sqlite.specs.Files.{over_files, HoldsDatabase}
use Rattle.life_store.specs.declared.store_fault.Unavailable.{Unavailable}
use Rattle.life_store.specs.Kept.{Kept}
use Rattle.life_store.specs.Recoverable.{IsHonest}
use Rattle.life_store.specs.Opening.{FilesHold, LeftHold, ShowsFound}
use Rattle.life_store.specs.Tables.{ArchiveView, Holds, IsHealthyIfClean}
use Rattle.life_desk.specs.Archive.{Archive}
use Rattle.life_desk.specs.Represents.{Represents, kept_of}
use Rattle.life_check.specs.declared.archive_check.CheckVerdict.{CheckVerdict}
use Rattle.life_check.specs.declared.archive_check.CheckVerdict.TheVariants.{Sound, SoundButForCounts, NotSound}
use Rattle.life_check.specs.declared.archive_check.Wrong.{Wrong}
use Rattle.life_check.specs.Listed.{AreWrongThere}
use Rattle.life_check.specs.Sound.{IsAskedFor, HasUniqueTokens, RepresentsSome, RepresentsNone}

-- If the disk has returned everything as it was written, the files hold the database that was committed in the store
-- before, and each image that a crash may leave of them does too.
abbrev pub StaysSame : {D : Type 0} {g : disk.Ghosts D} → ArchiveView (FileStore D g) → Files D → Type 0
StaysSame {D} {g} a files = AreClean g files.log files.db → (image : Image) → outcomes g files.log files.db image
    → ∥ HoldsDatabase image (view a.store).committed ∥₁

-- An archive over files was checked and its files were returned. If the disk has returned everything as it was written,
-- the result is right and each further error exists. The files hold the same archive and the same database as before,
-- and each image that a crash may leave of them does too.
pub record EndsCheck {D : Type 0} (quick : Bool) (g : disk.Ghosts D) (a : ArchiveView (FileStore D g))
    (checked : Result CheckVerdict Unavailable) (further : List Wrong) (files : Files D) : Type 0 where
  pub honest : AreClean g files.log files.db → IsHonest over_files a
  pub finds : AreClean g files.log files.db → IfOk checked (RepresentsSome quick a)
  pub lists : AreClean g files.log files.db → AreWrongThere a.tables.deposits further
  pub held : (k : Kept) → IsTrue a.tables.is_healthy → Holds a.tables k → AreClean g files.log files.db
      → LeftHold g files k
  pub stays : IsTrue a.tables.is_healthy → StaysSame a files

-- Files of this image, opened without creating or migrating tables. The tables are the ones of the database in the
-- files, archive or not, and represent the same contents. The database is healthy, unless the disk returned something
-- other than what was written.
pub record IsFoundAt {D : Type 0} {g : disk.Ghosts D} (image : Image) (most : ℕ)
    (a : ArchiveView (FileStore D g)) : Type 0 where
  pub capacity : a.capacity ≡ most
  pub healthy : IsHealthyIfClean over_files a
  pub found : (k : Kept) → IsTrue a.tables.is_healthy → FilesHold image k → Holds a.tables k
  pub shows : IsTrue a.tables.is_healthy → ShowsFound image a

-- Sound: an archive with this many deposits and censuses, which each image that a crash may leave of the files holds.
-- Sound but for counts: an archive whose tallies and flags were not counted again. Otherwise: not an archive, or one
-- that valid requests can't make.
abbrev pub FindsIn : {D : Type 0} {g : disk.Ghosts D} → Bool → Files D → ArchiveView (FileStore D g) → CheckVerdict
    → Type 0
FindsIn {D} {g} quick files a (Sound d c) =
    (A : Archive) × Represents a A × (length A.deposits ≡ d) × (length A.censuses ≡ c) × LeftHold g files (kept_of A)
    × IsAskedFor A × HasUniqueTokens A × (quick ≡ false)
FindsIn quick files a (SoundButForCounts d c) = RepresentsSome quick a (SoundButForCounts d c)
FindsIn quick files a (NotSound w) = RepresentsNone quick a w

-- A check over the files of a path: its result, and the files, which hold the same database as before, archive or not,
-- whatever the result.
pub record IsPathCheck {D : Type 0} (quick : Bool) (g : disk.Ghosts D) (image : Image) (capacity : ℕ)
    (checked : Result CheckVerdict Unavailable) (further : List Wrong) (files : Files D) : Type 0 where
  pub opened : ArchiveView (FileStore D g)
  pub opens : IsFoundAt image capacity opened
  pub finds : AreClean g files.log files.db → IfOk checked (FindsIn quick files opened)
  pub lists : AreClean g files.log files.db → AreWrongThere opened.tables.deposits further
  pub keeps : AreClean g files.log files.db → (k : Kept) → FilesHold image k → LeftHold g files k
  pub stays : StaysSame opened files

-- The files of a path after a check: Ok if they were checked, Err if the opening was refused, None if they were never
-- opened.
abbrev pub CheckedFiles : Type 0 → Type 0
CheckedFiles D = Option (Result (Files D) (Files D))

-- The file could not be opened, or it was checked, with or without a result.
abbrev pub ChecksPath : {D : Type 0} → Bool → disk.Ghosts D → Image → ℕ → Result CheckVerdict Unavailable
    → List Wrong → CheckedFiles D → Type 0
ChecksPath {D} quick g image capacity checked further left =
    ((e : Unavailable) × (checked ≡ Err e) × (refused : Option (Files D)) × (left ≡ option_map Err refused))
    ⊎ ((files : Files D) × (left ≡ Some (Ok files)) × IsPathCheck quick g image capacity checked further files)
