-- The contents of files before they are opened and after they are closed. SQLite's "Database File Format" says how
-- files hold a database.
use Rattle.std.specs.Prelude.{◌≡◌, ◌⊎◌, IsTrue, ◌&&◌, ℕ, Bool, true, false, nat_le, pos, List, [], ◌∷◌, map, Option}
use Rattle.std.specs.Prelude.{None, Some}
use Rattle.sqlite_value.specs.declared.value.Value.{Value}
use Rattle.sqlite_value.specs.declared.value.Value.TheVariants.{Int}
use Rattle.sqlite_value.specs.Order.{Row, column}
use Rattle.sqlite_disk.specs.declared.Disk.{Ghosts}
use Rattle.sqlite_disk.specs.declared.Files.{Files}
use Rattle.sqlite_wal.specs.Files.{outcomes}
use Rattle.sqlite_wal.specs.Reads.{AreClean}
use Rattle.sqlite_wal.specs.Recovery.{Image}
use Rattle.sqlite_store.specs.declared.store.FileStore.{FileStore}
use Rattle.sqlite_store.specs.FileStore as store
use Rattle.sqlite_store.specs.FileStore.{recovers, view}
use Rattle.sqlite_wal.specs.PageSize.{IsPageSize}
use Rattle.sqlite_pages.specs.PageMap.{PageMap}
use Rattle.sqlite_pool.specs.Stored.{stored_size, Adopts}
use Rattle.sqlite_store.specs.declared.catalog.Wanted.{Wanted}
use Rattle.sqlite_store.specs.Listing.{file_trees, IsOurs}
use Rattle.sqlite_disk.specs.Disk.{MoreFaults}
use Rattle.sqlite_trees.specs.Tree.{Trees}
use Rattle.sqlite_trees.specs.View.{IsClean}
use Rattle.sqlite_catalog.specs.Listing.{IsSound}
use Rattle.sqlite_schema.specs.declared.schema.Schema.{Schema}
use Rattle.sqlite.specs.declared.file.Leftover.{Leftover}
use Rattle.sqlite.specs.Closing.{files_left}
use Rattle.sqlite.specs.Files.{HoldsDatabase, AreFoundIn, LeavesFiles, image_of}
use Rattle.life_store.specs.Migration.{HoldsFirst, TreesMigrated}
use Rattle.life_store.specs.Kept.{Kept}
use Rattle.life_store.specs.Layout.{first_schema, archive_schema, no_schema}
use Rattle.life_store.specs.Tables.{ArchiveView, tables_in, Holds}

-- from 1 to 1,000,000
abbrev pub is_capacity : ℕ → Bool
is_capacity n = nat_le 1 n && nat_le n 1000000

-- neither deposits nor censuses
abbrev pub nothing_kept : Kept
nothing_kept = record { deposits = []; censuses = [] }

-- the database file with no log, or with an empty one
abbrev pub without_log : Image → Image
without_log image = record image { log = [] }

-- The files hold a database that obeys the archive's schema, with rows that represent `k`.
pub record FilesHold (image : Image) (k : Kept) : Type 0 where
  pub trees : Trees
  pub held : ∥ HoldsDatabase image trees ∥₁
  pub sound : IsSound archive_schema trees
  pub holds : Holds (tables_in true 0 false (record { schema = archive_schema; trees = trees })) k

-- The two files hold `k` now, and each image that a crash may leave of them does. So the next opening finds it.
abbrev pub LeftHold : {D : Type 0} → Ghosts D → Files D → Kept → Type 0
LeftHold g files k = (image : Image) → outcomes g files.log files.db image → FilesHold image k

-- Recovery reads these trees from the files, and they are a database. An opening requires one fact more: the rows of
-- `sqlite_schema` number the trees (`HoldsDatabase`).
pub record ReadsAs (image : Image) (db : Trees) : Type 0 where
  pub size : ℕ
  pub is_numbered : Bool
  pub is_size : IsPageSize (stored_size size)
  pub pages : PageMap
  pub wanted : List Wanted
  pub schema : Schema
  pub found : Adopts size image pages
  pub ours : IsOurs size is_numbered wanted pages
  pub reads : db ≡ file_trees size wanted pages
  pub sound : IsSound schema db

-- If the disk has returned everything as it was written, each image that a crash may leave reads as a database that the
-- store allowed.
abbrev pub AreReadOf : {D : Type 0} {g : Ghosts D} → FileStore D g → Files D → Type 0
AreReadOf {D} {g} store files =
    AreClean g files.log files.db → (image : Image) → outcomes g files.log files.db image
    → ∥ ((db : Trees) × recovers store db × ReadsAs image db) ∥₁

-- The same for images that hold such a database, so that an opening accepts them.
abbrev pub AreLeftOf : {D : Type 0} {g : Ghosts D} → FileStore D g → Files D → Type 0
AreLeftOf {D} {g} store files =
    AreClean g files.log files.db → (image : Image) → outcomes g files.log files.db image
    → ∥ ((db : Trees) × recovers store db × HoldsDatabase image db) ∥₁

-- Since then, a call of the disk failed or a limit of the format was reached.
abbrev pub HaveFailedSince : {D : Type 0} {g : Ghosts D} → FileStore D g → Files D → Type 0
HaveFailedSince {D} {g} was files =
    (last : FileStore D g) × ((files.log, files.db) ≡ store.files last)
    × MoreFaults (store.faults was) (store.faults last)

-- A store after a refused close, on a disk that has returned everything as it was written. A crash has no new outcome,
-- and each outcome is a database. An opening accepts it, unless a disk call failed in the close or a limit was reached.
pub record AreReleased {D : Type 0} {g : Ghosts D} (was : FileStore D g) (files : Files D) : Type 0 where
  pub honest : AreClean g files.log files.db → IsClean (view was)
  pub read : AreReadOf was files
  pub left : AreClean g files.log files.db → IsTrue (view was).is_open → AreLeftOf was files ⊎ HaveFailedSince was files

-- The files hold a database that obeys schema version 1, with rows that represent `k`.
pub record FilesHoldFirst (image : Image) (k : Kept) : Type 0 where
  pub trees : Trees
  pub held : ∥ HoldsDatabase image trees ∥₁
  pub sound : IsSound first_schema trees
  pub holds : HoldsFirst (tables_in true 0 false (record { schema = first_schema; trees = trees })) k

-- The files hold a database that obeys the archive's schema, with rows that represent `k` after its migration.
pub record FilesMigrated (image : Image) (k : Kept) : Type 0 where
  pub trees : Trees
  pub held : ∥ HoldsDatabase image trees ∥₁
  pub migrated : TreesMigrated trees k

-- The view shows the database found in files of this image, even if it is not an archive. The store's trees and the
-- schema are the database's, and the rows come from the trees that an archive's tables would use.
pub record ShowsFound {D : Type 0} {g : Ghosts D} (image : Image) (a : ArchiveView (FileStore D g)) : Type 0 where
  pub found : AreFoundIn image (view a.store).committed
  pub sound : IsSound a.tables.schema (view a.store).committed
  pub committed : a.tables.in_transaction ≡ false
  pub layout : a.tables.layout ≡ (view a.store).committed 0
  pub deposits : a.tables.deposits ≡ (view a.store).committed 1
  pub censuses : a.tables.censuses ≡ (view a.store).committed 3
  pub census_rows : a.tables.census_rows ≡ (view a.store).committed 5
  pub census_flags : a.tables.census_flags ≡ (view a.store).committed 7

-- Any database found in the files lists no table. A law shows this for files in which nothing was written yet.
abbrev pub ListNothing : Image → Type 0
ListNothing image = (db : Trees) → AreFoundIn image db → IsSound no_schema db

-- ---- what a refused opening leaves

-- Files that the kit refused to open, by the kit's definition. It has written nothing, or each image that a crash may
-- leave represents the old contents or has the trees that were found.
abbrev pub AreLeftUnopened : {D : Type 0} → Ghosts D → Files D → Files D → Type 0
AreLeftUnopened {D} g files now = (left : Leftover D g) × (files_left left ≡ (now.log, now.db)) × LeavesFiles files left

-- Files of an opening that failed later. Each image that a crash may leave holds the same archive as before. If that
-- had schema version 1, it may also be migrated.
pub record AreLeftOpened {D : Type 0} (g : Ghosts D) (before : Image) (now : Files D) : Type 0 where
  pub held : (k : Kept) → FilesHold before k → LeftHold g now k
  pub first : (k : Kept) → FilesHoldFirst before k → (image : Image) → outcomes g now.log now.db image
      → ∥ FilesHoldFirst image k ⊎ FilesMigrated image k ∥₁

-- one of the two, if the disk has returned everything as it was written
abbrev pub AreUnharmed : {D : Type 0} → Ghosts D → Files D → Files D → Type 0
AreUnharmed g files now =
    AreClean g now.log now.db → AreLeftUnopened g files now ⊎ AreLeftOpened g (image_of g files) now

-- ---- the version of the layout

-- the column `version` of the rows of the table `layout`, each of which begins with its id
abbrev pub versions_in : List Row → List Value
versions_in rows = map (λ row. column row 1) rows

-- The known layouts: the archive's tables with version 2 in the one row of `layout`, and the tables of schema version 1
-- with version 1 there.
abbrev pub IsLayout : Schema → List Value → Type 0
IsLayout schema own =
    ((schema ≡ archive_schema) × (own ≡ Int (pos 2) ∷ [])) ⊎ ((schema ≡ first_schema) × (own ≡ Int (pos 1) ∷ []))

-- The files hold a database that obeys these tables, and these are the versions in its table `layout`.
pub record FilesHaveVersions (schema : Schema) (image : Image) (versions : List Value) : Type 0 where
  pub trees : Trees
  pub held : ∥ HoldsDatabase image trees ∥₁
  pub sound : IsSound schema trees
  pub are : versions_in (trees 0) ≡ versions

-- ---- what is refused as another's

-- The files hold no archive of a known layout, and list a table.
pub record AreAnothers (image : Image) : Type 0 where
  pub versions : (schema : Schema) (own : List Value) → IsLayout schema own → ¬ FilesHaveVersions schema image own
  pub some : ¬ ListNothing image

-- An opening that refuses files with `NotOurs` returns them, and they are another's if the disk is clean.
abbrev pub AreRefusedAs : {D : Type 0} → Ghosts D → Image → Option (Files D) → Type 0
AreRefusedAs g image None = ⊥
AreRefusedAs g image (Some now) = AreClean g now.log now.db → AreAnothers image
