-- Used only by contracts inside the crate: which tables exist in a database that is opened or closed, and the versions
-- in its table `layout`.
use Rattle.std.specs.Prelude.{◌≡◌, ◌⊎◌, ◌||◌, ℕ, Bool, true, false, pos, codes, List, [], ◌∷◌, map, IsTrue}
use Rattle.std.specs.List.{list_any}
use Rattle.sqlite_value.specs.declared.value.Value.{Value}
use Rattle.sqlite_value.specs.declared.value.Value.TheVariants.{Int}
use Rattle.sqlite_value.specs.Order.{Row}
use Rattle.sqlite_disk.specs.declared.Disk.{Ghosts}
use Rattle.sqlite_disk.specs.declared.Files.{Files}
use Rattle.sqlite_wal.specs.Files.{outcomes}
use Rattle.sqlite_wal.specs.Recovery.{Image}
use Rattle.sqlite_trees.specs.Tree.{Trees}
use Rattle.sqlite_store.specs.declared.store.FileStore.{FileStore}
use Rattle.sqlite_store.specs.FileStore.{recovers}
use Rattle.sqlite.specs.Files.{HoldsDatabase}
use Rattle.sqlite_schema.specs.declared.schema.Table.{Table}
use Rattle.sqlite_schema.specs.declared.schema.View.{View}
use Rattle.sqlite_schema.specs.declared.schema.Schema.{Schema}
use Rattle.sqlite_schema.specs.Names.{same_name}
use Rattle.sqlite.specs.State.{State, IsLive}
use Rattle.life_store.specs.declared.opening.Version.{Version}
use Rattle.life_store.specs.declared.opening.Version.TheVariants.{First, Second}
use Rattle.life_store.specs.Kept.{Kept}
use Rattle.life_store.specs.Layout.{no_schema, first_schema, archive_schema}
use Rattle.life_store.specs.Migration.{HoldsFirst, TreesMigrated}
use Rattle.life_store.specs.Opening.{versions_in, nothing_kept, IsLayout, ReadsAs}
use Rattle.life_store.specs.Tables.{Tables, tables_of, Holds, TreesHold}

abbrev pub has_table : List Table → List ℕ → Bool
has_table tables name = list_any (λ t. same_name t.name name) tables

abbrev pub has_view : List View → List ℕ → Bool
has_view views name = list_any (λ v. same_name v.name name) views

-- something has the name: a table, or what is kept without being understood
abbrev pub has_name : Schema → List ℕ → Bool
has_name s name = has_table s.tables name || has_view s.views name

-- some of the archive's tables exist
abbrev pub has_some : Schema → Bool
has_some s =
    has_name s (codes "layout") || (has_name s (codes "deposits")
    || (has_name s (codes "censuses") || (has_name s (codes "census_rows") || has_name s (codes "census_flags"))))

-- The tables are these, and these are the versions in the table `layout`.
pub record HaveVersions (s : Schema) (t : Tables) (versions : List Value) : Type 0 where
  pub schema : t.schema ≡ s
  pub are : versions_in t.layout ≡ versions

-- values, as a query of one column shows them
abbrev pub column_of : List Value → List Row
column_of values = map (λ v. v ∷ []) values

-- one row with this version, as a query shows it
abbrev pub version_shown : ℕ → List Row
version_shown n = (Int (pos n) ∷ []) ∷ []

-- the version of tables with or without a table of flags
abbrev pub version_with : Bool → Version
version_with true = Second
version_with false = First

abbrev pub rows_of_version : Version → List Row
rows_of_version First = version_shown 1
rows_of_version Second = version_shown 2

abbrev pub schema_of : Version → Schema
schema_of First = first_schema
schema_of Second = archive_schema

-- a database with no open transaction, whose tables are these
pub record IsSettled (s : State) (t : Tables) : Type 0 where
  pub tables : tables_of s ≡ t
  pub live : IsLive s
  pub settled : IsTrue s.is_open → s.now ≡ s.committed

-- the tables are of no known layout
abbrev pub IsForeign : Tables → Type 0
IsForeign t = (schema : Schema) (own : List Value) → IsLayout schema own → HaveVersions schema t own → ⊥

-- migrating these tables commits these trees; nothing is committed if they are an archive's already
pub record IsMadeOfOld (t : Tables) (db : Trees) : Type 0 where
  pub archive : (k : Kept) → Holds t k → ⊥
  pub carried : (k : Kept) → HoldsFirst t k → TreesMigrated db k

-- opening a database with these tables commits these trees: a new archive if there is no table, migrated tables if they
-- have schema version 1, and nothing if they are an archive's
pub record IsMadeOf (t : Tables) (db : Trees) : Type 0 where
  pub old : IsMadeOfOld t db
  pub fresh : t.schema ≡ no_schema → TreesHold db nothing_kept

-- What a refused opening leaves of a database that it had opened: trees that the store allowed, or that it may have
-- committed.
abbrev pub AreLeftMade : {D : Type 0} {g : Ghosts D} → Tables → FileStore D g → Files D → Type 0
AreLeftMade {D} {g} t store files =
    (image : Image) → outcomes g files.log files.db image → ∥ ((db : Trees) × (recovers store db ⊎ IsMadeOf t db)
    × (HoldsDatabase image db ⊎ (IsForeign t × ReadsAs image db))) ∥₁
