-- What contracts see of an archive: its tables, and the deposits and censuses that their rows represent
-- (docs/FORMATS.md). The kit's `sqlite` defines tables, rows with ids, and schemas, after SQLite's "Database File
-- Format" and "CREATE TABLE".
use Rattle.std.specs.Prelude.{◌≡◌, ◌<◌, ◌≤◌, ◌+◌, ◌^◌, ◌⊎◌, ◌&&◌, ◌++◌, ℕ, pos, Bool, true, false, List, [], ◌∷◌}
use Rattle.std.specs.Prelude.{length, map, IsTrue, refl}
use Rattle.std.specs.Coded.{Coded, code_by, coded×, coded_ℕ, coded_bool, coded_list}
use Rattle.std.specs.List.{AllByRecursion}
use Rattle.std.specs.List.Sorted.{IsStrictlySortedBy}
use Rattle.sqlite_disk.specs.Disk.{MoreFaults}
use Rattle.sqlite_trees.specs.declared.store.Store.{Ghosts}
use Rattle.sqlite_trees.specs.Tree.{Trees}
use Rattle.sqlite_trees.specs.View.{doubt, IsClean}
use Rattle.sqlite_value.specs.contracts.value.Value as value
use Rattle.sqlite_value.specs.declared.value.Value.TheVariants.{Int}
use Rattle.sqlite_value.specs.Order.{Row}
use Rattle.sqlite_catalog.specs.Listing.{IsSound}
use Rattle.sqlite_schema.specs.declared.schema.Schema.{Schema}
use Rattle.sqlite_schema.specs.contracts.schema.Schema.{the_row}
use Rattle.sqlite.specs.Effect.{Database}
use Rattle.sqlite.specs.State.{State}
use Rattle.life_census.specs.Counting.{row_cmp}
use Rattle.life_census.specs.Rows.{TallyCounts}
use Rattle.life_store.specs.Crash.{CrashLeaves}
use Rattle.life_store.specs.declared.kept.Deposit.{Deposit}
use Rattle.life_store.specs.Kept.{Kept, Tallied}
use Rattle.life_store.specs.Layout.{archive_schema}
use Rattle.life_store.specs.Stored.{IsFiled, rows_by, deposit_cells, census_cells, count_cells, flag_cells, counts_from}

-- the tables of a database
pub record Tables : Type 0 where
  -- The database is open, and its disk has returned everything as it was written. If false, the other fields mean
  -- nothing.
  pub is_healthy : Bool
  -- how often the disk has failed or refused so far, and once more if it has returned other than what was written
  pub faults : ℕ
  -- A transaction is open, and the rows are as it sees them. Otherwise they are committed.
  pub in_transaction : Bool
  pub schema : Schema
  pub layout : List Row
  pub deposits : List Row
  pub censuses : List Row
  pub census_rows : List Row
  pub census_flags : List Row

-- an archive: its tables, its capacity (one number, for deposits and for censuses), and its store, which the clauses on
-- crashes are about
pub record ArchiveView (S : Type 0) : Type 0 where
  pub tables : Tables
  pub capacity : ℕ
  pub store : S

abbrev pub coded_rows : Coded (List Row)
coded_rows = coded_list (coded_list value.the_row.coded)

-- a view is stored as the pairs of its parts
abbrev pub coded_view : {S : Type 0} → Coded S → Coded (ArchiveView S)
coded_view {S} store =
    code_by (Bool × (ℕ × (Bool × (Schema × (List Row × (List Row × (List Row × (List Row × (List Row × (ℕ × S))))))))))
    (coded× coded_bool (coded× coded_ℕ (coded× coded_bool (coded× the_row.coded (coded× coded_rows
    (coded× coded_rows (coded× coded_rows (coded× coded_rows (coded× coded_rows (coded× coded_ℕ store))))))))))
    (λ s. (
      s.tables.is_healthy,
      (
        s.tables.faults,
        (
          s.tables.in_transaction,
          (
            s.tables.schema,
            (
              s.tables.layout,
              (
                s.tables.deposits,
                (s.tables.censuses, (s.tables.census_rows, (s.tables.census_flags, (s.capacity, s.store)))),
              ),
            ),
          ),
        ),
      ),
    ))
    (λ p. record {
      tables = record {
        is_healthy = p.0;
        faults = p.1.0;
        in_transaction = p.1.1.0;
        schema = p.1.1.1.0;
        layout = p.1.1.1.1.0;
        deposits = p.1.1.1.1.1.0;
        censuses = p.1.1.1.1.1.1.0;
        census_rows = p.1.1.1.1.1.1.1.0;
        census_flags = p.1.1.1.1.1.1.1.1.0;
      };
      capacity = p.1.1.1.1.1.1.1.1.1.0;
      store = p.1.1.1.1.1.1.1.1.1.1;
    })
    (λ _. refl)

-- The tables have these numbers. A UNIQUE or PRIMARY KEY of two columns has an index, which takes the number after its
-- table's.
abbrev pub tables_in : Bool → ℕ → Bool → Database → Tables
tables_in is_healthy faults in_transaction db = record {
  is_healthy = is_healthy;
  faults = faults;
  in_transaction = in_transaction;
  schema = db.schema;
  layout = db.trees 0;
  deposits = db.trees 1;
  censuses = db.trees 3;
  census_rows = db.trees 5;
  census_flags = db.trees 7;
}

-- the tables that a connection sees
abbrev pub tables_of : State → Tables
tables_of s = tables_in (s.is_clean && s.is_open) (s.faults + doubt s.is_clean) s.in_transaction s.now

-- the one row of `layout`, whose id is 1: version 2
abbrev pub version_2 : List Row
version_2 = (Int (pos 1) ∷ Int (pos 2) ∷ []) ∷ []

-- the codes of a tally ascend, byte by byte
abbrev pub HasOrder : TallyCounts → Type 0
HasOrder t = IsStrictlySortedBy row_cmp (map (λ (row : List ℕ × ℕ). row.0) t.rows)

-- The tables represent exactly these deposits and these censuses, each with its tally and its flag:
-- the schema is the archive's, no transaction is open, `layout` names version 2,
-- and the rows of `deposits`, `censuses`, `census_rows` and `census_flags` are theirs, in this order, under the ids 1,
-- 2, 3 and so on.
pub record Holds (t : Tables) (k : Kept) : Type 0 where
  pub schema : t.schema ≡ archive_schema
  pub committed : t.in_transaction ≡ false
  pub layout : t.layout ≡ version_2
  pub deposits : t.deposits ≡ rows_by deposit_cells 1 k.deposits
  pub censuses : t.censuses ≡ rows_by census_cells 1 k.censuses
  pub census_rows : t.census_rows ≡ rows_by count_cells 1 (counts_from 1 k.censuses)
  pub census_flags : t.census_flags ≡ rows_by flag_cells 1 k.censuses
  -- reading each file gives its record again
  pub filed : AllByRecursion IsFiled k.deposits
  -- the rows of each tally are in the order in which they are queried
  pub ordered : AllByRecursion (λ t. HasOrder t.tally) k.censuses
  -- each number is an integer of SQL
  pub few_deposits : length k.deposits < 2 ^ 63
  pub few_censuses : length k.censuses < 2 ^ 63

-- The trees obey the archive's tables, with rows that represent these.
pub record TreesHold (db : Trees) (k : Kept) : Type 0 where
  pub sound : IsSound archive_schema db
  pub holds : Holds (tables_in true 0 false (record { schema = archive_schema; trees = db })) k

-- ---- what a call does

-- a database that is healthy after the call was healthy before it
abbrev pub WasHealthy : Tables → Tables → Type 0
WasHealthy old new = IsTrue new.is_healthy → IsTrue old.is_healthy

-- the disk has failed in the call: the count rose
abbrev pub HasFailed : Tables → Tables → Type 0
HasFailed old new = MoreFaults old.faults new.faults

-- A database that is healthy stays healthy, or the disk has failed in the call. No failure is forgotten.
pub record IsStayingHealthy (old new : Tables) : Type 0 where
  pub faults : old.faults ≤ new.faults
  pub is_healthy : IsTrue old.is_healthy → IsTrue new.is_healthy ⊎ HasFailed old new

-- the same, kept closed so that proofs pass it from call to call
unfoldable pub StaysHealthy : Tables → Tables → Type 0
StaysHealthy old new = IsStayingHealthy old new

-- The database is healthy, unless its disk has returned other than what was written.
abbrev pub IsHealthyIfClean : {S : Type 0} → Ghosts S → ArchiveView S → Type 0
IsHealthyIfClean g a = IsClean (g.view a.store) → IsTrue a.tables.is_healthy

-- the tables still represent the same contents
abbrev pub HoldsTheSame : Tables → Tables → Type 0
HoldsTheSame old new = (k : Kept) → IsTrue new.is_healthy → Holds old k → Holds new k

-- `P` holds for the contents that the tables represented before the call, if the database is healthy after it
abbrev pub ForAllHeld : Tables → Tables → (Kept → Type 0) → Type 0
ForAllHeld old new P = (k : Kept) → IsTrue new.is_healthy → Holds old k → P k

-- the tables represent the same contents with the deposit appended
abbrev pub AddsDeposit : Tables → Tables → Deposit → Type 0
AddsDeposit old new d =
    (k : Kept) → IsTrue new.is_healthy → Holds old k → Holds new (record k { deposits = k.deposits ++ d ∷ [] })

-- the tables represent the same contents with the census appended
abbrev pub AddsCensus : Tables → Tables → Tallied → Type 0
AddsCensus old new t =
    (k : Kept) → IsTrue new.is_healthy → Holds old k → Holds new (record k { censuses = k.censuses ++ t ∷ [] })

-- The database was healthy, and the trees represent the contents of its tables after the change.
abbrev pub HoldChanged : Tables → (Kept → Kept) → Trees → Type 0
HoldChanged old change db = IsTrue old.is_healthy × ((k : Kept) → Holds old k → TreesHold db (change k))

-- What each call keeps: a database that is healthy after it was healthy before it; one that was healthy before it is
-- healthy after it unless the disk failed in the call; the capacity is the one chosen at opening; and a crash leaves
-- what it might have left before, or what `Adds` says.
pub record IsTransition {S : Type 0} (g : Ghosts S) (Adds : Trees → Type 0) (old new : ArchiveView S) : Type 0 where
  pub was_healthy : WasHealthy old.tables new.tables
  pub lasts : StaysHealthy old.tables new.tables
  pub capacity : new.capacity ≡ old.capacity
  pub crash : CrashLeaves g Adds old.store new.store
