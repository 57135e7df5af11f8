-- Used only by contracts inside the crate: the contents of the tables during a migration, which adds flags census by
-- census.
use Rattle.std.specs.Prelude.{◌≡◌, ℕ, List, map, take, IsTrue}
use Rattle.std.specs.List.{AllByRecursion}
use Rattle.sqlite_trees.specs.Tree.{Trees}
use Rattle.sqlite.specs.Effect.{Database, IsDatabase}
use Rattle.life_store.specs.Migration.{version_1, IsFlagged, unflagged, HoldsFirst, Migrated}
use Rattle.life_store.specs.CensusesState.{Parts, HoldsParts}
use Rattle.life_store.specs.Kept.{Kept, Tallied}
use Rattle.life_store.specs.Layout.{first_schema}
use Rattle.life_store.specs.Stored.{IsFiled, rows_by, deposit_cells, census_cells, count_cells}
use Rattle.life_store.specs.Tables.{Tables, version_2}

-- the rows of the tables of schema version 1
pub record HoldsFirstParts (db : Database) (p : Parts) : Type 0 where
  pub schema : db.schema ≡ first_schema
  pub layout : db.trees 0 ≡ p.layout
  pub deposits : db.trees 1 ≡ rows_by deposit_cells 1 p.deposits
  pub censuses : db.trees 3 ≡ rows_by census_cells 1 p.censuses
  pub census_rows : db.trees 5 ≡ rows_by count_cells 1 p.counts

-- the first n censuses have their flags
pub record IsFlaggedUpTo (p : Parts) (n : ℕ) (db : Database) : Type 0 where
  pub done : List Tallied
  pub same : map unflagged done ≡ map unflagged (take n p.censuses)
  pub flagged : AllByRecursion (IsFlagged p.deposits) done
  pub stands : HoldsParts db (record p { flagged = done })

-- all censuses have their flags, and `layout` names version 2
pub record IsMigrated (p : Parts) (db : Database) : Type 0 where
  pub done : List Tallied
  pub same : map unflagged done ≡ map unflagged p.censuses
  pub flagged : AllByRecursion (IsFlagged p.deposits) done
  pub stands : HoldsParts db (record p { layout = version_2; flagged = done })

-- migrating tables of schema version 1 commits these trees
abbrev pub IsCarriedOver : Database → Trees → Type 0
IsCarriedOver old db =
    (p : Parts) → AllByRecursion IsFiled p.deposits → HoldsFirstParts old p → p.layout ≡ version_1
    → (after : Database) × (db ≡ after.trees) × IsDatabase after × IsMigrated p after

-- an opening migrates tables of schema version 1
abbrev pub Carries : Tables → Tables → Type 0
Carries old new = (k : Kept) → IsTrue new.is_healthy → HoldsFirst old k → Migrated new k
