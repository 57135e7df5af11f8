-- Used only by contracts inside the crate: the tables of Layout.antt while they are created.
use Rattle.std.specs.Prelude.{◌≡◌, ℕ, pos, List, [], ◌∷◌}
use Rattle.std.specs.List.{AllByRecursion}
use Rattle.sqlite_value.specs.declared.value.Value.TheVariants.{Int}
use Rattle.sqlite_schema.specs.declared.schema.Schema.{Schema}
use Rattle.sqlite_trees.specs.Tree.{Trees}
use Rattle.sqlite.specs.Effect.{Database, IsDatabase}
use Rattle.life_store.specs.Layout.{no_schema, archive_schema}

-- this schema, with these tables empty
pub record HasTables (schema : Schema) (empty : List ℕ) (db : Database) : Type 0 where
  pub is : db.schema ≡ schema
  pub none : AllByRecursion (λ t. db.trees t ≡ []) empty

-- the five tables, all empty except `layout`, whose one row names version 2
pub record IsNewArchive (db : Database) : Type 0 where
  pub has_tables : HasTables archive_schema (1 ∷ 3 ∷ 5 ∷ 7 ∷ []) db
  pub version : db.trees 0 ≡ (Int (pos 1) ∷ Int (pos 2) ∷ []) ∷ []

-- if the database had no tables, creating them commits these trees
abbrev pub IsMadeAnew : Database → Trees → Type 0
IsMadeAnew old db =
    HasTables no_schema [] old → (after : Database) × (db ≡ after.trees) × IsDatabase after × IsNewArchive after
