-- The schemas of the tables of docs/FORMATS.md (SQLite's "CREATE TABLE"): the five tables of schema version 2, and the
-- four of schema version 1. The crate proves that its CREATE TABLE statements make exactly these.
use Rattle.std.specs.Prelude.{true, false, [], ◌∷◌, Some, None, codes, List, ℕ, pos}
use Rattle.sqlite_value.specs.declared.keys.Collation.TheVariants.{Binary}
use Rattle.sqlite_value.specs.declared.value.Value.TheVariants.{Null, Int}
use Rattle.sqlite_value.specs.Keys.{plain}
use Rattle.sqlite_schema.specs.declared.schema.Table.{Table}
use Rattle.sqlite_schema.specs.declared.schema.Schema.{Schema}
use Rattle.sqlite_schema.specs.declared.schema.Kind.{Kind}
use Rattle.sqlite_schema.specs.declared.schema.Kind.TheVariants.{Integer, Text, Blob}
use Rattle.sqlite_schema.specs.declared.schema.Column.{Column}
use Rattle.sqlite_schema.specs.declared.schema.Index.{Index}
use Rattle.sqlite_schema.specs.declared.schema.Reference.{Reference}
use Rattle.sqlite_schema.specs.declared.schema.Action.TheVariants.{NoAction}
use Rattle.sqlite_schema.specs.declared.schema.Stamps.{Stamps}
use Rattle.sqlite_sql.specs.declared.ops.BinaryOp.TheVariants.{Compare, Or}
use Rattle.sqlite_sql.specs.declared.ops.CompareOp.TheVariants.{Eq, Ge, Gt}
use Rattle.sqlite_sql.specs.Term.{lit, col, op2}

-- id INTEGER PRIMARY KEY
abbrev pub column_key : Column
column_key =
    record { name = codes "id"; kind = Integer; is_strict = true; not_null = false; default = Null; collation = Binary }

-- a column of a STRICT table that is NOT NULL
abbrev pub needed : List ℕ → Kind → Column
needed name kind =
    record { name = name; kind = kind; is_strict = true; not_null = true; default = Null; collation = Binary }

abbrev pub no_stamps : Stamps
no_stamps = record { places = []; terms = []; formats = [] }

abbrev pub reference : ℕ → List ℕ → List ℕ → Reference
reference column parent key = record {
  columns = column ∷ [];
  parent = parent;
  parent_columns = key ∷ [];
  on_delete = NoAction;
  on_update = NoAction;
  is_deferred = false;
}

-- a table with only these columns: without keys, checks and references
abbrev pub table_of : List ℕ → List Column → Table
table_of name columns = record {
  name = name;
  tree = 0;
  columns = columns;
  key = None;
  primary = [];
  uniques = [];
  orders = [];
  checks = [];
  references = [];
  computed = [];
  stamps = no_stamps;
  is_counted = false;
}

-- its first column is its INTEGER PRIMARY KEY
abbrev pub keyed : Table → Table
keyed table = record table { key = Some 0; primary = 0 ∷ [] }

-- these columns are UNIQUE together
abbrev pub unique : List ℕ → Table → Table
unique columns table = record table { uniques = columns ∷ []; orders = plain ∷ [] }

-- a table for members' requests: an id, UNIQUE (member, token), and these columns
abbrev pub handed_in : List ℕ → List Column → Table
handed_in name columns =
    unique (2 ∷ 3 ∷ [])
    (keyed (table_of name (column_key ∷ needed (codes "member") Text ∷ needed (codes "token") Text ∷ columns)))

abbrev pub layout_table : Table
layout_table = table_of (codes "layout") (needed (codes "version") Integer ∷ [])

abbrev pub deposits_table : Table
deposits_table =
    record (handed_in (codes "deposits")
    (needed (codes "rule") Text ∷ needed (codes "population") Integer ∷ needed (codes "rle") Blob ∷ [])) {
      checks = op2 (Compare Ge Binary) (col 1 5) (lit (Int (pos 0))) ∷ [];
    }

abbrev pub census_numbers : List Column
census_numbers =
    needed (codes "deposit") Integer ∷ needed (codes "gens") Integer ∷ needed (codes "lim") Integer
    ∷ needed (codes "clusters") Integer ∷ needed (codes "unresolved") Integer ∷ []

abbrev pub censuses_table : Table
censuses_table = record (handed_in (codes "censuses") census_numbers) {
  references = reference 4 (codes "deposits") (codes "id") ∷ [];
}

abbrev pub census_rows_table : Table
census_rows_table =
    record (unique (1 ∷ 2 ∷ []) (table_of (codes "census_rows")
    (needed (codes "census") Integer ∷ needed (codes "code") Text ∷ needed (codes "n") Integer ∷ []))) {
      primary = 1 ∷ 2 ∷ [];
      checks = op2 (Compare Gt Binary) (col 1 3) (lit (Int (pos 0))) ∷ [];
      references = reference 1 (codes "censuses") (codes "id") ∷ [];
    }

abbrev pub census_flags_table : Table
census_flags_table =
    record (keyed (table_of (codes "census_flags")
    (record column_key { name = codes "census" } ∷ needed (codes "steady") Integer ∷ []))) {
      checks =
          op2 Or (op2 (Compare Eq Binary) (col 1 2) (lit (Int (pos 0))))
          (op2 (Compare Eq Binary) (col 1 2) (lit (Int (pos 1)))) ∷ [];
      references = reference 0 (codes "censuses") (codes "id") ∷ [];
    }

abbrev pub key_index : List ℕ → ℕ → ℕ → List ℕ → Index
key_index name tree table columns =
    record { name = name; tree = tree; table = table; columns = columns; order = plain; is_unique = true }

abbrev pub key_indexes : List Index
key_indexes =
    key_index (codes "sqlite_autoindex_deposits_1") 2 1 (2 ∷ 3 ∷ [])
    ∷ key_index (codes "sqlite_autoindex_censuses_1") 4 3 (2 ∷ 3 ∷ [])
    ∷ key_index (codes "sqlite_autoindex_census_rows_1") 6 5 (1 ∷ 2 ∷ []) ∷ []

-- schema version 1: the first four tables, created in this order
abbrev pub first_schema : Schema
first_schema = record {
  tables =
      layout_table ∷ record deposits_table { tree = 1 } ∷ record censuses_table { tree = 3 }
      ∷ record census_rows_table { tree = 5 } ∷ [];
  indexes = key_indexes;
  views = [];
}

-- schema version 2: after the fifth was made too
abbrev pub archive_schema : Schema
archive_schema = record {
  tables =
      layout_table ∷ record deposits_table { tree = 1 } ∷ record censuses_table { tree = 3 }
      ∷ record census_rows_table { tree = 5 } ∷ record census_flags_table { tree = 7 } ∷ [];
  indexes = key_indexes;
  views = [];
}

abbrev pub no_schema : Schema
no_schema = record { tables = []; indexes = []; views = [] }
