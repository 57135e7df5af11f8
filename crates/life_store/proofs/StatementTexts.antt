-- The texts of the statements, and what they compile to under the tables of Layout.antt (SQLite's "CREATE TABLE",
-- "SELECT", "INSERT" and "UPDATE").
use Rattle.std.specs.Prelude.{true, false, [], ◌∷◌, Some, None, codes, List, ℕ, pos, negsuc}
use Rattle.sqlite_value.specs.declared.keys.Collation.TheVariants.{Binary}
use Rattle.sqlite_value.specs.declared.value.Value.TheVariants.{Null, Int}
use Rattle.sqlite_value.specs.Keys.{ascending}
use Rattle.sqlite_value.specs.declared.keys.Key.{Key}
use Rattle.sqlite_sql.specs.declared.ops.BinaryOp.TheVariants.{Compare}
use Rattle.sqlite_sql.specs.declared.ops.CompareOp.TheVariants.{Eq, Gt}
use Rattle.sqlite_sql.specs.declared.aggregate.AggregateOp.TheVariants.{Sum}
use Rattle.sqlite_sql.specs.Term.{Term, lit, col, op2}
use Rattle.sqlite_sql.specs.Group.{Aggregate}
use Rattle.sqlite_sql.specs.Query.{Query, Join, inner, end}

-- ---- the tables

abbrev pub layout_text : List ℕ
layout_text = codes "CREATE TABLE layout (version INTEGER NOT NULL) STRICT"

abbrev pub deposits_text : List ℕ
deposits_text =
    codes
    "CREATE TABLE deposits (id INTEGER PRIMARY KEY, member TEXT NOT NULL, token TEXT NOT NULL, rule TEXT NOT NULL, population INTEGER NOT NULL CHECK (population >= 0), rle BLOB NOT NULL, UNIQUE (member, token)) STRICT"

abbrev pub censuses_text : List ℕ
censuses_text =
    codes
    "CREATE TABLE censuses (id INTEGER PRIMARY KEY, member TEXT NOT NULL, token TEXT NOT NULL, deposit INTEGER NOT NULL REFERENCES deposits (id), gens INTEGER NOT NULL, lim INTEGER NOT NULL, clusters INTEGER NOT NULL, unresolved INTEGER NOT NULL, UNIQUE (member, token)) STRICT"

abbrev pub census_rows_text : List ℕ
census_rows_text =
    codes
    "CREATE TABLE census_rows (census INTEGER NOT NULL REFERENCES censuses (id), code TEXT NOT NULL, n INTEGER NOT NULL CHECK (n > 0), PRIMARY KEY (census, code)) STRICT"

abbrev pub census_flags_text : List ℕ
census_flags_text =
    codes
    "CREATE TABLE census_flags (census INTEGER PRIMARY KEY REFERENCES censuses (id), steady INTEGER NOT NULL CHECK (steady IN (0, 1))) STRICT"

abbrev pub add_version_text : List ℕ
add_version_text = codes "INSERT INTO layout (version) VALUES (2)"

-- ---- deposits

abbrev pub newest_deposit_text : List ℕ
newest_deposit_text = codes "SELECT id FROM deposits ORDER BY id DESC LIMIT 1"

abbrev pub deposit_text : List ℕ
deposit_text = codes "SELECT id, member, token, rule, population, rle FROM deposits WHERE id = ?1 ORDER BY id"

abbrev pub find_deposit_text : List ℕ
find_deposit_text =
    codes "SELECT id, member, token, rule, population, rle FROM deposits WHERE member = ?1 AND token = ?2 ORDER BY id"

abbrev pub deposits_after_text : List ℕ
deposits_after_text = codes "SELECT id, member, population, rule FROM deposits WHERE id > ?1 ORDER BY id LIMIT 100"

abbrev pub add_deposit_text : List ℕ
add_deposit_text =
    codes "INSERT INTO deposits (id, member, token, rule, population, rle) VALUES (?1, ?2, ?3, ?4, ?5, ?6)"

-- ---- censuses

abbrev pub newest_census_text : List ℕ
newest_census_text = codes "SELECT id FROM censuses ORDER BY id DESC LIMIT 1"

abbrev pub census_text : List ℕ
census_text =
    codes "SELECT id, member, token, deposit, gens, lim, clusters, unresolved FROM censuses WHERE id = ?1 ORDER BY id"

abbrev pub find_census_text : List ℕ
find_census_text =
    codes
    "SELECT id, member, token, deposit, gens, lim, clusters, unresolved FROM censuses WHERE member = ?1 AND token = ?2 ORDER BY id"

abbrev pub rows_text : List ℕ
rows_text = codes "SELECT code, n FROM census_rows WHERE census = ?1 ORDER BY code"

abbrev pub total_text : List ℕ
total_text =
    codes
    "SELECT sum(n) FROM census_rows JOIN censuses ON census_rows.census = censuses.id JOIN deposits ON censuses.deposit = deposits.id WHERE rule = ?1 AND code = ?2"

abbrev pub add_census_text : List ℕ
add_census_text =
    codes
    "INSERT INTO censuses (id, member, token, deposit, gens, lim, clusters, unresolved) VALUES (?1, ?2, ?3, ?4, ?5, ?6, ?7, ?8)"

abbrev pub add_row_text : List ℕ
add_row_text = codes "INSERT INTO census_rows (census, code, n) VALUES (?1, ?2, ?3)"

abbrev pub flag_text : List ℕ
flag_text = codes "SELECT steady FROM census_flags WHERE census = ?1 ORDER BY census"

abbrev pub add_flag_text : List ℕ
add_flag_text = codes "INSERT INTO census_flags (census, steady) VALUES (?1, ?2)"

-- ---- their meaning

-- every row of an answer, from the first one on
abbrev pub all_rows : Term
all_rows = lit (Int (negsuc 0))

abbrev pub from_start : Term
from_start = lit (Int (pos 0))

-- so many rows of an answer
abbrev pub rows_up_to : ℕ → Term
rows_up_to n = lit (Int (pos n))

abbrev pub equals : Term → Term → Term
equals = op2 (Compare Eq Binary)

-- the highest first
abbrev pub descending : Key
descending = record { collation = Binary; descending = true }

abbrev pub plain_query : Join → List Term → List Term → Query
plain_query from filter project = record {
  from = from;
  filter = filter;
  group = None;
  project = project;
  distinct = false;
  collations = [];
  order = [];
  limit = all_rows;
  offset = from_start;
}

-- a query over the table with this tree, ordered by one of its columns
abbrev pub ordered_query : ℕ → List Term → List Term → Term → Key → Term → Query
ordered_query tree filter project column key limit =
    record (plain_query (inner tree end) filter project) { order = (column, key) ∷ []; limit = limit }

abbrev pub by_id : Term
by_id = col 1 0

abbrev pub id_column : List Term
id_column = col 1 0 ∷ []

abbrev pub newest_query : ℕ → Query
newest_query tree = ordered_query tree [] id_column by_id descending (rows_up_to 1)

abbrev pub has_token : List Term
has_token = equals (col 1 2) (col 0 0) ∷ equals (col 1 3) (col 0 1) ∷ []

abbrev pub has_id : List Term
has_id = equals (col 1 0) (col 0 0) ∷ []

abbrev pub is_after : List Term
is_after = op2 (Compare Gt Binary) (col 1 0) (col 0 0) ∷ []

abbrev pub deposit_columns : List Term
deposit_columns = col 1 0 ∷ col 1 2 ∷ col 1 3 ∷ col 1 4 ∷ col 1 5 ∷ col 1 6 ∷ []

abbrev pub listed_columns : List Term
listed_columns = col 1 0 ∷ col 1 2 ∷ col 1 5 ∷ col 1 4 ∷ []

abbrev pub census_columns : List Term
census_columns = col 1 0 ∷ col 1 2 ∷ col 1 3 ∷ col 1 4 ∷ col 1 5 ∷ col 1 6 ∷ col 1 7 ∷ col 1 8 ∷ []

abbrev pub of_census : List Term
of_census = equals (col 1 1) (col 0 0) ∷ []

abbrev pub row_columns : List Term
row_columns = col 1 2 ∷ col 1 3 ∷ []

abbrev pub flag_columns : List Term
flag_columns = col 1 2 ∷ []

abbrev pub by_code : Term
by_code = col 1 2

abbrev pub deposit_query : List Term → Query
deposit_query filter = ordered_query 1 filter deposit_columns by_id (ascending Binary) all_rows

abbrev pub deposits_after_query : Query
deposits_after_query = ordered_query 1 is_after listed_columns by_id (ascending Binary) (rows_up_to 100)

abbrev pub census_query : List Term → Query
census_query filter = ordered_query 3 filter census_columns by_id (ascending Binary) all_rows

abbrev pub rows_query : Query
rows_query = ordered_query 5 of_census row_columns by_code (ascending Binary) all_rows

abbrev pub flag_query : Query
flag_query = ordered_query 7 has_id flag_columns by_id (ascending Binary) all_rows

-- the three tables, each row of a tally with its census and that with its deposit
abbrev pub joined_tables : Join
joined_tables = inner 5 (inner 3 (inner 1 end))

abbrev pub joined_terms : List Term
joined_terms =
    equals (col 1 1) (col 2 0) ∷ equals (col 2 4) (col 3 0) ∷ equals (col 3 4) (col 0 0)
    ∷ equals (col 1 2) (col 0 1) ∷ []

abbrev pub sum_of_counts : Aggregate
sum_of_counts = record { op = Sum; distinct = false; collation = Binary; argument = col 1 3 }

-- one row: the aggregate over all matches
abbrev pub total_over : Join → List Term → Aggregate → Query
total_over from terms a = record (plain_query from terms (col 1 0 ∷ [])) {
  group = Some (record { keys = []; collations = []; aggregates = a ∷ []; having = [] });
}

abbrev pub total_query : Query
total_query = total_over joined_tables joined_terms sum_of_counts

abbrev pub id_names : List (List ℕ)
id_names = codes "id" ∷ []

abbrev pub deposit_names : List (List ℕ)
deposit_names = codes "id" ∷ codes "member" ∷ codes "token" ∷ codes "rule" ∷ codes "population" ∷ codes "rle" ∷ []

abbrev pub listed_names : List (List ℕ)
listed_names = codes "id" ∷ codes "member" ∷ codes "population" ∷ codes "rule" ∷ []

abbrev pub census_names : List (List ℕ)
census_names =
    codes "id" ∷ codes "member" ∷ codes "token" ∷ codes "deposit" ∷ codes "gens" ∷ codes "lim"
    ∷ codes "clusters" ∷ codes "unresolved" ∷ []

abbrev pub row_names : List (List ℕ)
row_names = codes "code" ∷ codes "n" ∷ []

abbrev pub flag_names : List (List ℕ)
flag_names = codes "steady" ∷ []

-- what each INSERT writes
abbrev pub deposit_terms : List Term
deposit_terms = col 0 0 ∷ lit Null ∷ col 0 1 ∷ col 0 2 ∷ col 0 3 ∷ col 0 4 ∷ col 0 5 ∷ []

abbrev pub census_terms : List Term
census_terms = col 0 0 ∷ lit Null ∷ col 0 1 ∷ col 0 2 ∷ col 0 3 ∷ col 0 4 ∷ col 0 5 ∷ col 0 6 ∷ col 0 7 ∷ []

abbrev pub row_terms : List Term
row_terms = lit Null ∷ col 0 0 ∷ col 0 1 ∷ col 0 2 ∷ []

abbrev pub flag_terms : List Term
flag_terms = col 0 0 ∷ lit Null ∷ col 0 1 ∷ []

-- ---- the layout

abbrev pub version_text : List ℕ
version_text = codes "SELECT * FROM layout ORDER BY 1 LIMIT 2"

abbrev pub rename_text : List ℕ
rename_text = codes "UPDATE layout SET version = 2"

abbrev pub layout_name : List ℕ
layout_name = codes "layout"

abbrev pub col_version : Term
col_version = col 1 1

abbrev pub version_column : List Term
version_column = col_version ∷ []

abbrev pub version_query : Query
version_query = ordered_query 0 [] version_column col_version (ascending Binary) (rows_up_to 2)

-- the id that the row has, and then the row that replaces it
abbrev pub renamed_columns : List Term
renamed_columns = col 1 0 ∷ col 1 0 ∷ lit (Int (pos 2)) ∷ []

abbrev pub rename_query : Query
rename_query = plain_query (inner 0 end) [] renamed_columns

abbrev pub flags_name : List ℕ
flags_name = codes "census_flags"

abbrev pub version_names : List (List ℕ)
version_names = codes "version" ∷ []
