-- The contents of an archive of schema version 1, and the same contents after an opening has migrated it to version 2
-- (the tables of docs/FORMATS.md).
use Rattle.std.specs.Prelude.{◌≡◌, ◌<◌, ◌^◌, ◌↔◌, ℕ, true, false, pos, List, [], ◌∷◌, length, map, Some, IsTrue}
use Rattle.std.specs.List.{AllByRecursion}
use Rattle.sqlite_value.specs.declared.value.Value.TheVariants.{Int}
use Rattle.sqlite_value.specs.Order.{Row}
use Rattle.sqlite_trees.specs.Tree.{Trees}
use Rattle.sqlite_catalog.specs.Listing.{IsSound}
use Rattle.life_core.specs.Pattern.{Cells}
use Rattle.life_core.specs.Generations.{generation_of}
use Rattle.life_rle.specs.Record.{Contents}
use Rattle.life_census.specs.Rows.{TallyCounts}
use Rattle.life_census.specs.Steady.{IsSteady}
use Rattle.life_store.specs.declared.kept.Deposit.{Deposit}
use Rattle.life_store.specs.declared.kept.Census.{Census}
use Rattle.life_store.specs.Kept.{Kept, Tallied, numbered}
use Rattle.life_store.specs.Layout.{first_schema, archive_schema}
use Rattle.life_store.specs.Stored.{IsFiled, rows_by, deposit_cells, census_cells, count_cells, counts_from}
use Rattle.life_store.specs.Tables.{Tables, tables_in, HasOrder, Holds}

-- the one row of `layout`, whose id is 1 too: version 1
abbrev pub version_1 : List Row
version_1 = (Int (pos 1) ∷ Int (pos 1) ∷ []) ∷ []

-- The tables of schema version 1 represent exactly these deposits and these censuses, each with its tally
-- (Tables.antt). There is no table of flags, so `k` may have any flags.
pub record HoldsFirst (t : Tables) (k : Kept) : Type 0 where
  pub schema : t.schema ≡ first_schema
  pub layout : t.layout ≡ version_1
  pub deposits : t.deposits ≡ rows_by deposit_cells 1 k.deposits
  pub censuses : t.censuses ≡ rows_by census_cells 1 k.censuses
  pub census_rows : t.census_rows ≡ rows_by count_cells 1 (counts_from 1 k.censuses)
  pub filed : AllByRecursion IsFiled k.deposits
  pub ordered : AllByRecursion (λ t. HasOrder t.tally) k.censuses
  pub few_deposits : length k.deposits < 2 ^ 63
  pub few_censuses : length k.censuses < 2 ^ 63

-- generation n of a deposit's pattern; generation 0 is the pattern itself
abbrev pub generation_in : Contents → ℕ → Cells
generation_in c n = generation_of c.rule c.cells n

-- The deposit of the census exists, and the flag is true if and only if the counted generation is steady under the
-- limit.
pub record IsFlagged (ds : List Deposit) (t : Tallied) : Type 0 where
  pub deposit : Deposit
  pub is : numbered ds t.census.deposit ≡ Some deposit
  pub flag : IsTrue t.steady ↔ IsSteady deposit.content.rule
      (generation_in deposit.content t.census.generation) t.census.limit

-- a census and its tally, without the flag
abbrev pub unflagged : Tallied → Census × TallyCounts
unflagged t = (t.census, t.tally)

-- The tables represent the same deposits and the same censuses with the same tallies, and each flag is computed from
-- its census's deposit.
pub record Migrated (t : Tables) (k : Kept) : Type 0 where
  pub censuses : List Tallied
  pub same : map unflagged censuses ≡ map unflagged k.censuses
  pub flagged : AllByRecursion (IsFlagged k.deposits) censuses
  pub holds : Holds t (record k { censuses = censuses })

-- The trees obey the archive's tables, with rows that represent the same.
pub record TreesMigrated (db : Trees) (k : Kept) : Type 0 where
  pub sound : IsSound archive_schema db
  pub migrated : Migrated (tables_in true 0 false (record { schema = archive_schema; trees = db })) k
