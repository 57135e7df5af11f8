-- The trees of an archive that was given up for its store.
use Rattle.std.specs.Prelude.{◌≡◌, false, IsTrue}
use Rattle.sqlite_trees.specs.Tree.{Trees}
use Rattle.sqlite_catalog.specs.Listing.{IsSound}
use Rattle.life_store.specs.Tables.{Tables}

-- The database was healthy, with no transaction open, and its tables were these trees, which obey its schema. The trees
-- numbered in between are indexes.
pub record AreTreesOf (t : Tables) (trees : Trees) : Type 0 where
  pub healthy : IsTrue t.is_healthy
  pub committed : t.in_transaction ≡ false
  pub obeys : IsSound t.schema trees
  pub layout : t.layout ≡ trees 0
  pub deposits : t.deposits ≡ trees 1
  pub censuses : t.censuses ≡ trees 3
  pub census_rows : t.census_rows ≡ trees 5
  pub census_flags : t.census_flags ≡ trees 7
