-- Used only by contracts inside the crate: the contents that rows represent (Tables.antt), table by table, while a
-- transaction writes them.
use Rattle.std.specs.Prelude.{◌≡◌, ℕ, List, [], ◌∷◌, ◌++◌, Option, Result, OnOk, IsTrue}
use Rattle.sqlite_value.specs.Order.{Row}
use Rattle.sqlite_trees.specs.declared.store.Store.{Ghosts}
use Rattle.sqlite.specs.Effect.{Database}
use Rattle.sqlite.specs.Held.{Held, state}
use Rattle.sqlite.specs.State.{HasCleanDisk}
use Rattle.life_store.specs.declared.kept.Deposit.{Deposit}
use Rattle.life_store.specs.Kept.{Tallied, is_census_of, first_from}
use Rattle.life_store.specs.Layout.{archive_schema}
use Rattle.life_store.specs.Stored.{rows_by, deposit_cells, census_cells, count_cells, flag_cells, tagged}

-- the first census of the member and the token, with its number, its tally and its flag
abbrev pub tallied_by : List ℕ → List ℕ → List Tallied → Option (ℕ × Tallied)
tallied_by member token ts = first_from (λ t. is_census_of member token t.census) 1 ts

-- the rows of `layout`, and for each other table the list that its rows represent
pub record Parts : Type 0 where
  pub layout : List Row
  pub deposits : List Deposit
  pub censuses : List Tallied
  pub counts : List (ℕ × (List ℕ × ℕ))
  -- the censuses whose flags are stored
  pub flagged : List Tallied

pub record HoldsParts (db : Database) (p : Parts) : Type 0 where
  pub schema : db.schema ≡ archive_schema
  pub layout : db.trees 0 ≡ p.layout
  pub deposits : db.trees 1 ≡ rows_by deposit_cells 1 p.deposits
  pub censuses : db.trees 3 ≡ rows_by census_cells 1 p.censuses
  pub census_rows : db.trees 5 ≡ rows_by count_cells 1 p.counts
  pub census_flags : db.trees 7 ≡ rows_by flag_cells 1 p.flagged

-- a statement inside a transaction: if the rows represented `before` and it succeeds, they represent `after`
abbrev pub AddsInside : {S A E : Type 0} → Ghosts S → Held S → Held S → Result A E → Parts → Parts → Type 0
AddsInside g old new result before after =
    HasCleanDisk (state g new) → IsTrue old.in_transaction → HoldsParts (state g old).now before
    → OnOk result (IsTrue new.in_transaction × HoldsParts (state g new).now after)

-- appends a census, and the rows of its tally under its number
abbrev pub with_census : ℕ → Tallied → Parts → Parts
with_census id t p = record p { censuses = p.censuses ++ t ∷ []; counts = p.counts ++ tagged id t.tally.rows }

-- appends the flag of a census
abbrev pub with_flag : Tallied → Parts → Parts
with_flag t p = record p { flagged = p.flagged ++ t ∷ [] }
