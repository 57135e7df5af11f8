-- Reading the rows of a table in order: the state of the store, and the result.
use Rattle.std.specs.Prelude.{◌≡◌, ◌<◌, ◌≤◌, ◌^◌, ℕ, false, List, Some}
use Rattle.sqlite_value.specs.Order.{Row}
use Rattle.sqlite_trees.specs.declared.store.Store.{Ghosts}
use Rattle.sqlite_trees.specs.Tree.{Trees}
use Rattle.sqlite_trees.specs.View.{View, doubt}
use Rattle.life_check.specs.declared.walk.Found.{Found}
use Rattle.life_check.specs.declared.walk.Found.TheVariants.{All, Wrong, Misnamed}
use Rattle.life_store.specs.Stored.{IsFiled, deposit_cells}
use Rattle.life_check.specs.ReadState.{IsReadUpTo, AreOf, AreNone, IsNamed, IsFirstWrong}

-- If the disk has returned everything as it was written, it had done so before too. A crash now leaves only states that
-- it could have left before.
pub record IsCalm {S : Type 0} (g : Ghosts S) (old new : S) : Type 0 where
  pub clean : doubt (g.view old).is_clean ≤ doubt (g.view new).is_clean
  pub outcomes : (db : Trees) → g.recovers new db → g.recovers old db
  pub numbered : (g.view new).is_numbered ≡ (g.view old).is_numbered

-- the trees are unchanged, and were sound
pub record KeepsTrees (old new : View) : Type 0 where
  pub trees : new.trees ≡ old.trees
  pub unbroken : old.is_broken ≡ false

-- The result for the table of deposits. All: the rows represent n valid deposits, and n is an SQL integer. Wrong: an
-- archive never has these rows. Misnamed: valid requests never make them. Both name the first wrong row.
abbrev pub FindsDeposits : List Row → Found → Type 0
FindsDeposits rows (All n) = AreOf deposit_cells IsNamed rows n × (n < 2 ^ 63)
FindsDeposits rows (Wrong n) =
    AreNone deposit_cells IsFiled rows × IsFirstWrong deposit_cells IsNamed IsFiled rows n
FindsDeposits rows (Misnamed n) =
    AreNone deposit_cells IsNamed rows × IsFirstWrong deposit_cells IsNamed IsNamed rows n

-- The cursor is after the first n rows of the table, which represent n elements.
pub record HasWalked {X : Type 0} (f : X → Row) (P : X → Type 0) (cursor table n : ℕ) (old now : View) : Type 0 where
  pub kept : KeepsTrees old now
  pub left : List Row
  pub at : now.cursors cursor ≡ Some left
  pub read : IsReadUpTo f P n (old.trees table) left
