-- Two tables are equal if both of these hold.
use Rattle.std.specs.Prelude.{◌≡◌}
use Rattle.sqlite_schema.specs.declared.schema.Table.{Table}

-- their columns and keys, with the number of the tree
pub record HaveSameColumns (a b : Table) : Type 0 where
  pub name : a.name ≡ b.name
  pub tree : a.tree ≡ b.tree
  pub columns : a.columns ≡ b.columns
  pub key : a.key ≡ b.key
  pub primary : a.primary ≡ b.primary
  pub counted : a.is_counted ≡ b.is_counted

-- their constraints, and their defaults that are not literals
pub record HaveSameRules (a b : Table) : Type 0 where
  pub uniques : a.uniques ≡ b.uniques
  pub orders : a.orders ≡ b.orders
  pub checks : a.checks ≡ b.checks
  pub references : a.references ≡ b.references
  pub computed : a.computed ≡ b.computed
  pub stamps : a.stamps ≡ b.stamps
