-- The row that is found by its number.
use Rattle.std.proofs.Common.{◌≡◌, ◌∙◌, ℕ, ℤ, List, [], ◌∷◌, Bool, true, false, Result, Ok, Err, sym, ap}
use Rattle.std.specs.Prelude.{OnOk}
use Rattle.sqlite_value.specs.Order.{Row}
use Rattle.sqlite_trees.specs.View.{View, Finds, Advances}

pub none_there : (rows : List Row) (id : ℤ) (row other : Row) → Finds rows id row false → Finds rows id other true → ⊥
none_there rows id row other none there = let no : [] ≡ other ∷ [] = sym none ∙ there in cc

pub row_there : (rows : List Row) (id : ℤ) (row other : Row) → Finds rows id row true
    → Finds rows id other true → row ≡ other
row_there rows id row other found there = let same : row ∷ [] ≡ other ∷ [] = sym found ∙ there in cc

-- a step of a cursor leaves the trees
pub same_trees : (v w : View) (cursor : ℕ) (row : Row) (found : Bool) → Advances v w cursor row found
    → w.trees ≡ v.trees
same_trees v w cursor row true goes = ap (λ (x : View). x.trees) goes.2
same_trees v w cursor row false goes = ap (λ (x : View). x.trees) goes.1

pub then_ok : {A E P : Type 0} (r : Result A E) → P → OnOk r P
then_ok (Ok x) p = p
then_ok (Err e) p = tt
