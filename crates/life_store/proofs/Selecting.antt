-- The rows of one table that the terms of a query pick, and what it shows of each (SQLite's "SELECT").
use Rattle.std.specs.Prelude.{Bool, List, [], ◌∷◌, filter}
use Rattle.std.specs.List.{list_all}
use Rattle.sqlite_value.specs.Order.{Row}
use Rattle.sqlite_sql.specs.Term.{Term, eval_all, holds}

abbrev pub is_picked : List Term → Row → Row → Bool
is_picked terms params row = list_all (holds (params ∷ row ∷ [])) terms

abbrev pub picked : List Term → Row → List Row → List Row
picked terms params = filter (is_picked terms params)

abbrev pub shows : List Term → Row → Row → Row
shows project params row = eval_all project (params ∷ row ∷ [])
