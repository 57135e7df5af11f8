-- The rows in which deposits and censuses are stored: the tables of docs/FORMATS.md, column by column.
-- As in SQLite's file format ("Representation Of SQL Tables") a row begins with its rowid, and where a column is that
-- id (INTEGER PRIMARY KEY), its own place holds NULL.
use Rattle.std.specs.Prelude.{◌≡◌, ℕ, ◌+◌, pos, Ok, Bool, if◌then◌else◌, List, [], ◌∷◌, ◌++◌, map}
use Rattle.std.specs.FinSet as set
use Rattle.sqlite_value.specs.declared.value.Value.TheVariants.{Null, Int, Text, Blob}
use Rattle.sqlite_value.specs.Order.{Row}
use Rattle.life_core.specs.Rule.{IsRule}
use Rattle.life_core.specs.RuleText.{rule_text}
use Rattle.life_rle.specs.File.{kept}
use Rattle.life_rle.specs.Writer.{text}
use Rattle.life_store.specs.declared.kept.Deposit.{Deposit}
use Rattle.life_store.specs.Kept.{Tallied}

-- rows under the ids from this one on, without gaps
abbrev pub rows_by : {X : Type 0} → (X → Row) → ℕ → List X → List Row
rows_by f id [] = []
rows_by f id (x ∷ xs) = (Int (pos id) ∷ f x) ∷ rows_by f (id + 1) xs

-- deposits: id (in front), member, token, rule, population, rle
abbrev pub deposit_cells : Deposit → Row
deposit_cells d =
    Null ∷ Text d.member ∷ Text d.token ∷ Text (rule_text d.content.rule) ∷ Int (pos (set.len d.content.cells))
    ∷ Blob (text d.content) ∷ []

-- a deposit that can be stored: its rule has no B0, and reading its file gives the same record again
pub record IsFiled (d : Deposit) : Type 0 where
  pub rule : IsRule d.content.rule
  pub again : kept (text d.content) ≡ Ok d.content

-- censuses: id (in front), member, token, deposit, gens, lim, clusters, unresolved
abbrev pub census_cells : Tallied → Row
census_cells t =
    Null ∷ Text t.census.member ∷ Text t.census.token ∷ Int (pos t.census.deposit) ∷ Int (pos t.census.generation)
    ∷ Int (pos t.census.limit)
    ∷ Int (pos t.tally.total) ∷ Int (pos t.tally.unresolved) ∷ []

-- census_rows: census, code, n. This table has no column for its ids.
abbrev pub count_cells : ℕ × (List ℕ × ℕ) → Row
count_cells r = Int (pos r.0) ∷ Text r.1.0 ∷ Int (pos r.1.1) ∷ []

-- true is stored as 1, and false as 0
abbrev pub flag_number : Bool → ℕ
flag_number b = if b then 1 else 0

-- census_flags: census (in front), steady
abbrev pub flag_cells : Tallied → Row
flag_cells t = Null ∷ Int (pos (flag_number t.steady)) ∷ []

-- the rows of a tally, each with the number of its census
abbrev pub tagged : ℕ → List (List ℕ × ℕ) → List (ℕ × (List ℕ × ℕ))
tagged id rows = map (λ row. (id, row)) rows

-- the tally rows of all censuses in turn; the first census has the number `id`
abbrev pub counts_from : ℕ → List Tallied → List (ℕ × (List ℕ × ℕ))
counts_from id [] = []
counts_from id (t ∷ ts) = tagged id t.tally.rows ++ counts_from (id + 1) ts
