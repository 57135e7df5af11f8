-- Used only by contracts inside the crate: the rows of an answer, with the columns in the order of the queries.
use Rattle.std.specs.Prelude.{◌≡◌, ◌⊎◌, ℕ, zero, suc, pos, Bool, List, [], ◌∷◌, Option, None, Some}
use Rattle.std.specs.FinSet as set
use Rattle.sqlite_value.specs.declared.value.Value.TheVariants.{Null, Int, Text, Blob}
use Rattle.sqlite_value.specs.Order.{Row}
use Rattle.life_core.specs.RuleText.{rule_text}
use Rattle.life_rle.specs.Writer.{text}
use Rattle.life_store.specs.declared.kept.Deposit.{Deposit}
use Rattle.life_store.specs.declared.kept.Listed.{Listed}
use Rattle.life_store.specs.Kept.{Tallied}
use Rattle.life_store.specs.Stored.{IsFiled, flag_number}

-- the greatest of this many numbers: one row, or no row if there are no numbers
abbrev pub newest_rows : ℕ → List Row
newest_rows zero = []
newest_rows (suc n) = (Int (pos (suc n)) ∷ []) ∷ []

abbrev pub deposit_shown : ℕ × Deposit → Row
deposit_shown p =
    Int (pos p.0) ∷ Text p.1.member ∷ Text p.1.token ∷ Text (rule_text p.1.content.rule)
    ∷ Int (pos (set.len p.1.content.cells)) ∷ Blob (text p.1.content) ∷ []

-- the first row shows the deposit, or there is no row
abbrev pub ShowsDeposit : Option (ℕ × Deposit) → List Row → Type 0
ShowsDeposit None rows = rows ≡ []
ShowsDeposit (Some p) rows = IsFiled p.1 × (more : List Row) × (rows ≡ deposit_shown p ∷ more)

abbrev pub line_shown : Listed → Row
line_shown l = Int (pos l.id) ∷ Text l.member ∷ Int (pos l.population) ∷ Text l.rule ∷ []

abbrev pub census_shown : ℕ × Tallied → Row
census_shown p =
    Int (pos p.0) ∷ Text p.1.census.member ∷ Text p.1.census.token ∷ Int (pos p.1.census.deposit)
    ∷ Int (pos p.1.census.generation) ∷ Int (pos p.1.census.limit)
    ∷ Int (pos p.1.tally.total) ∷ Int (pos p.1.tally.unresolved) ∷ []

-- the first row shows the census, or there is no row
abbrev pub ShowsCensus : Option (ℕ × Tallied) → List Row → Type 0
ShowsCensus None rows = rows ≡ []
ShowsCensus (Some p) rows = (more : List Row) × (rows ≡ census_shown p ∷ more)

-- the first row shows the flag, or there is no row
abbrev pub ShowsFlag : Option Bool → List Row → Type 0
ShowsFlag None rows = rows ≡ []
ShowsFlag (Some b) rows = (more : List Row) × (rows ≡ (Int (pos (flag_number b)) ∷ []) ∷ more)

abbrev pub row_shown : List ℕ × ℕ → Row
row_shown row = Text row.0 ∷ Int (pos row.1) ∷ []

-- one row shows the total, or NULL for a sum of no rows
abbrev pub ShowsTotal : ℕ → List Row → Type 0
ShowsTotal n rows = (rows ≡ (Int (pos n) ∷ []) ∷ []) ⊎ ((rows ≡ (Null ∷ []) ∷ []) × (n ≡ 0))
