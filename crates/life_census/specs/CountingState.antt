-- The state while codes are counted.
use Rattle.std.specs.Prelude.{◌≡◌, ℕ, ◌+◌, ◌<◌, ◌≤◌, List, [], ◌∷◌, length, slice_index_or}
use Rattle.std.specs.declared.cmp.Ordering.TheVariants.{Less, Equal, Greater}
use Rattle.std.specs.Ordering.{match_ordering}
use Rattle.life_census.specs.declared.tally_rows.Row.{Row}
use Rattle.life_census.specs.Counting.{row_cmp}

-- counts one more text: its row is increased, or a new row with the count 1 goes where it belongs
abbrev pub one_more : List (List ℕ × ℕ) → List ℕ → List (List ℕ × ℕ)
one_more [] t = (t, 1) ∷ []
one_more (e ∷ es) t = match_ordering (row_cmp t e.0) ((t, 1) ∷ e ∷ es) ((e.0, e.1 + 1) ∷ es) (e ∷ one_more es t)

-- the rows before place i have smaller codes
abbrev pub AreBelow : {A : Type 0} → List (Row A) → List ℕ → ℕ → Type 0
AreBelow {A} rows t i = (k : ℕ) (d : Row A) → k < i → row_cmp t (slice_index_or rows k d).code ≡ Greater

-- the row at place i has this code
abbrev pub IsRowOf : {A : Type 0} → List (Row A) → List ℕ → ℕ → Type 0
IsRowOf {A} rows t i = (i < length rows) × ((d : Row A) → row_cmp t (slice_index_or rows i d).code ≡ Equal)

-- the row at place i has a greater code, or there is no such row
abbrev pub IsPlaceFor : {A : Type 0} → List (Row A) → List ℕ → ℕ → Type 0
IsPlaceFor {A} rows t i =
    (i ≤ length rows) × (i < length rows → (d : Row A) → row_cmp t (slice_index_or rows i d).code ≡ Less)
