-- The state while a haul is counted, soup by soup.
use Rattle.std.specs.Prelude.{◌≡◌, ◌≢◌, ℕ, ◌+◌, ◌<◌, ◌≤◌, List, fold, length, slice_index_or, Option, None, Some}
use Rattle.std.specs.declared.cmp.Ordering.TheVariants.{Less, Equal, Greater}
use Rattle.std.specs.FinMap as table
use Rattle.life_census.specs.Counting.{row_cmp}
use Rattle.life_hauls.specs.declared.haul_rows.Occurrences.{Occurrences}
use Rattle.life_hauls.specs.declared.haul_rows.HaulRow.{HaulRow}
use Rattle.life_hauls.specs.Hauls.{HaulCounts, more}

-- one cluster, in soup i
abbrev pub once : ℕ → Occurrences
once i = record { count = 1; first = i }

-- the rows after counting one more cluster with this code, in soup i
abbrev pub noted : ℕ → List (List ℕ × Occurrences) → List ℕ → List (List ℕ × Occurrences)
noted i rows t = table.put row_cmp t (more (table.find row_cmp t rows) (once i)) rows

-- the haul after counting one more cluster of soup i, with or without a code
abbrev pub with_code : ℕ → HaulCounts → Option (List ℕ) → HaulCounts
with_code i h None = record h { unresolved = Some (more h.unresolved (once i)); total = h.total + 1 }
with_code i h (Some t) = record h { rows = noted i h.rows t; total = h.total + 1 }

-- the haul after counting these clusters of soup i
abbrev pub with_codes : ℕ → HaulCounts → List (Option (List ℕ)) → HaulCounts
with_codes i h os = fold (with_code i) h os

-- the haul after counting the clusters of soup i and the soup itself
abbrev pub with_soup : ℕ → HaulCounts → List (Option (List ℕ)) → HaulCounts
with_soup i h os = record (with_codes i h os) { soups = h.soups + 1 }

-- the rows before place i have smaller codes
abbrev pub AreBelow : {A : Type 0} → List (HaulRow A) → List ℕ → ℕ → Type 0
AreBelow {A} rows t i = (k : ℕ) (d : HaulRow A) → k < i → row_cmp t (slice_index_or rows k d).code ≡ Greater

-- the rows from place i on have no smaller codes
abbrev pub AreNotBelow : {A : Type 0} → List (HaulRow A) → List ℕ → ℕ → Type 0
AreNotBelow {A} rows t i =
    (k : ℕ) (d : HaulRow A) → i ≤ k → k < length rows → row_cmp t (slice_index_or rows k d).code ≢ Greater

-- the row at place i has this code
abbrev pub IsRowOf : {A : Type 0} → List (HaulRow A) → List ℕ → ℕ → Type 0
IsRowOf {A} rows t i = (i < length rows) × ((d : HaulRow A) → row_cmp t (slice_index_or rows i d).code ≡ Equal)

-- the row at place i has a greater code, or there is no such row
abbrev pub IsPlaceFor : {A : Type 0} → List (HaulRow A) → List ℕ → ℕ → Type 0
IsPlaceFor {A} rows t i =
    (i ≤ length rows) × (i < length rows → (d : HaulRow A) → row_cmp t (slice_index_or rows i d).code ≡ Less)
