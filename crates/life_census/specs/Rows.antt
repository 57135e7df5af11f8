-- The contents of a tally.
use Rattle.std.specs.Prelude.{ℕ, List, refl}
use Rattle.std.specs.Coded.{Coded, code_by, coded×, coded_ℕ, coded_list}
use Rattle.life_census.specs.declared.tally_rows.Row.{Row}

-- a row as its code and its count
abbrev pub row_seen : {A : Type 0} → Row A → List ℕ × ℕ
row_seen r = (r.code, r.count)

-- the counts of a census: codes with their counts, the number of clusters without a code, and the number of all
-- clusters
pub record TallyCounts : Type 0 where
  pub rows : List (List ℕ × ℕ)
  pub unresolved : ℕ
  pub total : ℕ

-- encodes the record as nested pairs
abbrev pub coded_counts : Coded TallyCounts
coded_counts =
    code_by (List (List ℕ × ℕ) × (ℕ × ℕ))
    (coded× (coded_list (coded× (coded_list coded_ℕ) coded_ℕ)) (coded× coded_ℕ coded_ℕ))
    (λ t. (t.rows, (t.unresolved, t.total)))
    (λ p. record { rows = p.0; unresolved = p.1.0; total = p.1.1 })
    (λ _. refl)
