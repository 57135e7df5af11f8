-- Rules as flags of the counts from 0 to 8.
use Rattle.std.specs.Prelude.{◌≡◌, ℕ, ◌+◌, Bool, false, cond, List, [], ◌∷◌, map, length, slice_index_or}
use Rattle.std.specs.FinSet as set
use Rattle.life_core.specs.Rule.{Counts}

-- the counts from k on whose flags are set
abbrev pub flagged : ℕ → List Bool → List ℕ
flagged k [] = []
flagged k (b ∷ bs) = cond b (k ∷ flagged (k + 1) bs) (flagged (k + 1) bs)

-- the counts from 0 on whose flags are set
abbrev pub flagged_counts : List Bool → Counts
flagged_counts bs = set.from_list (flagged 0 bs)

-- the flags of the nine counts
unfoldable pub flags_of : Counts → List Bool
flags_of s = map (set.contains s) (0 ∷ 1 ∷ 2 ∷ 3 ∷ 4 ∷ 5 ∷ 6 ∷ 7 ∷ 8 ∷ [])

-- valid flags of a rule: nine of each, and no birth without live neighbours
pub record AreRuleFlags (birth survival : List Bool) : Type 0 where
  pub births : length birth ≡ 9
  pub survivals : length survival ≡ 9
  pub quiet : slice_index_or birth 0 false ≡ false
