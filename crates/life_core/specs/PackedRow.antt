-- Rows of packed words as rows of places: bit i of word j, the lowest bit first, is the place 64 j + i. Which places of
-- a row are live one generation later, with all places outside the three rows dead.
use Rattle.std.specs.Prelude.{ℕ, ◌+◌, ◌-◌, ◌/◌, ◌%◌, List, slice_index_or, cond, nat_lt, nat_eq, Bool, if◌then◌else◌}
use Rattle.std.specs.Int.{bit_at}
use Rattle.life_core.specs.Rule.{RuleSets, lives_at}

-- 1 if a test holds
abbrev pub one_if : Bool → ℕ
one_if b = if b then 1 else 0

-- the bit at a place of a row of words; 0 past the row
abbrev pub place : List ℕ → ℕ → ℕ
place ws p = bit_at (slice_index_or ws (p / 64) 0) (p % 64)

-- the bit one place before; 0 before the row
abbrev pub place_before : List ℕ → ℕ → ℕ
place_before ws p = cond (nat_lt 0 p) (place ws (p - 1)) 0

-- how many of the eight places around place p of the middle row are set
abbrev pub round_count : List ℕ → List ℕ → List ℕ → ℕ → ℕ
round_count above here below p =
    place_before above p + (place above p + (place above (p + 1)
    + (place_before here p + (place here (p + 1) + (place_before below p + (place below p + place below (p + 1)))))))

-- 1 if place p of the middle row is live next, with all places outside the three rows dead
abbrev pub next_place : RuleSets → List ℕ → List ℕ → List ℕ → ℕ → ℕ
next_place r above here below p = one_if (lives_at r (nat_eq (place here p) 1) (round_count above here below p))
