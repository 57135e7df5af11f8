-- The effect of a read and a write on the known bytes of a stream, and on its counts.
use Rattle.std.specs.Prelude.{◌≡◌, ℕ, zero, suc, ◌+◌, ◌-◌, ◌^◌, ◌<◌, ◌≤◌, ◌⊎◌, min, List, [], ◌++◌, length, take}
use Rattle.std.specs.Prelude.{Option, None, Some, Result, Ok, Err, ⊤, Bool, true, false, IsTrue}

-- the greatest count, at which counts stop: the greatest `u64`
abbrev pub last_count : ℕ
last_count = 2 ^ 64 - 1

-- the count after one more event
abbrev pub incremented : ℕ → ℕ
incremented n = min (n + 1) last_count

-- the count that a call leaves: only an Err raises it
abbrev pub count_after : {E : Type 0} → ℕ → Result ℕ E → ℕ
count_after n (Ok k) = n
count_after n (Err e) = incremented n

-- the count of ends after a read: only Ok of no bytes raises it
abbrev pub ends_after : {E : Type 0} → ℕ → Result ℕ E → ℕ
ends_after n (Ok zero) = incremented n
ends_after n (Ok (suc k)) = n
ends_after n (Err e) = n

-- whether a call failed
abbrev pub is_err : {E : Type 0} → Result ℕ E → Bool
is_err (Ok k) = false
is_err (Err e) = true

-- the end was not found, or was found once, by the last read
abbrev pub EndsLast : ℕ → ℕ → ℕ → Type 0
EndsLast old new last = (new ≡ old) ⊎ ((new ≡ incremented old) × (last ≡ 0))

-- how many bytes a read moved
abbrev pub bytes_moved : {E : Type 0} → Result ℕ E → ℕ
bytes_moved (Ok k) = k
bytes_moved (Err e) = 0

-- one write failed between these two counts, and it was the last write
abbrev pub FailsLast : ℕ → ℕ → Bool → Type 0
FailsLast old new last = (new ≡ incremented old) × IsTrue last

-- a call failed between these two counts; the greatest count does not show it
abbrev pub FailedBetween : ℕ → ℕ → Type 0
FailedBetween old new = (old < new) ⊎ (new ≡ last_count)

-- these bytes were removed from the front of the known ones
abbrev pub Consumes : Option (List ℕ) → Option (List ℕ) → List ℕ → Type 0
Consumes None new bytes = ⊤
Consumes (Some left) None bytes = ⊥
Consumes (Some left) (Some rest) bytes = left ≡ bytes ++ rest

-- at most this many bytes were removed from the front of the known ones
abbrev pub ConsumesUpTo : ℕ → Option (List ℕ) → Option (List ℕ) → Type 0
ConsumesUpTo most old new = (bytes : List ℕ) × (length bytes ≤ most) × Consumes old new bytes

-- these bytes were added at the end of the known ones
abbrev pub Appends : Option (List ℕ) → Option (List ℕ) → List ℕ → Type 0
Appends None new bytes = ⊤
Appends (Some put) None bytes = ⊥
Appends (Some put) (Some all) bytes = all ≡ put ++ bytes

-- the known bytes are used up
abbrev pub IsEnded : Option (List ℕ) → Type 0
IsEnded None = ⊤
IsEnded (Some left) = left ≡ []

-- a read: Ok(k) gives the next k bytes, and 0 into a nonempty space is the end; an Err moves no bytes
abbrev pub Takes : {E : Type 0} → Option (List ℕ) → Option (List ℕ) → Result ℕ E → List ℕ → Type 0
Takes old new (Ok k) space = Consumes old new (take k space) × (k ≡ 0 → 0 < length space → IsEnded old)
Takes old new (Err e) space = Consumes old new []

-- a write: Ok(k) wrote the first k bytes; an Err moves no bytes
abbrev pub Puts : {E : Type 0} → Option (List ℕ) → Option (List ℕ) → Result ℕ E → List ℕ → Type 0
Puts old new (Ok k) bytes = Appends old new (take k bytes)
Puts old new (Err e) bytes = Appends old new []

-- a prefix of these bytes was written
abbrev pub AppendsSome : Option (List ℕ) → Option (List ℕ) → List ℕ → Type 0
AppendsSome old new bytes = (front : List ℕ) × (rest : List ℕ) × (bytes ≡ front ++ rest) × Appends old new front
