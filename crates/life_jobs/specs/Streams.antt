-- How a job uses its streams.
use Rattle.std.specs.Prelude.{◌≡◌, Bool, ℕ, List, Option, None, Some, Result, Ok, Err, OnOk}
use Rattle.life_rle.specs.File.{file}
use Rattle.life_rle.specs.Record.{Contents}
use Rattle.life_rle.specs.Stream.{Appends, AppendsSome, incremented, FailsLast, EndsLast, ConsumesUpTo}
use Rattle.life_jobs.specs.declared.stop.Stop.{Stop}
use Rattle.life_jobs.specs.declared.stop.Stop.TheVariants.{BadPattern, Unreadable, Unavailable, Unwritable}

-- ---- the input

-- Reading gives the record of these bytes, or their fault. A failed stream or a lack of memory proves nothing about
-- them.
abbrev pub ReadsBytes : List ℕ → Result Contents Stop → Type 0
ReadsBytes bytes (Ok r) = file bytes ≡ Ok r
ReadsBytes bytes (Err (BadPattern fault)) = file bytes ≡ Err fault
ReadsBytes bytes (Err Unreadable) = Unit {0}
ReadsBytes bytes (Err Unavailable) = Unit {0}
ReadsBytes bytes (Err stop) = ⊥

-- the same, if the input bytes are known
abbrev pub ReadsKnown : Option (List ℕ) → Result Contents Stop → Type 0
ReadsKnown None answer = Unit {0}
ReadsKnown (Some bytes) answer = ReadsBytes bytes answer

-- a stop that reading may cause
abbrev pub IsOfInput : Stop → Type 0
IsOfInput (BadPattern fault) = Unit {0}
IsOfInput Unreadable = Unit {0}
IsOfInput Unavailable = Unit {0}
IsOfInput stop = ⊥

-- the answer is Unreadable if and only if a read failed, and then only one did
abbrev ReportsFailures : {X : Type 0} → ℕ → ℕ → Result X Stop → Type 0
ReportsFailures old new (Ok x) = new ≡ old
ReportsFailures old new (Err Unreadable) = new ≡ incremented old
ReportsFailures old new (Err stop) = new ≡ old

-- How a job uses its input, from its bytes and the counts of failed reads and of ends, before and after. It reads at
-- most one byte more than a file may have, and nothing after the end.
pub record TakesFile {X : Type 0} (known_old known_new : Option (List ℕ)) (failed_old failed_new : ℕ)
    (ends_old ends_new last : ℕ) (answer : Result X Stop) : Type 0 where
  pub on_failed_take : ReportsFailures failed_old failed_new answer
  pub few : ConsumesUpTo 1048577 known_old known_new
  pub ended : EndsLast ends_old ends_new last

-- ---- the output

-- The text was written, or a prefix of it before a write that failed. Running out of memory proves nothing about the
-- text.
abbrev pub PutsText : Option (List ℕ) → Option (List ℕ) → List ℕ → Result (Unit {0}) Stop → Type 0
PutsText old new bytes (Ok done) = Appends old new bytes
PutsText old new bytes (Err Unwritable) = AppendsSome old new bytes
PutsText old new bytes (Err Unavailable) = Unit {0}
PutsText old new bytes (Err stop) = ⊥

-- after a stop the output is unchanged, unless a write failed
abbrev IsSilent : {O : Type 0} → O → O → Result (Unit {0}) Stop → Type 0
IsSilent old new (Ok done) = Unit {0}
IsSilent old new (Err Unwritable) = Unit {0}
IsSilent old new (Err stop) = new ≡ old

-- How a job uses its output, from the counts of failures before and after, and whether the last write failed. If the
-- job succeeds, no write failed. It answers Unwritable only if one did, and writes nothing after it.
pub record PutsOnce {O : Type 0} (old new : O) (failed_old failed_new : ℕ) (last : Bool)
    (answer : Result (Unit {0}) Stop) : Type 0 where
  pub silent : IsSilent old new answer
  pub put : OnOk answer (failed_new ≡ failed_old)
  pub unwritable : answer ≡ Err Unwritable → FailsLast failed_old failed_new last
