-- Results of a function that reads a file from a stream.
use Rattle.std.specs.Prelude.{◌≡◌, ℕ, List, Option, None, Some, Result, Ok, Err}
use Rattle.life_rle.specs.declared.rle_fault.ReadFault.{ReadFault}
use Rattle.life_rle.specs.declared.rle_fault.ReadFault.TheVariants.{Rle, Unreadable}
use Rattle.life_rle.specs.RleFault.{Fails}
use Rattle.life_rle.specs.Stream.{incremented}
use Rattle.life_rle.specs.Record.{Contents}
use Rattle.life_rle.specs.File.{file}

-- Unreadable means that exactly one read failed; with any other result no read did
abbrev pub ReportsFailures : {X : Type 0} → ℕ → ℕ → Result X ReadFault → Type 0
ReportsFailures old new (Ok x) = new ≡ old
ReportsFailures old new (Err (Rle fault)) = new ≡ old
ReportsFailures old new (Err Unreadable) = new ≡ incremented old

-- the result agrees with `file` of these bytes, unless memory ran out or a read failed
abbrev pub ReadsBytes : List ℕ → Result Contents ReadFault → Type 0
ReadsBytes bytes (Ok r) = file bytes ≡ Ok r
ReadsBytes bytes (Err (Rle fault)) = Fails fault (file bytes)
ReadsBytes bytes (Err Unreadable) = Unit {0}

-- the result agrees with `file` of the stream's bytes, if these were known
abbrev pub ReadsKnown : Option (List ℕ) → Result Contents ReadFault → Type 0
ReadsKnown None answer = Unit {0}
ReadsKnown (Some bytes) answer = ReadsBytes bytes answer
