-- The result of a function that writes a text to a stream.
use Rattle.std.specs.Prelude.{ℕ, List, Option, Result, Ok, Err}
use Rattle.life_rle.specs.declared.rle_fault.WriteFault.{WriteFault}
use Rattle.life_rle.specs.declared.rle_fault.WriteFault.TheVariants.{Unwritable, Memory}
use Rattle.life_rle.specs.Stream.{Appends, AppendsSome}

-- the text was written, or a prefix of it before a write that failed; another clause is about out of memory
abbrev pub PutsText : Option (List ℕ) → Option (List ℕ) → List ℕ → Result (Unit {0}) WriteFault → Type 0
PutsText old new bytes (Ok done) = Appends old new bytes
PutsText old new bytes (Err Unwritable) = AppendsSome old new bytes
PutsText old new bytes (Err Memory) = Unit {0}
