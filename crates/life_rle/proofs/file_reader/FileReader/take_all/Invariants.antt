use Rattle.std.proofs.Common.{◌≡◌, ◌++◌, ℕ, List, length}
use Rattle.life_rle.specs.FileReaderState.{awaited}
use Rattle.life_rle.proofs.file_reader.FileReader.take_all.Given as goal

abbrev pub invariant-loop-line : goal.invariant-loop-line
invariant-loop-line g l =
    (bytes : List ℕ) → awaited l.self (l.rest ++ bytes) ≡ awaited l.initial.self (l.piece ++ bytes)

abbrev pub decreases-loop-line : goal.decreases-loop-line
decreases-loop-line g l = length l.rest
