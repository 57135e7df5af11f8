-- Reading a stream line by line: the result of the file, if these bytes remain.
use Rattle.std.specs.Prelude.{◌≡◌, ℕ, ◌<◌, ◌≤◌, List, ◌++◌, length, take, drop, Option, None, Some, Result, Ok, Err}
use Rattle.life_rle.specs.declared.rle_fault.RleFault.{RleFault}
use Rattle.life_rle.specs.declared.rle_fault.RleFault.TheVariants.{Memory}
use Rattle.life_rle.specs.declared.file_reader.FileReader.{FileReader}
use Rattle.life_rle.specs.declared.rle_fault.ReadFault.{ReadFault}
use Rattle.life_rle.specs.declared.rle_fault.ReadFault.TheVariants.{Rle, Unreadable}
use Rattle.life_rle.specs.Stream.{FailedBetween}
use Rattle.life_rle.specs.RleLines.{lines_after}
use Rattle.life_rle.specs.Record.{Contents, IsRecord}
use Rattle.life_rle.specs.File.{kept}
use Rattle.life_rle.specs.LineReaderState.{resumed}

-- the record, or the first fault, of the file if these bytes remain
abbrev pub awaited : {A : Type 0} → FileReader A → List ℕ → Result Contents RleFault
awaited m bytes = resumed m.reader (lines_after m.line.items bytes)

-- whichever bytes remain, the file gives a valid record or a fault
abbrev pub IsSound : {A : Type 0} → FileReader A → Type 0
IsSound m = (bytes : List ℕ) (r : Contents) → awaited m bytes ≡ Ok r → IsRecord r

-- the reader has read the first `taken` of the known bytes, and the stream still has the others
abbrev pub Followed : {A : Type 0} → Option (List ℕ) → Option (List ℕ) → FileReader A → ℕ → Type 0
Followed None now file_reader taken = Unit {0}
Followed (Some bytes) now file_reader taken =
    (now ≡ Some (drop taken bytes)) × (taken ≤ length bytes)
    × ((more : List ℕ) → awaited file_reader more ≡ kept (take taken bytes ++ more))

-- the reader has read all the known bytes, or one more than a file may have
abbrev pub IsFollowed : {A : Type 0} → Option (List ℕ) → FileReader A → ℕ → Type 0
IsFollowed None file_reader taken = Unit {0}
IsFollowed (Some bytes) file_reader taken =
    (taken ≤ length bytes) × (taken ≤ 1048577) × (taken < 1048577 → taken ≡ length bytes)
    × ((more : List ℕ) → awaited file_reader more ≡ kept (take taken bytes ++ more))

-- the result of reading a stream to its end, with the counts of failures before and after it
abbrev pub FollowGives : {A : Type 0} → Option (List ℕ) → ℕ → ℕ → FileReader A → Result ℕ ReadFault → Type 0
FollowGives known old new file_reader (Ok taken) = IsFollowed known file_reader taken
FollowGives known old new file_reader (Err (Rle fault)) = fault ≡ Memory
FollowGives known old new file_reader (Err Unreadable) = FailedBetween old new
