-- The output of a check of the file at a path.
use Rattle.std.specs.Prelude.{◌≡◌, ◌⊎◌, ◌∷◌, ◌++◌, [], ℕ, Bool, List, codes, Option, None, Some, Result, Ok}
use Rattle.std.specs.Prelude.{Err}
use Rattle.std.specs.Fmt.{decimal}
use Rattle.std.specs.List.{flat_map}
use Rattle.life_core.specs.Ascii.{line_feed}
use Rattle.sqlite_disk.specs.declared.Disk as disk
use Rattle.sqlite_wal.specs.Recovery.{Image}
use Rattle.life_rle.specs.declared.stream.Outlet as outlet
use Rattle.life_rle.specs.Stream.{Appends, AppendsSome}
use Rattle.life_jobs.specs.declared.stop.Stop.{Stop}
use Rattle.life_jobs.specs.declared.stop.Stop.TheVariants.{Unavailable, Unwritable}
use Rattle.life_jobs.specs.JobStop as jobs
use Rattle.life_jobs.specs.Streams.{PutsOnce}
use Rattle.life_store.specs.declared.store_fault.Unavailable.{Unavailable as Failed}
use Rattle.life_check.specs.declared.archive_check.CheckVerdict.{CheckVerdict}
use Rattle.life_check.specs.declared.archive_check.CheckVerdict.TheVariants.{Sound, SoundButForCounts, NotSound}
use Rattle.life_check.specs.declared.archive_check.Wrong.{Wrong}
use Rattle.life_check.specs.declared.archive_check.Wrong.TheVariants as wrong
use Rattle.life_check.specs.Files.{CheckedFiles, ChecksPath}
use Rattle.life_check.specs.Listed.{AreFurther}
use Rattle.life_check.specs.declared.report.CheckStop.{CheckStop}
use Rattle.life_check.specs.declared.report.CheckStop.TheVariants as stops

-- ---- the lines of a result

-- the sentence for an error; Deposit 7 gives "deposit 7: its row is wrong or missing"
abbrev pub wrong_words : Wrong → List ℕ
wrong_words wrong.Tables = codes "the tables are not those of an archive"
wrong_words wrong.Layout = codes "layout: its row is wrong or missing"
wrong_words (wrong.Deposit id) = codes "deposit " ++ decimal id ++ codes ": its row is wrong or missing"
wrong_words (wrong.DepositNames id) = codes "deposit " ++ decimal id ++ codes ": its row is wrong or missing"
wrong_words (wrong.Census id) =
    codes "census " ++ decimal id ++ codes ": its row, its counts or its flag are wrong or missing"

-- the line of an error
abbrev pub error_line : Wrong → List ℕ
error_line w = wrong_words w ++ line_feed ∷ []

-- the sentence for the result of a check, such as "sound: 2 deposits, 1 censuses"
abbrev pub verdict_words : CheckVerdict → List ℕ
verdict_words (Sound d c) = codes "sound: " ++ (decimal d ++ (codes " deposits, " ++ (decimal c ++ codes " censuses")))
verdict_words (SoundButForCounts d c) =
    codes "sound but for counts: " ++ (decimal d ++ (codes " deposits, " ++ (decimal c ++ codes " censuses")))
verdict_words (NotSound w) = wrong_words w

-- the line of a result
abbrev pub verdict_line : CheckVerdict → List ℕ
verdict_line v = verdict_words v ++ line_feed ∷ []

-- the line of a result, and a line for each error after the first
abbrev pub checked_lines : CheckVerdict → List Wrong → List ℕ
checked_lines v further = verdict_line v ++ flat_map error_line further

-- the job's result after these lines were written
abbrev pub answer_of : CheckVerdict → Result (Unit {0}) CheckStop
answer_of (Sound d c) = Ok tt
answer_of (SoundButForCounts d c) = Ok tt
answer_of (NotSound w) = Err stops.NotSound

-- The output and the job's result for a verdict and the further errors. It writes their lines, or a prefix of them if a
-- write failed. Out of memory is Unavailable.
abbrev pub PutsVerdict : CheckVerdict → List Wrong → Option (List ℕ) → Option (List ℕ)
    → Result (Unit {0}) CheckStop → Type 0
PutsVerdict v further before after answer =
    ((answer ≡ answer_of v) × Appends before after (checked_lines v further))
    ⊎ (((answer ≡ Err (stops.Job Unwritable)) × AppendsSome before after (checked_lines v further))
    ⊎ (answer ≡ Err (stops.Job Unavailable)))

-- The same, also for a check that gave no result.
abbrev pub PutsChecked : Result CheckVerdict Failed → List Wrong → Option (List ℕ) → Option (List ℕ)
    → Result (Unit {0}) CheckStop → Type 0
PutsChecked (Ok v) further before after answer = PutsVerdict v further before after answer
PutsChecked (Err e) further before after answer = answer ≡ Err (stops.Job Unavailable)

-- the result of writing the output, for which an unsound file is a success: its lines were written
abbrev pub by_output : Result (Unit {0}) CheckStop → Result (Unit {0}) Stop
by_output (Ok done) = Ok done
by_output (Err (stops.Job stop)) = Err stop
by_output (Err stops.NotSound) = Ok tt

-- ---- the line on standard error

-- the line of a stop, without its line end
abbrev pub line_of : CheckStop → List ℕ
line_of (stops.Job stop) = jobs.line_of stop
line_of stops.NotSound = codes "refused: not-sound"

-- the line on standard error after a job's result, if any
abbrev pub line_after : Result (Unit {0}) CheckStop → Option (List ℕ)
line_after (Ok done) = None
line_after (Err stop) = Some (line_of stop)

-- ---- the files of a path

-- The file was checked, or could not be opened, and the output is the result's.
abbrev pub ChecksAt : {D : Type 0} → Bool → disk.Ghosts D → Image → ℕ → Option (List ℕ) → Option (List ℕ)
    → Result (Unit {0}) CheckStop → CheckedFiles D → Type 0
ChecksAt quick g image capacity before after answer left =
    (checked : Result CheckVerdict Failed) × (further : List Wrong)
    × ChecksPath quick g image capacity checked further left
    × AreFurther checked further × PutsChecked checked further before after answer

-- ---- the output of the program

-- A check, with the line that is printed if it stops.
pub record AnswersCheck {D O : Type 0} (quick : Bool) (g : disk.Ghosts D) (o : outlet.Ghosts O)
    (image : Image) (capacity : ℕ) (output sent : O) (line : Option (List ℕ)) : Type 0 where
  pub answer : Result (Unit {0}) CheckStop
  pub left : CheckedFiles D
  pub checks : ChecksAt quick g image capacity (o.already output) (o.already sent) answer left
  pub once : PutsOnce output sent (o.failures output) (o.failures sent) (o.last_failed sent) (by_output answer)
  pub printed : line ≡ line_after answer
