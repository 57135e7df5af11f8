-- What the job of a command line writes, and the line that is printed if it stops. `Answers` of life_words gives the
-- job of the arguments.
use Rattle.std.specs.Prelude.{◌≡◌, ◌↔◌, ◌<◌, ◌≤◌, ℕ, Bool, List, Option, None, Some, Result, Ok, Err, IfErr}
use Rattle.life_rle.specs.declared.stream.Inlet as inlet
use Rattle.life_rle.specs.declared.stream.Outlet as outlet
use Rattle.std.specs.Process.{exit_status}
use Rattle.std.specs.declared.process.ExitCode.{ExitCode}
use Rattle.clap.specs.Words.{kind_of}
use Rattle.clap.specs.declared.error.kind.ErrorKind.{ErrorKind}
use Rattle.clap.specs.declared.error.kind.ErrorKind.TheVariants.{DisplayVersion}
use Rattle.life_words.specs.declared.word_fault.WordFault.{WordFault}
use Rattle.life_words.specs.declared.word_fault.WordFault.TheVariants.{BadWords, Memory}
use Rattle.life_words.specs.Words.{Answers, asked_by, Asked, AsksGeneration, AsksKind, AsksObject, AsksCensus}
use Rattle.life_words.specs.Words.{AsksDeposit, AsksServe, AsksCheck, AsksExplain}
use Rattle.life_jobs.specs.declared.stop.Stop.{Stop}
use Rattle.life_jobs.specs.declared.stop.Stop.TheVariants.{OutOfLimit, Unwritable}
use Rattle.life_jobs.specs.JobStop.{line_of}
use Rattle.life_words.specs.Explain.{explanation_text}
use Rattle.life_jobs.specs.PatternJobs.{generation_text, kind_text, census_text, IsPeriodLimit, AreCensusNumbers}
use Rattle.life_jobs.specs.PatternJobs.{PutsKnown}
use Rattle.life_jobs.specs.PatternJobs.{PutsObject}
use Rattle.life_jobs.specs.Streams.{PutsText, TakesFile, PutsOnce}

-- a job over a file, a code or a name checks its numbers first; then it writes its text, or stops
abbrev pub DoesFileJob : Asked → Option (List ℕ) → Option (List ℕ) → Option (List ℕ) → Result (Unit {0}) Stop → Type 0
DoesFileJob (AsksGeneration n) known old new answer =
    ((answer ≡ Err OutOfLimit) ↔ (2048 < n)) × (n ≤ 2048 → PutsKnown (generation_text n) known old new answer)
DoesFileJob (AsksKind limit) known old new answer =
    ((answer ≡ Err OutOfLimit) ↔ ¬ IsPeriodLimit limit)
    × (IsPeriodLimit limit → PutsKnown (kind_text limit) known old new answer)
DoesFileJob (AsksCensus n limit) known old new answer =
    ((answer ≡ Err OutOfLimit) ↔ ¬ AreCensusNumbers n limit)
    × (AreCensusNumbers n limit → PutsKnown (census_text n limit) known old new answer)
DoesFileJob (AsksObject rule code limit) known old new answer = PutsObject rule code limit old new answer
-- an explanation needs no memory, so it stops only if a write fails
DoesFileJob (AsksExplain name) known old new answer =
    PutsText old new (explanation_text name) answer × IfErr answer (λ stop. stop ≡ Unwritable)
-- the other jobs need an archive
DoesFileJob asked known old new answer = Unit {0}

-- the line that is printed for an answer
abbrev pub line_after : Result (Unit {0}) Stop → Option (List ℕ)
line_after (Ok done) = None
line_after (Err stop) = Some (line_of stop)

-- ---- with its streams

-- How a job uses its streams. It reads at most one byte more than a file may have, and nothing after the end or a
-- failed read. If it stops, it writes nothing, except before a failed write. If its numbers are refused, it reads
-- nothing.
pub record UsesStreams {I O : Type 0} (i : inlet.Ghosts I) (o : outlet.Ghosts O) (input rest : I)
    (output sent : O) (answer : Result (Unit {0}) Stop) : Type 0 where
  pub takes : TakesFile (i.to_come input) (i.to_come rest) (i.failures input) (i.failures rest)
      (i.ends input) (i.ends rest) (i.last_take rest) answer
  pub once : PutsOnce output sent (o.failures output) (o.failures sent) (o.last_failed sent) answer
  pub untouched : answer ≡ Err OutOfLimit → rest ≡ input

-- the jobs `object` and `explain` read no input
abbrev pub TakesNothing : {I : Type 0} → Asked → I → I → Type 0
TakesNothing (AsksObject rule code limit) input rest = rest ≡ input
TakesNothing (AsksExplain name) input rest = rest ≡ input
TakesNothing asked input rest = Unit {0}

-- The answer of a job over a file or a code: its text, how it uses its streams, and the line that is printed if it
-- stops.
pub record AnswersFileJob {I O : Type 0} (i : inlet.Ghosts I) (o : outlet.Ghosts O) (asked : Asked)
    (input rest : I) (output sent : O) (line : Option (List ℕ)) : Type 0 where
  pub answer : Result (Unit {0}) Stop
  pub does : DoesFileJob asked (i.to_come input) (o.already output) (o.already sent) answer
  pub streams : UsesStreams i o input rest output sent answer
  pub none_taken : TakesNothing asked input rest
  pub printed : line ≡ line_after answer

-- A relation between a deposit's file, member and token, its streams before and after, and the line.
abbrev pub Depositing : Type 1
Depositing =
    (I O : Type 0) → inlet.Ghosts I → outlet.Ghosts O → List ℕ → List ℕ → List ℕ → I → I → O
    → O → Option (List ℕ) → Type 0

-- A relation between the file, the port, the number of connections, and the line.
abbrev pub Serving : Type 1
Serving = List ℕ → ℕ → ℕ → Option (List ℕ) → Type 0

-- A relation between the file, whether the check is quick, the output before and after, and the line.
abbrev pub Checking : Type 1
Checking = (O : Type 0) → outlet.Ghosts O → List ℕ → Bool → O → O → Option (List ℕ) → Type 0

-- The answer of any job, and the line that is printed if it stops. The program's archive decides about deposits,
-- serving and checks. Serving uses neither of these streams, and a check reads no input.
abbrev pub DoesJob : {I O : Type 0} → inlet.Ghosts I → outlet.Ghosts O → Depositing → Serving
    → Checking → Asked → I → I → O → O → Option (List ℕ) → Type 0
DoesJob {I} {O} i o deposits serves checks (AsksDeposit file member token) input rest output sent line =
    deposits I O i o file member token input rest output sent line
DoesJob i o deposits serves checks (AsksServe file port connections) input rest output sent line =
    serves file port connections line × (rest ≡ input) × (sent ≡ output)
DoesJob {I} {O} i o deposits serves checks (AsksCheck file quick) input rest output sent line =
    checks O o file quick output sent line × (rest ≡ input)
DoesJob i o deposits serves checks asked input rest output sent line =
    AnswersFileJob i o asked input rest output sent line

-- ---- from the arguments to the status

-- the exit status after a job that returned this line: 0 if it was done, 1 if it stopped
abbrev pub status_after : Option (List ℕ) → ℕ
status_after None = 0
status_after (Some line) = 1

-- the exit status if no job was done: 2 for a usage error or a request for help, 0 for the version, 1 for out of
-- memory
abbrev pub status_by_kind : ErrorKind → ℕ
status_by_kind DisplayVersion = 0
status_by_kind kind = 2

abbrev pub status_by : WordFault → ℕ
status_by (BadWords None) = 2
status_by (BadWords (Some error)) = status_by_kind (kind_of error)
status_by Memory = 1

-- The exit status of a process. For an Err, which is a failed stream of the process, `main` gives 1.
abbrev pub IsStatus : {E : Type 0} → Result ExitCode E → ℕ → Type 0
IsStatus (Ok code) status = exit_status code ≡ status
IsStatus (Err e) status = Unit {0}

-- The outcome for a command line. Either its job was done on these streams, and its line decides the status. Or no job
-- was done, nothing was read or written, and the fault decides the status. The fault is out of memory or, if and only
-- if the arguments are not valid, a usage error.
pub data WordsEnd {I O E : Type 0} (i : inlet.Ghosts I) (o : outlet.Ghosts O) (deposits : Depositing)
    (serves : Serving) (checks : Checking) (words : Option Asked) (input rest : I) (output sent : O)
    (result : Result ExitCode E) : Type 0 where
  does : (asked : Asked) (line : Option (List ℕ)) → words ≡ Some asked
      → DoesJob i o deposits serves checks asked input rest output sent line → IsStatus result (status_after line)
      → WordsEnd i o deposits serves checks words input rest output sent result
  has_fault : (fault : WordFault) → Answers asked_by words (Err fault) → rest ≡ input → sent ≡ output
      → IsStatus result (status_by fault) → WordsEnd i o deposits serves checks words input rest output sent result
