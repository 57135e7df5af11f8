-- The results of a deposit and of a check, and the result of serving if no connection failed before.
use Rattle.std.proofs.Common.{◌≡◌, ℕ, Bool, List, None, Some, Result, Ok, Err, MatchResult, sym, refl, subst}
use Rattle.std.proofs.Common.{inl, inr}
use Rattle.std.specs.Prelude.{OnOk, IfErr}
use Rattle.sqlite_disk.specs.declared.Disk as disk
use Rattle.sqlite_disk.specs.declared.Files.{Files}
use Rattle.sqlite_wal.specs.Recovery.{Image}
use Rattle.life_archive.specs.Session.{Traffic, unknown}
use Rattle.life_rle.specs.declared.stream.Inlet as inlet
use Rattle.life_rle.specs.declared.stream.Outlet as outlet
use Rattle.life_jobs.specs.Streams.{TakesFile, PutsOnce}
use Rattle.life_check.specs.Files.{CheckedFiles}
use Rattle.life_archive.specs.declared.archive_stop.ArchiveStop.{ArchiveStop}
use Rattle.life_archive.specs.Deposit.{by_streams}
use Rattle.life_archive.specs.ArchivePath.{PathFiles, DepositsAt, IsPathSession, IsUnserved, AnswersDeposit}
use Rattle.life_archive.specs.ArchivePath.{AnswersServing}
use Rattle.life_archive.specs.ArchivePath.{line_after}
use Rattle.life_check.specs.declared.report.CheckStop.{CheckStop}
use Rattle.life_check.specs.Report as report

module _ {D L : Type 0} (g : disk.Ghosts D) (image : Image) (capacity count failures : ℕ) (x : Traffic)
    (same : x ≡ unknown 0) (text : L → List ℕ) where
  -- a session, with the line of its stop
  pub serving_answers : (answer : Result (Unit {0}) ArchiveStop) (left : PathFiles D) (r : Result (Unit {0}) L)
      → OnOk answer ((closed : Result (Files D) (Files D)) × (left ≡ Some closed)
      × IsPathSession g image capacity count x (unknown failures) closed)
      → IfErr answer (λ stop. IsUnserved g image capacity stop left)
      → MatchResult r (λ u. line_after answer ≡ None) (λ line. line_after answer ≡ Some (text line))
      → MatchResult r (λ u. AnswersServing g image capacity count None)
      (λ line. AnswersServing g image capacity count (Some (text line)))
  serving_answers (Ok done) left (Ok u) served refused is = inl (
    failures,
    served.0,
    subst (λ (t : Traffic). IsPathSession g image capacity count t (unknown failures) served.0) same served.2,
    refl,
  )
  serving_answers (Ok done) left (Err line) served refused is = absurd cc
  serving_answers (Err stop) left (Ok u) served refused is = absurd cc
  serving_answers (Err stop) left (Err line) served refused is = inr (stop, left, refused, sym is)

module _ {D I O L : Type 0} (g : disk.Ghosts D) (i : inlet.Ghosts I) (o : outlet.Ghosts O)
    (image : Image) (capacity : ℕ) (member token : List ℕ) (input rest : I) (output sent : O)
    (answer : Result (Unit {0}) ArchiveStop) (left : PathFiles D)
    (deposits : DepositsAt g image capacity member token input rest (i.to_come input) (o.already output)
    (o.already sent) answer left)
    (takes : TakesFile (i.to_come input) (i.to_come rest) (i.failures input) (i.failures rest)
    (i.ends input) (i.ends rest) (i.last_take rest) (by_streams answer))
    (once : PutsOnce output sent (o.failures output) (o.failures sent) (o.last_failed sent) (by_streams answer))
    (text : L → List ℕ) where
  -- a deposit, with the line of its stop
  pub deposit_answers : (r : Result (Unit {0}) L)
      → MatchResult r (λ u. line_after answer ≡ None) (λ line. line_after answer ≡ Some (text line))
      → MatchResult r (λ u. AnswersDeposit g i o image capacity member token input rest output sent None)
      (λ line. AnswersDeposit g i o image capacity member token input rest output sent (Some (text line)))
  deposit_answers (Ok u) is =
      record { answer = answer; left = left; deposits = deposits; takes = takes; once = once; printed = sym is }
  deposit_answers (Err line) is =
      record { answer = answer; left = left; deposits = deposits; takes = takes; once = once; printed = sym is }

module _ {D O L : Type 0} (quick : Bool) (g : disk.Ghosts D) (o : outlet.Ghosts O) (image : Image)
    (capacity : ℕ) (output sent : O) (answer : Result (Unit {0}) CheckStop) (left : CheckedFiles D)
    (checks : report.ChecksAt quick g image capacity (o.already output) (o.already sent) answer left)
    (once : PutsOnce output sent (o.failures output) (o.failures sent) (o.last_failed sent) (report.by_output answer))
    (text : L → List ℕ) where
  -- a check, with the line of its stop
  pub check_answers : (r : Result (Unit {0}) L)
      → MatchResult r (λ u. report.line_after answer ≡ None) (λ line. report.line_after answer ≡ Some (text line))
      → MatchResult r (λ u. report.AnswersCheck quick g o image capacity output sent None)
      (λ line. report.AnswersCheck quick g o image capacity output sent (Some (text line)))
  check_answers (Ok u) is = record { answer = answer; left = left; checks = checks; once = once; printed = sym is }
  check_answers (Err line) is = record { answer = answer; left = left; checks = checks; once = once; printed = sym is }
