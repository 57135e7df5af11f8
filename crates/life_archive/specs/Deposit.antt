-- The effect of `deposit` on an archive, and its output.
use Rattle.std.specs.Prelude.{◌≡◌, ◌⊎◌, ◌++◌, ℕ, List, [], ◌∷◌, codes, take, Option, None, Some, Result, Ok, Err}
use Rattle.std.specs.Fmt.{decimal}
use Rattle.life_core.specs.Ascii.{line_feed}
use Rattle.sqlite_trees.specs.declared.store.Store.{Ghosts}
use Rattle.life_rle.specs.Stream.{Appends, AppendsSome}
use Rattle.life_store.specs.Tables.{ArchiveView}
use Rattle.life_desk.specs.declared.refusal.Refusal.{Refusal}
use Rattle.life_desk.specs.declared.refusal.Refusal.TheVariants as refusals
use Rattle.life_desk.specs.declared.request.Request.TheVariants as requests
use Rattle.life_desk.specs.declared.request.Reply.{Reply}
use Rattle.life_desk.specs.declared.request.Reply.TheVariants as replies
use Rattle.life_desk.specs.Run.{Answered, IsCrashSafe}
use Rattle.life_jobs.specs.declared.stop.Stop.{Stop}
use Rattle.life_jobs.specs.declared.stop.Stop.TheVariants.{BadPattern, Unreadable, Unavailable, Unwritable}
use Rattle.life_archive.specs.declared.archive_stop.ArchiveStop.{ArchiveStop}
use Rattle.life_archive.specs.declared.archive_stop.ArchiveStop.TheVariants.{Job, Desk}

-- The file has all bytes of the input, but at most one byte more than the limit of 1,048,576. The archive refuses a
-- file that is too long.
abbrev pub IsFileTaken : Option (List ℕ) → List ℕ → Type 0
IsFileTaken None file = Unit {0}
IsFileTaken (Some bytes) file = file ≡ take 1048577 bytes

-- the line of a deposit, such as "deposit 7"
abbrev pub deposit_line : ℕ → List ℕ
deposit_line id = codes "deposit " ++ (decimal id ++ line_feed ∷ [])

-- the stop for a refusal of the archive
abbrev pub desk_stop : Refusal → ArchiveStop
desk_stop (refusals.BadPattern fault) = Job (BadPattern fault)
desk_stop refusals.Unavailable = Job Unavailable
desk_stop refusal = Desk refusal

-- The output and the result for a reply. A number gives its line, or a prefix of it if a write fails. A refusal gives
-- its stop.
abbrev pub PutsReply : Reply → Option (List ℕ) → Option (List ℕ) → Result (Unit {0}) ArchiveStop → Type 0
PutsReply (replies.Deposited id) old new (Ok done) = Appends old new (deposit_line id)
PutsReply (replies.Deposited id) old new (Err stop) = (stop ≡ Job Unwritable) × AppendsSome old new (deposit_line id)
PutsReply (replies.Refused refusal) old new answer = answer ≡ Err (desk_stop refusal)
-- a deposit never gets another reply
PutsReply reply old new answer = answer ≡ Err (Job Unavailable)

-- The result for contracts about the streams of the job. A stop that only jobs over an archive have counts as
-- Unavailable, since a stream never causes it.
abbrev pub by_streams : {X : Type 0} → Result X ArchiveStop → Result X Stop
by_streams (Ok x) = Ok x
by_streams (Err (Job stop)) = Err stop
by_streams (Err stop) = Err Unavailable

-- the archive got one request, to store the file under the member and the token, and its reply was written
pub record AsksOnce {S : Type 0} (g : Ghosts S) (old new : ArchiveView S) (member token : List ℕ)
    (known before after : Option (List ℕ)) (answer : Result (Unit {0}) ArchiveStop) : Type 0 where
  pub file : List ℕ
  pub reply : Reply
  pub taken : IsFileTaken known file
  pub answered : Answered g old new (requests.Deposit member token file ∷ []) (reply ∷ [])
  pub puts : PutsReply reply before after answer

-- the job stopped before the archive got a request: the input failed, or memory ran out
abbrev pub IsUnasked : {X : Type 0} → Result X ArchiveStop → Type 0
IsUnasked (Err (Job Unreadable)) = Unit {0}
IsUnasked (Err (Job Unavailable)) = Unit {0}
IsUnasked answer = ⊥

-- `deposit` stops before it sends a request, and the archive is unchanged, or it sends one request
abbrev pub Deposits : {S : Type 0} → Ghosts S → ArchiveView S → ArchiveView S → List ℕ → List ℕ
    → Option (List ℕ) → Option (List ℕ) → Option (List ℕ) → Result (Unit {0}) ArchiveStop → Type 0
Deposits g old new member token known before after answer =
    (IsUnasked answer × (new ≡ old)) ⊎ AsksOnce g old new member token known before after answer

-- ---- crashes

-- Suppose the archive got the request, the database was healthy, and its disk has returned everything as it was
-- written. Then a crash during the job leaves the archive unchanged or with the deposit, and with it if the reply says
-- so.
abbrev pub IsDepositSafe : {S : Type 0} → Ghosts S → ArchiveView S → ArchiveView S → List ℕ
    → List ℕ → Option (List ℕ) → Option (List ℕ) → Option (List ℕ) → Result (Unit {0}) ArchiveStop → Type 0
IsDepositSafe g old new member token known before after answer =
    (IsUnasked answer × (new ≡ old))
    ⊎ ((once : AsksOnce g old new member token known before after answer)
    × IsCrashSafe g old new (requests.Deposit member token once.file ∷ []) (once.reply ∷ []))
