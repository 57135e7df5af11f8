-- The jobs of the program over an archive in the file at a path: it opens the archive, does one job and closes it.
use Rattle.std.specs.Prelude.{◌≡◌, ◌⊎◌, ◌∷◌, ◌++◌, [], ℕ, List, Option, None, Some, option_map, Result, Ok, Err, IfErr}
use Rattle.std.specs.Prelude.{IsTrue, ⊤}
use Rattle.std.proofs.Common.{inl, inr}
use Rattle.sqlite_disk.specs.declared.Disk as disk
use Rattle.sqlite_disk.specs.declared.Files.{Files}
use Rattle.sqlite_wal.specs.Files.{outcomes}
use Rattle.sqlite_wal.specs.Reads.{AreClean}
use Rattle.sqlite_wal.specs.Recovery.{Image}
use Rattle.sqlite_trees.specs.declared.store.Store.{Ghosts}
use Rattle.sqlite_store.specs.declared.store.FileStore.{FileStore}
use Rattle.sqlite_store.specs.FileStore.{view, recovers}
use Rattle.sqlite_trees.specs.Tree.{Trees}
use Rattle.sqlite.specs.Files.{HoldsDatabase, image_of, over_files}
use Rattle.life_rle.specs.declared.stream.Inlet as inlet
use Rattle.life_rle.specs.declared.stream.Outlet as outlet
use Rattle.life_jobs.specs.declared.stop.Stop.TheVariants.{Unavailable}
use Rattle.life_jobs.specs.Streams.{TakesFile, PutsOnce}
use Rattle.life_store.specs.declared.store_fault.OpenFault.{OpenFault}
use Rattle.life_store.specs.declared.store_fault.OpenFault.TheVariants as faults
use Rattle.life_store.specs.Migration.{Migrated}
use Rattle.life_store.specs.Kept.{Kept}
use Rattle.life_store.specs.Opening.{FilesHold, FilesHoldFirst, ListNothing, AreReleased, AreRefusedAs, HaveFailedSince}
use Rattle.life_store.specs.Opening.{nothing_kept, without_log}
use Rattle.life_store.specs.Recoverable.{IsHonest}
use Rattle.life_store.specs.Tables.{ArchiveView, Holds, IsHealthyIfClean}
use Rattle.life_desk.specs.declared.request.Request.{Request}
use Rattle.life_desk.specs.declared.request.Request.TheVariants as requests
use Rattle.life_desk.specs.declared.request.Reply.{Reply}
use Rattle.life_desk.specs.Replies.{after}
use Rattle.life_desk.specs.Archive.{Archive}
use Rattle.life_desk.specs.Run.{RequestStep, RequestRun, IsCrashSafe, IsDurable, AcknowledgeNothing}
use Rattle.life_archive.specs.declared.archive_stop.ArchiveStop.{ArchiveStop}
use Rattle.life_archive.specs.declared.archive_stop.ArchiveStop.TheVariants.{Job, NotOurs}
use Rattle.life_archive.specs.ArchiveStopLine.{line_of}
use Rattle.life_archive.specs.Deposit.{Deposits, by_streams}
use Rattle.life_pages.specs.ServedArchive.{IsLeftOf}
use Rattle.life_archive.specs.Session.{Traffic, unknown, Runs, ServesConnections, FilesRepresent, FilesMean}
use Rattle.life_archive.specs.Session.{CannotListen}
use Rattle.life_archive.specs.Session.{under, messages_of, replies_of}

-- the stop for an opening that is refused
abbrev pub opening_stop : OpenFault → ArchiveStop
opening_stop faults.NotOurs = NotOurs
opening_stop fault = Job Unavailable

-- The files of a path after a job: Ok if they were closed, Err if the opening or the close was refused, None if they
-- were never opened.
abbrev pub PathFiles : Type 0 → Type 0
PathFiles D = Option (Result (Files D) (Files D))

-- The opening was refused, for this reason. `NotOurs` means that the files hold no archive of a known layout, unless
-- the disk has returned something other than what was written.
pub record IsUnopened {D : Type 0} (g : disk.Ghosts D) (image : Image) (stop : ArchiveStop)
    (left : PathFiles D) : Type 0 where
  pub fault : OpenFault
  pub refused : Option (Files D)
  pub stop_is : stop ≡ opening_stop fault
  pub left_is : left ≡ option_map Err refused
  pub anothers : fault ≡ faults.NotOurs → AreRefusedAs g image refused

-- Opening files of this image gives this archive: the one in the files, migrated if necessary, or an empty one if they
-- list no table. It is healthy, unless the disk has returned something other than what was written.
pub record OpensAs {D : Type 0} {g : disk.Ghosts D} (image : Image) (most : ℕ)
    (a : ArchiveView (FileStore D g)) : Type 0 where
  pub capacity : a.capacity ≡ most
  pub healthy : IsHealthyIfClean over_files a
  pub found : (k : Kept) → IsTrue a.tables.is_healthy → FilesHold image k → Holds a.tables k
  pub migrated : (k : Kept) → IsTrue a.tables.is_healthy → FilesHoldFirst image k → Migrated a.tables k
  pub fresh : IsTrue a.tables.is_healthy → ListNothing image → Holds a.tables nothing_kept

-- the line on standard error after a job's result, if any
abbrev pub line_after : Result (Unit {0}) ArchiveStop → Option (List ℕ)
line_after (Ok done) = None
line_after (Err stop) = Some (line_of stop)

-- ---- what is left

-- After a close, the files represent an archive for which P holds. So does each image that a crash may leave of them,
-- and the database file without its log. After a refused close, `AreReleased` says what is left.
abbrev pub LeavesOne : {D : Type 0} → disk.Ghosts D → (Archive → Type 0) → Result (Files D) (Files D) → Type 0
LeavesOne g P (Ok files) = AreClean g files.log files.db
    → (B : Archive) × P B × ((image : Image) → outcomes g files.log files.db image → FilesRepresent image B)
    × FilesRepresent (without_log (image_of g files)) B
LeavesOne g P (Err files) = ⊤

-- the same for files that were opened at this image and under this capacity; P relates the archive that they began with
-- to the one that is left
abbrev pub LeavesFrom : {D : Type 0} → disk.Ghosts D → Image → ℕ → (Archive → Archive → Type 0)
    → Result (Files D) (Files D) → Type 0
LeavesFrom g image capacity P left = (A : Archive) → A.capacity ≡ capacity → FilesMean image A → LeavesOne g (P A) left

-- ---- a deposit

-- A crash leaves the archive unchanged if it got no request. Otherwise it leaves the archive unchanged or with the
-- deposit, and with it if the number was written.
abbrev pub IsSafeIfAsked : {S : Type 0} {g : Ghosts S} {old new : ArchiveView S} {member token : List ℕ}
    {known before after : Option (List ℕ)} {answer : Result (Unit {0}) ArchiveStop}
    → Deposits g old new member token known before after answer → Type 0
IsSafeIfAsked {g = g} {new = new} (inl unasked) = IsDurable g new
IsSafeIfAsked {g = g} {old = old} {new = new} {member = member} {token = token} (inr once) =
    IsCrashSafe g old new (requests.Deposit member token once.file ∷ []) (once.reply ∷ [])

-- How the job changes an archive. Without a request it stays as it is. Otherwise it makes one step of a run with this
-- reply: the deposit is added, was stored already, or is refused.
abbrev pub BecomesByDeposit : {S : Type 0} {g : Ghosts S} {old new : ArchiveView S} {member token : List ℕ}
    {known before after : Option (List ℕ)} {answer : Result (Unit {0}) ArchiveStop}
    → Deposits g old new member token known before after answer → Archive → Archive → Type 0
BecomesByDeposit (inl unasked) A B = B ≡ A
BecomesByDeposit {member = member} {token = token} (inr once) A B =
    RequestStep A (requests.Deposit member token once.file) once.reply B

-- A deposit over the files of a path: they were opened as an archive, which got one request with the file from the
-- input, or no request, and were closed. All these facts are about the same request.
pub record IsPathDeposit {D : Type 0} (g : disk.Ghosts D) (image : Image) (capacity : ℕ)
    (member token : List ℕ) (known before after : Option (List ℕ)) (answer : Result (Unit {0}) ArchiveStop)
    (left : Result (Files D) (Files D)) : Type 0 where
  pub opened : ArchiveView (FileStore D g)
  pub last : ArchiveView (FileStore D g)
  pub opens : OpensAs image capacity opened
  pub deposits : Deposits over_files opened last member token known before after answer
  pub crash : IsSafeIfAsked deposits
  pub leaves : LeavesFrom g image capacity (BecomesByDeposit deposits) left
  pub released : IfErr left (AreReleased last.store)

-- The same for an open archive, whatever it was opened from.
pub record EndsPathDeposit {D : Type 0} (g : disk.Ghosts D) (a : ArchiveView (FileStore D g))
    (member token : List ℕ) (known before after : Option (List ℕ)) (answer : Result (Unit {0}) ArchiveStop)
    (left : Result (Files D) (Files D)) : Type 0 where
  pub last : ArchiveView (FileStore D g)
  pub deposits : Deposits over_files a last member token known before after answer
  pub crash : IsSafeIfAsked deposits
  pub leaves : (image : Image) (capacity : ℕ) → OpensAs image capacity a
      → LeavesFrom g image capacity (BecomesByDeposit deposits) left
  pub released : IfErr left (AreReleased last.store)

-- The opening was refused, before any input was read or output written, or the deposit was made over the opened
-- archive.
abbrev pub DepositsAt : {D I : Type 0} → disk.Ghosts D → Image → ℕ → List ℕ → List ℕ → I → I → Option (List ℕ)
    → Option (List ℕ) → Option (List ℕ) → Result (Unit {0}) ArchiveStop → PathFiles D → Type 0
DepositsAt {D} g image capacity member token input rest known before after answer left =
    ((stop : ArchiveStop) × (answer ≡ Err stop) × IsUnopened g image stop left × (rest ≡ input) × (after ≡ before))
    ⊎ ((closed : Result (Files D) (Files D)) × (left ≡ Some closed)
    × IsPathDeposit g image capacity member token known before after answer closed)

-- ---- a session

-- The program could not listen: the files were opened as an archive, which was closed unchanged.
pub record IsUnlistened {D : Type 0} (g : disk.Ghosts D) (image : Image) (capacity : ℕ)
    (left : Result (Files D) (Files D)) : Type 0 where
  pub opened : ArchiveView (FileStore D g)
  pub opens : OpensAs image capacity opened
  pub leaves : LeavesFrom g image capacity (λ A B. B ≡ A) left
  pub released : IfErr left (AreReleased opened.store)

-- The same for an open archive, whatever it was opened from.
pub record ClosesUnasked {D : Type 0} (g : disk.Ghosts D) (a : ArchiveView (FileStore D g))
    (left : Result (Files D) (Files D)) : Type 0 where
  pub leaves : (image : Image) (capacity : ℕ) → OpensAs image capacity a
      → LeavesFrom g image capacity (λ A B. B ≡ A) left
  pub released : IfErr left (AreReleased a.store)

-- why no connection is served, and the files after it: the opening was refused, or the program can't listen
abbrev pub IsUnserved : {D : Type 0} → disk.Ghosts D → Image → ℕ → ArchiveStop → PathFiles D → Type 0
IsUnserved {D} g image capacity stop left =
    IsUnopened g image stop left ⊎ (CannotListen stop
    × ((closed : Result (Files D) (Files D)) × (left ≡ Some closed) × IsUnlistened g image capacity closed))

-- A session over the files of a path: they were opened as an archive, which served this many connections, and were
-- closed. All these facts are about the same list of connections.
pub record IsPathSession {D : Type 0} (g : disk.Ghosts D) (image : Image) (capacity count : ℕ)
    (before after : Traffic) (left : Result (Files D) (Files D)) : Type 0 where
  pub opened : ArchiveView (FileStore D g)
  pub last : ArchiveView (FileStore D g)
  pub opens : OpensAs image capacity opened
  pub serves : ServesConnections over_files count opened last before after
  pub leaves : LeavesFrom g image capacity (Runs (messages_of serves.exchanges) (replies_of serves.exchanges)) left
  pub released : IfErr left (AreReleased last.store)

-- The same for an open archive, whatever it was opened from.
pub record EndsPathSession {D : Type 0} (g : disk.Ghosts D) (a : ArchiveView (FileStore D g))
    (count : ℕ) (before after : Traffic) (left : Result (Files D) (Files D)) : Type 0 where
  pub last : ArchiveView (FileStore D g)
  pub serves : ServesConnections over_files count a last before after
  pub leaves : (image : Image) (capacity : ℕ) → OpensAs image capacity a
      → LeavesFrom g image capacity (Runs (messages_of serves.exchanges) (replies_of serves.exchanges)) left
  pub released : IfErr left (AreReleased last.store)

-- ---- one job after the other

-- a job over the files of a path: a session or a deposit
pub data PathJob {D : Type 0} (g : disk.Ghosts D) (image : Image) (capacity : ℕ)
    (left : Result (Files D) (Files D)) : Type 0 where
  by_session : {count : ℕ} {before after : Traffic} → IsPathSession g image capacity count before after left
      → PathJob g image capacity left
  by_deposit : {member token : List ℕ} {known before after : Option (List ℕ)} {answer : Result (Unit {0}) ArchiveStop}
      → IsPathDeposit g image capacity member token known before after answer left
      → PathJob g image capacity left

-- how a job changes an archive: by a run over the messages of its connections, or by the one deposit
abbrev pub BecomesBy : {D : Type 0} {g : disk.Ghosts D} {image : Image} {capacity : ℕ}
    {left : Result (Files D) (Files D)} → PathJob g image capacity left → Archive → Archive → Type 0
BecomesBy (by_session it) A B = Runs (messages_of it.serves.exchanges) (replies_of it.serves.exchanges) A B
BecomesBy (by_deposit it) A B = BecomesByDeposit it.deposits A B

-- Two jobs in turn, sessions or deposits, possibly on two disks. The first closed its files. The second opens them,
-- what a crash left of them, or only the database file. If the disk of the first was honest, the first job takes the
-- archive in the files to some B, and the second begins with B, under its own capacity.
abbrev pub PathJobsCompose : {D E : Type 0} → disk.Ghosts D → disk.Ghosts E → Type 0
PathJobsCompose {D} {E} g h =
    (image again : Image) (capacity next : ℕ) (mid : Files D) (left : Result (Files E) (Files E))
    (one : PathJob g image capacity (Ok mid)) (two : PathJob h again next left)
    → AreClean g mid.log mid.db → outcomes g mid.log mid.db again ⊎ (again ≡ without_log (image_of g mid))
    → (A : Archive) → A.capacity ≡ capacity → FilesMean image A
    → (B : Archive) × BecomesBy one A B × LeavesOne h (BecomesBy two (under next B)) left

-- ---- and after a crash

-- the archive of a job before it was closed
abbrev pub last_of : {D : Type 0} {g : disk.Ghosts D} {image : Image} {capacity : ℕ} {left : Result (Files D) (Files D)}
    → PathJob g image capacity left → ArchiveView (FileStore D g)
last_of (by_session it) = it.last
last_of (by_deposit it) = it.last

-- The image holds a database that the store allows, as each image does that a crash leaves at this moment.
abbrev pub MayBeFound : {D : Type 0} {g : disk.Ghosts D} → FileStore D g → Image → Type 0
MayBeFound store image = ∥ ((db : Trees) × recovers store db × HoldsDatabase image db) ∥₁

-- What remains is the archive after a prefix of these requests in a run from A, or after the next one too. Only replies
-- to that prefix say that something is stored.
pub record IsLeftOfRun (A : Archive) (qs : List Request) (rs : List Reply) (Remains : Archive → Type 0) : Type 0 where
  pub front : List Request
  pub back : List Request
  pub given : List Reply
  pub rest : List Reply
  pub requests : qs ≡ front ++ back
  pub replies : rs ≡ given ++ rest
  pub mid : Archive
  pub run : RequestRun A front given mid
  pub left : Remains mid ⊎ ((next : Request) × (more : List Request) × (back ≡ next ∷ more) × Remains (after mid next))
  pub unpromised : AcknowledgeNothing rest

-- the archive after a crash during a deposit, with or without a request
abbrev pub IsLeftIfAsked : {S : Type 0} {g : Ghosts S} {old new : ArchiveView S} {member token : List ℕ}
    {known before after : Option (List ℕ)} {answer : Result (Unit {0}) ArchiveStop}
    → Deposits g old new member token known before after answer → Archive → (Archive → Type 0) → Type 0
IsLeftIfAsked (inl unasked) A Remains = Remains A
IsLeftIfAsked {member = member} {token = token} (inr once) A Remains =
    IsLeftOfRun A (requests.Deposit member token once.file ∷ []) (once.reply ∷ []) Remains

-- the archive after a crash during a job
abbrev pub IsLeftBy : {D : Type 0} {g : disk.Ghosts D} {image : Image} {capacity : ℕ}
    {left : Result (Files D) (Files D)} → PathJob g image capacity left → Archive → (Archive → Type 0) → Type 0
IsLeftBy (by_session it) A Remains =
    IsLeftOf A (messages_of it.serves.exchanges) (replies_of it.serves.exchanges) Remains
IsLeftBy (by_deposit it) A Remains = IsLeftIfAsked it.deposits A Remains

-- A crash interrupted a job before its files were closed, and another job opens what the crash left. If the disk of the
-- first was honest, the second begins with the archive after a prefix of the first one's requests, or after one more.
-- Every acknowledged deposit and census is in it.
abbrev pub PathJobsComposeOverCrashes : {D E : Type 0} → disk.Ghosts D → disk.Ghosts E → Type 0
PathJobsComposeOverCrashes {D} {E} g h =
    (image again : Image) (capacity next : ℕ) (mid : Result (Files D) (Files D)) (left : Result (Files E) (Files E))
    (one : PathJob g image capacity mid) (two : PathJob h again next left)
    → IsHonest over_files (last_of one) → MayBeFound (last_of one).store again → (A : Archive)
    → A.capacity ≡ capacity → FilesMean image A
    → ∥ IsLeftBy one A (λ B. LeavesOne h (BecomesBy two (under next B)) left) ∥₁

-- A job ended with a refused close, and another job opens its files, or what a crash left of them. If the disk of the
-- first was honest, the second begins as after a crash, unless a call of the disk failed in that close or a limit of
-- the format was reached.
abbrev pub PathJobsComposeOverRefusals : {D E : Type 0} → disk.Ghosts D → disk.Ghosts E → Type 0
PathJobsComposeOverRefusals {D} {E} g h =
    (image again : Image) (capacity next : ℕ) (mid : Files D) (left : Result (Files E) (Files E))
    (one : PathJob g image capacity (Err mid)) (two : PathJob h again next left)
    → AreClean g mid.log mid.db → IsTrue (view (last_of one).store).is_open → outcomes g mid.log mid.db again
    → (A : Archive) → A.capacity ≡ capacity → FilesMean image A
    → ∥ IsLeftBy one A (λ B. LeavesOne h (BecomesBy two (under next B)) left) ∥₁
    ⊎ HaveFailedSince (last_of one).store mid

-- ---- the output of the program

-- A deposit: its effect on the archive, its files and its streams, and the line that is printed if it stops.
pub record AnswersDeposit {D I O : Type 0} (g : disk.Ghosts D) (i : inlet.Ghosts I) (o : outlet.Ghosts O)
    (image : Image) (capacity : ℕ) (member token : List ℕ) (input rest : I) (output sent : O)
    (line : Option (List ℕ)) : Type 0 where
  pub answer : Result (Unit {0}) ArchiveStop
  pub left : PathFiles D
  pub deposits : DepositsAt g image capacity member token input rest (i.to_come input) (o.already output)
      (o.already sent) answer left
  pub takes : TakesFile (i.to_come input) (i.to_come rest) (i.failures input) (i.failures rest)
      (i.ends input) (i.ends rest) (i.last_take rest) (by_streams answer)
  pub once : PutsOnce output sent (o.failures output) (o.failures sent) (o.last_failed sent) (by_streams answer)
  pub printed : line ≡ line_after answer

-- A session with connections whose bytes are unknown, or the line of its stop. Only the number of failed connections is
-- known.
abbrev pub AnswersServing : {D : Type 0} → disk.Ghosts D → Image → ℕ → ℕ → Option (List ℕ) → Type 0
AnswersServing {D} g image capacity count line =
    ((failures : ℕ) × (left : Result (Files D) (Files D))
    × IsPathSession g image capacity count (unknown 0) (unknown failures) left × (line ≡ None))
    ⊎ ((stop : ArchiveStop) × (left : PathFiles D) × IsUnserved g image capacity stop left
    × (line ≡ Some (line_of stop)))
