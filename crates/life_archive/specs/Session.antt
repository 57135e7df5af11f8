-- Sessions: an archive serves connections in turn. Over files, it is opened before them, and the files are returned
-- after them.
use Rattle.std.specs.Prelude.{◌≡◌, ◌⊎◌, ◌++◌, ◌∷◌, ℕ, Bool, true, false, List, [], length, Option, None, Some, Result}
use Rattle.std.specs.Prelude.{Ok, Err, IsTrue, ⊤}
use Rattle.sqlite_disk.specs.declared.Disk as disk
use Rattle.sqlite_disk.specs.declared.Files.{Files}
use Rattle.sqlite_wal.specs.Files.{outcomes}
use Rattle.sqlite_wal.specs.Reads.{AreClean}
use Rattle.sqlite_wal.specs.Recovery.{Image}
use Rattle.sqlite_trees.specs.declared.store.Store.{Ghosts}
use Rattle.sqlite_store.specs.declared.store.FileStore.{FileStore}
use Rattle.sqlite.specs.Files.{image_of, over_files}
use Rattle.life_rle.specs.Stream.{incremented}
use Rattle.life_store.specs.Opening.{FilesHold, FilesHoldFirst, ListNothing}
use Rattle.life_store.specs.Recoverable.{IsHonest, Recoverable, MayBeRecovered}
use Rattle.life_store.specs.Tables.{ArchiveView, IsHealthyIfClean}
use Rattle.life_desk.specs.Archive.{Archive}
use Rattle.life_desk.specs.Represents.{EachHasDeposit, Represents, kept_of}
use Rattle.life_desk.specs.Run.{RequestStep}
use Rattle.life_pages.specs.Message.{Message, MessageRun, AnswersMessage}
use Rattle.life_pages.specs.Serving.{AreAllOf, AreFirstOfStream}
use Rattle.life_pages.specs.ServedArchive.{StoreAnswers, AnswersFirmly, ByArchive, IsLeftOf, IsServedUntil}
use Rattle.life_jobs.specs.declared.stop.Stop.TheVariants.{Unavailable, Unwritable}
use Rattle.life_archive.specs.declared.archive_stop.ArchiveStop.{ArchiveStop}
use Rattle.life_archive.specs.declared.archive_stop.ArchiveStop.TheVariants.{Job, NoPort}

-- ---- connections

-- One served connection: the bytes that it sent, if known; its first messages, which were answered; the written part of
-- their replies, and the rest. `ended` means that it was served to its end: all its messages were answered, and all
-- replies were written.
pub record Exchange : Type 0 where
  pub sent : Option (List ℕ)
  pub messages : List Message
  pub put : List ℕ
  pub rest : List ℕ
  pub ended : Bool
  pub first : AreFirstOfStream sent messages
  pub whole : IsTrue ended → AreAllOf sent messages × (rest ≡ [])

-- the messages of all connections in turn
abbrev pub messages_of : List Exchange → List Message
messages_of [] = []
messages_of (e ∷ es) = e.messages ++ messages_of es

-- and their replies, with the parts that were not written
abbrev pub replies_of : List Exchange → List ℕ
replies_of [] = []
replies_of (e ∷ es) = (e.put ++ e.rest) ++ replies_of es

-- The known facts about connections: the bytes that each future one will send, the bytes written to each served one,
-- and how many failed. A connection fails if it was not served to its end.
pub record Traffic : Type 0 where
  pub to_come : Option (List (List ℕ))
  pub put : Option (List (List ℕ))
  pub failures : ℕ

-- the program can't listen: the port is not free, the line that names it could not be written, or memory ran out
abbrev pub CannotListen : ArchiveStop → Type 0
CannotListen NoPort = ⊤
CannotListen (Job Unwritable) = ⊤
CannotListen (Job Unavailable) = ⊤
CannotListen stop = ⊥

-- only the number of failures is known
abbrev pub unknown : ℕ → Traffic
unknown n = record { to_come = None; put = None; failures = n }

-- If the future connections are known, this is the next one, or none came: it sent nothing and counts as failed.
abbrev pub ComesNext : Option (List (List ℕ)) → Option (List (List ℕ)) → Exchange → Type 0
ComesNext None new e = ⊤
ComesNext (Some old) None e = ⊥
ComesNext (Some old) (Some new) e =
    (sent : List ℕ) × (e.sent ≡ Some sent) × ((old ≡ sent ∷ new) ⊎ ((sent ≡ []) × (e.ended ≡ false) × (new ≡ old)))

-- if the written bytes are known, these were written to one more connection
abbrev pub TellsOne : Option (List (List ℕ)) → Option (List (List ℕ)) → List ℕ → Type 0
TellsOne None new put = ⊤
TellsOne (Some old) None put = ⊥
TellsOne (Some old) (Some new) put = new ≡ old ++ put ∷ []

-- the number of failures after one more connection, which was served to its end or not
abbrev pub failures_after : Bool → ℕ → ℕ
failures_after true n = n
failures_after false n = incremented n

-- this connection was the next
abbrev pub Carries : Traffic → Traffic → Exchange → Type 0
Carries old new e =
    ComesNext old.to_come new.to_come e × TellsOne old.put new.put e.put
    × (new.failures ≡ failures_after e.ended old.failures)

-- these connections were the next, in turn
abbrev pub CarriesAll : Traffic → Traffic → List Exchange → Type 0
CarriesAll old new [] = new ≡ old
CarriesAll old new (e ∷ es) = (mid : Traffic) × Carries old mid e × CarriesAll mid new es

-- ---- serving

-- the store answered the messages of the next connection in turn
abbrev pub ServesOne : {S : Type 0} → Ghosts S → ArchiveView S → ArchiveView S → Traffic → Traffic → Type 0
ServesOne g old new before after =
    (e : Exchange) × MessageRun (AnswersMessage (StoreAnswers g)) old e.messages (e.put ++ e.rest) new
    × Carries before after e

-- the store answered the messages of the next `count` connections in turn
pub record ServesSome {S : Type 0} (g : Ghosts S) (count : ℕ) (old new : ArchiveView S)
    (before after : Traffic) : Type 0 where
  pub exchanges : List Exchange
  pub counted : length exchanges ≡ count
  pub carried : CarriesAll before after exchanges
  pub run : MessageRun (AnswersMessage (StoreAnswers g)) old (messages_of exchanges) (replies_of exchanges) new

-- A run over these messages leads from A to B, and its replies are these bytes.
abbrev pub Runs : List Message → List ℕ → Archive → Archive → Type 0
Runs ms bytes A B = MessageRun (AnswersMessage RequestStep) A ms bytes B

-- The effect of serving this many connections on a database. Each archive that it represented went through a run over
-- all their messages. A request whose own fields are invalid gets that refusal, whatever the database does. A crash
-- during the call leaves the archive after a prefix of the messages, or after one more, and only replies to that prefix
-- say that something is stored.
pub record ServesConnections {S : Type 0} (g : Ghosts S) (count : ℕ) (old new : ArchiveView S)
    (before after : Traffic) : Type 0 where
  pub exchanges : List Exchange
  pub counted : length exchanges ≡ count
  pub carried : CarriesAll before after exchanges
  pub served : ByArchive g (Runs (messages_of exchanges) (replies_of exchanges)) old new
  pub own_refusals : MessageRun (AnswersMessage AnswersFirmly) tt (messages_of exchanges) (replies_of exchanges) tt
  pub crash : (A : Archive) → IsTrue old.tables.is_healthy → Represents old A → IsHonest g new
      → (found : Recoverable) → MayBeRecovered g new found
      → IsServedUntil A (messages_of exchanges) (replies_of exchanges) found

-- ---- over files

-- The files represent the archive, with any capacity: the opening chooses it.
abbrev pub FilesRepresent : Image → Archive → Type 0
FilesRepresent image A = EachHasDeposit A.deposits A.censuses × FilesHold image (kept_of A)

-- Opening the files gives the archive. They represent it, or list no table like new files, for an empty archive, or
-- represent it in schema version 1, which an opening migrates.
abbrev pub FilesMean : Image → Archive → Type 0
FilesMean image A =
    FilesRepresent image A ⊎ ((ListNothing image × (A.deposits ≡ []) × (A.censuses ≡ []))
    ⊎ (EachHasDeposit A.deposits A.censuses × FilesHoldFirst image (kept_of A)))

-- The files after a session that began with A, with these messages and replies. After Ok they represent the archive
-- after all messages, now and after a crash. After Err, for example if the disk failed, each image that may be left
-- represents the archive after a prefix of the messages, or after one more. Only replies to that prefix say that
-- something is stored.
abbrev pub Leaves : {D : Type 0} → disk.Ghosts D → Archive → List Message → List ℕ → Result (Files D) (Files D) → Type 0
Leaves g A ms bytes (Ok files) =
    AreClean g files.log files.db → (B : Archive) × Runs ms bytes A B
    × ((image : Image) → outcomes g files.log files.db image → FilesRepresent image B)
Leaves g A ms bytes (Err files) =
    AreClean g files.log files.db → (image : Image) → outcomes g files.log files.db image
    → ∥ IsLeftOf A ms bytes (FilesRepresent image) ∥₁

-- the files in an Ok or an Err
abbrev pub either : {X : Type 0} → Result X X → X
either (Ok x) = x
either (Err x) = x

-- no sync of the files has failed, so that they may be opened
abbrev pub AreUsable : {D : Type 0} → disk.Ghosts D → Files D → Type 0
AreUsable g files = IsTrue (g.is_usable files.log) × IsTrue (g.is_usable files.db)

-- A session over files: their archive went through a run over the messages of this many connections. Each connection
-- got a prefix of its replies, and all of them if it was served to its end. The next session may begin with the files
-- that this one leaves. If the disk is honest to the end of the next session, it was honest in this one.
--
-- The Err case also covers a crash during the session (docs/DEFINITIONS.md, "Crash"). The bytes that peers had received
-- by then are a prefix of the bytes written in that run, since output is only appended.
pub record IsSession {D : Type 0} (g : disk.Ghosts D) (files : Files D) (capacity count : ℕ)
    (before after : Traffic) (left : Result (Files D) (Files D)) : Type 0 where
  pub exchanges : List Exchange
  pub counted : length exchanges ≡ count
  pub carried : CarriesAll before after exchanges
  pub own_refusals : MessageRun (AnswersMessage AnswersFirmly) tt (messages_of exchanges) (replies_of exchanges) tt
  pub honest : AreClean g (either left).log (either left).db → AreClean g files.log files.db
  pub leaves : (A : Archive) → A.capacity ≡ capacity → FilesMean (image_of g files) A
      → Leaves g A (messages_of exchanges) (replies_of exchanges) left

-- The same for an archive that is open.
pub record EndsSession {D : Type 0} (g : disk.Ghosts D) (archive : ArchiveView (FileStore D g))
    (count : ℕ) (before after : Traffic) (left : Result (Files D) (Files D)) : Type 0 where
  pub exchanges : List Exchange
  pub counted : length exchanges ≡ count
  pub carried : CarriesAll before after exchanges
  pub own_refusals : MessageRun (AnswersMessage AnswersFirmly) tt (messages_of exchanges) (replies_of exchanges) tt
  pub honest : AreClean g (either left).log (either left).db → IsHonest over_files archive
  pub leaves : (A : Archive) → IsHealthyIfClean over_files archive
      → (IsTrue archive.tables.is_healthy → Represents archive A)
      → Leaves g A (messages_of exchanges) (replies_of exchanges) left

-- ---- one session after the other

-- the archive under another capacity
abbrev pub under : ℕ → Archive → Archive
under capacity A = record { deposits = A.deposits; censuses = A.censuses; capacity = capacity }

-- Two sessions in turn: the first returned Ok, and the second opened its files. If the disk was honest to the end, the
-- archive in the files went through a run over the messages of the first, and the second began with the result.
abbrev pub SessionsCompose : {D : Type 0} → disk.Ghosts D → Type 0
SessionsCompose {D} g =
    (files mid : Files D) (capacity next count more : ℕ) (w x y z : Traffic) (left : Result (Files D) (Files D))
    (one : IsSession g files capacity count w x (Ok mid)) (two : IsSession g mid next more y z left)
    → AreClean g (either left).log (either left).db → (A : Archive) → A.capacity ≡ capacity
    → FilesMean (image_of g files) A
    → (B : Archive) × Runs (messages_of one.exchanges) (replies_of one.exchanges) A B
    × Leaves g (under next B) (messages_of two.exchanges) (replies_of two.exchanges) left

-- The files after a session that began with this archive, under the session's own capacity.
abbrev pub LeavesAfter : {D : Type 0}
    (g : disk.Ghosts D) {files : Files D} {capacity count : ℕ} {x y : Traffic} {left : Result (Files D) (Files D)}
    → IsSession g files capacity count x y left → Archive → Type 0
LeavesAfter g {capacity = capacity} {left = left} it A =
    Leaves g (under capacity A) (messages_of it.exchanges) (replies_of it.exchanges) left

-- `Next` holds for the archive that follows a session: after Ok, the end of its run; after Err, what a crash may leave
abbrev pub Continues : {X : Type 0} → Archive → List Message → List ℕ → (Archive → Type 0) → Result X X → Type 0
Continues A ms bytes Next (Ok mid) = (B : Archive) × Runs ms bytes A B × Next B
Continues A ms bytes Next (Err mid) = ∥ IsLeftOf A ms bytes Next ∥₁

-- A crash came after a session or interrupted it, and another session opens what the crash left, possibly on another
-- disk. If the first returned Ok, the second begins with the archive after all its messages. Otherwise it begins with
-- the archive after a prefix of them, or after one more, and every acknowledged deposit and census is in it.
abbrev pub SessionsComposeOverCrashes : {D E : Type 0} → disk.Ghosts D → disk.Ghosts E → Type 0
SessionsComposeOverCrashes {D} {E} g h =
    (files : Files D) (again : Files E) (capacity next count more : ℕ) (w x y z : Traffic)
    (mid : Result (Files D) (Files D)) (left : Result (Files E) (Files E))
    (one : IsSession g files capacity count w x mid) (two : IsSession h again next more y z left)
    → AreClean g (either mid).log (either mid).db → outcomes g (either mid).log (either mid).db (image_of h again)
    → (A : Archive) → A.capacity ≡ capacity → FilesMean (image_of g files) A
    → Continues A (messages_of one.exchanges) (replies_of one.exchanges) (LeavesAfter h two) mid
