-- Runs: lists of requests with their replies, and the archive after them. `answer` makes one step of a run, and
-- `answer_all` makes several.
use Rattle.std.specs.Prelude.{◌≡◌, ◌∷◌, [], ◌++◌, ◌⊎◌, false, List, IsOk, IsTrue, ⊤}
use Rattle.std.specs.List.{AllByRecursion}
use Rattle.sqlite_trees.specs.declared.store.Store.{Ghosts}
use Rattle.life_store.specs.declared.kept.Deposit.{Deposit}
use Rattle.life_store.specs.declared.kept.Census.{Census}
use Rattle.life_store.specs.Recoverable.{IsHonest, Recoverable, MayBeRecovered}
use Rattle.life_store.specs.Tables.{ArchiveView, IsTransition}
use Rattle.life_desk.specs.declared.refusal.Refusal.TheVariants as refusals
use Rattle.life_desk.specs.declared.request.Request.{Request}
use Rattle.life_desk.specs.declared.request.Reply.{Reply}
use Rattle.life_desk.specs.declared.request.Reply.TheVariants as replies
use Rattle.life_desk.specs.Archive.{Archive}
use Rattle.life_desk.specs.Validation.{validated}
use Rattle.life_desk.specs.Replies.{IsReply, after, acknowledges}
use Rattle.life_desk.specs.Represents.{Represents, RecoveredRepresents}

-- One request gets its reply and makes its change. If its own fields are valid, it may instead get `unavailable` and
-- change nothing.
pub data RequestStep (A : Archive) (q : Request) : Reply → Archive → Type 0 where
  answers : (r : Reply) → IsReply A q r → RequestStep A q r (after A q)
  unavailable : IsOk (validated q) → RequestStep A q (replies.Refused refusals.Unavailable) A

-- Every archive may give this reply and stay unchanged, so the reply says nothing about the stored contents.
abbrev pub IsStateless : Request → Reply → Type 0
IsStateless q r = (A : Archive) → RequestStep A q r A

-- the requests, one after the other, each with its reply: from A to B
abbrev pub RequestRun : Archive → List Request → List Reply → Archive → Type 0
RequestRun A [] [] B = B ≡ A
RequestRun A (q ∷ qs) (r ∷ rs) B = (mid : Archive) × RequestStep A q r mid × RequestRun mid qs rs B
RequestRun A [] (r ∷ rs) B = ⊥
RequestRun A (q ∷ qs) [] B = ⊥

-- in the lists of a run, this request got this reply
abbrev pub IsAnswered : List Request → List Reply → Request → Reply → Type 0
IsAnswered (q ∷ qs) (r ∷ rs) asked given = ((q ≡ asked) × (r ≡ given)) ⊎ IsAnswered qs rs asked given
IsAnswered [] rs asked given = ⊥
IsAnswered (q ∷ qs) [] asked given = ⊥

-- B has the deposits and the censuses of A under the same numbers, possibly more after them, and the capacity of A
pub record IsLater (A B : Archive) : Type 0 where
  pub new_deposits : List Deposit
  pub deposits : B.deposits ≡ A.deposits ++ new_deposits
  pub new_censuses : List Census
  pub censuses : B.censuses ≡ A.censuses ++ new_censuses
  pub capacity : B.capacity ≡ A.capacity

-- no reply says that something is stored
abbrev pub AcknowledgeNothing : List Reply → Type 0
AcknowledgeNothing rs = AllByRecursion (λ r. acknowledges r ≡ false) rs

-- The trees represent the archive after a prefix of the requests of a run from A, or after one request more. Only
-- replies to that prefix say that something is stored.
pub record IsCrashOf (A : Archive) (qs : List Request) (rs : List Reply) (found : Recoverable) : Type 0 where
  pub front : List Request
  pub back : List Request
  pub given : List Reply
  pub rest : List Reply
  pub requests : qs ≡ front ++ back
  pub replies : rs ≡ given ++ rest
  pub mid : Archive
  pub run : RequestRun A front given mid
  pub left : RecoveredRepresents found mid
      ⊎ ((next : Request) × (more : List Request) × (back ≡ next ∷ more) × RecoveredRepresents found (after mid next))
  pub unpromised : AcknowledgeNothing rest

-- A crash after these requests leaves one of two things. If no reply says that something is stored, it may leave what
-- it might have left before them. If the database was healthy, it may leave the result of a crash during a run, from
-- any archive that the tables represented.
abbrev pub MayBeRecoveredOf : {S : Type 0} → Ghosts S → ArchiveView S → List Request → List Reply → Recoverable → Type 0
MayBeRecoveredOf g old qs rs found =
    (MayBeRecovered g old found × AcknowledgeNothing rs)
    ⊎ (IsTrue old.tables.is_healthy × ((A : Archive) → Represents old A → IsCrashOf A qs rs found))

-- The store answered the requests. If the database is healthy at the end, it was healthy at the start, and a run leads
-- from each archive that the tables represented to one that they represent now. For a disk that returned everything as
-- it was written, two more facts hold. If the database was healthy at the start, the replies come from a run even if
-- the disk failed on the way. If it was not, the replies say nothing about the stored contents. The last clause is
-- about crashes.
pub record Answered {S : Type 0} (g : Ghosts S) (old new : ArchiveView S) (qs : List Request)
    (rs : List Reply) : Type 0 where
  pub transition : IsTransition g (λ db. ⊤) old new
  pub run : IsTrue new.tables.is_healthy → (A : Archive) → Represents old A
      → (B : Archive) × RequestRun A qs rs B × Represents new B
  pub replied : IsHonest g new → IsTrue old.tables.is_healthy → (A : Archive) → Represents old A
      → (B : Archive) × RequestRun A qs rs B × (IsTrue new.tables.is_healthy → Represents new B)
  pub shut : IsHonest g new → old.tables.is_healthy ≡ false → (A : Archive) → RequestRun A qs rs A
  pub left : IsHonest g new → (found : Recoverable) → MayBeRecovered g new found → MayBeRecoveredOf g old qs rs found

-- ---- crashes

module _ {S : Type 0} (g : Ghosts S) where
  -- If the database was healthy and its disk has returned everything as it was written, a crash during the call leaves
  -- the archive after a prefix of the requests, or after one request more. It includes every acknowledged one.
  abbrev pub IsCrashSafe : ArchiveView S → ArchiveView S → List Request → List Reply → Type 0
  IsCrashSafe old new qs rs =
      (A : Archive) → IsTrue old.tables.is_healthy → Represents old A → IsHonest g new → (found : Recoverable)
      → MayBeRecovered g new found → IsCrashOf A qs rs found

  -- If the database is healthy, a crash leaves exactly the archive that the tables represent.
  abbrev pub IsDurable : ArchiveView S → Type 0
  IsDurable new =
      (B : Archive) → IsTrue new.tables.is_healthy → Represents new B → (found : Recoverable)
      → MayBeRecovered g new found
      → RecoveredRepresents found B
