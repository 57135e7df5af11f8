-- The effects of the private functions that answer each kind of request.
use Rattle.std.specs.Prelude.{◌≡◌, ◌⊎◌, true, Option, None, Some, Result, IfOk, OnOk, IsTrue, MatchResult}
use Rattle.sqlite_trees.specs.declared.store.Store.{Ghosts}
use Rattle.life_store.specs.Crash.{NothingNew}
use Rattle.life_store.specs.Recoverable.{Recoverable}
use Rattle.life_store.specs.Tables.{ArchiveView, IsTransition, IsHealthyIfClean}
use Rattle.life_store.specs.declared.store_fault.Unavailable.{Unavailable}
use Rattle.life_store.specs.declared.kept.Deposit.{Deposit}
use Rattle.life_desk.specs.declared.refusal.Refusal.TheVariants as refusals
use Rattle.life_desk.specs.declared.request.Reply.{Reply}
use Rattle.life_desk.specs.declared.request.Reply.TheVariants as replies
use Rattle.life_desk.specs.Archive.{Archive}
use Rattle.life_desk.specs.Represents.{Represents, RecoveredRepresents}
use Rattle.life_desk.specs.Replies.{acknowledges}

-- The effect of a call, if the database is healthy after it and the tables represented an archive: this reply and this
-- archive, or Err and the same archive.
abbrev pub Effect : {S : Type 0} → ArchiveView S → ArchiveView S → Result Reply Unavailable → (Archive → Reply → Type 0)
    → (Archive → Archive) → Type 0
Effect old new result gives leaves =
    (A : Archive) → IsTrue new.tables.is_healthy → Represents old A
    → MatchResult result (λ r. gives A r × Represents new (leaves A)) (λ _. Represents new A)

-- the same for archives that satisfy `satisfies`
abbrev pub EffectIf : {S : Type 0} → ArchiveView S → ArchiveView S → Result Reply Unavailable
    → (Archive → Type 0) → (Archive → Reply → Type 0) → (Archive → Archive) → Type 0
EffectIf old new result satisfies gives leaves =
    (A : Archive) → IsTrue new.tables.is_healthy → Represents old A → satisfies A
    → MatchResult result (λ r. gives A r × Represents new (leaves A)) (λ _. Represents new A)

-- every archive gives this reply and stays unchanged
abbrev pub IsGivenByAll : (Archive → Reply → Type 0) → (Archive → Archive) → Reply → Type 0
IsGivenByAll gives leaves r = (A : Archive) → gives A r × (leaves A ≡ A)

-- the answer does not depend on the stored contents, or the database is healthy unless its disk has lied
abbrev pub AnswersOnlyIfHealthy : {S : Type 0} → Ghosts S → ArchiveView S → Result Reply Unavailable
    → (Archive → Reply → Type 0) → (Archive → Archive) → Type 0
AnswersOnlyIfHealthy g new result gives leaves = IfOk result (λ r. IsHealthyIfClean g new ⊎ IsGivenByAll gives leaves r)

-- ---- what a crash may leave of such a call

-- The database was healthy. If its tables represented an archive that satisfies `satisfies`, the trees represent that
-- archive after the change.
abbrev pub RepresentChangedIf : {S : Type 0} → ArchiveView S → (Archive → Type 0) → (Archive → Archive) → Recoverable
    → Type 0
RepresentChangedIf old satisfies change found =
    IsTrue old.tables.is_healthy × ((A : Archive) → Represents old A → satisfies A
    → RecoveredRepresents found (change A))

-- the same for every archive
abbrev pub RepresentChanged : {S : Type 0} → ArchiveView S → (Archive → Archive) → Recoverable → Type 0
RepresentChanged old change found = RepresentChangedIf old (λ A. Unit {0}) change found

-- if the reply acknowledges something, the database is healthy unless its disk has lied
abbrev pub AcknowledgesOnlyIfHealthy : {S : Type 0} → Ghosts S → ArchiveView S → Result Reply Unavailable → Type 0
AcknowledgesOnlyIfHealthy g new result = IfOk result (λ r. acknowledges r ≡ true → IsHealthyIfClean g new)

-- ---- censuses

-- The refusal of a census whose token is used by another census, by its deposit: a missing one is refused first.
abbrev pub reused_reply : Option Deposit → Reply
reused_reply None = replies.Refused refusals.NoSuchDeposit
reused_reply (Some d) = replies.Refused refusals.TokenReused

-- ---- calls that only show something

-- The reply is this one, and the archive stays. A crash leaves what it might have left before. A database that answers
-- is healthy unless its disk has lied.
pub record ReadOnly {S : Type 0} (g : Ghosts S) (old new : ArchiveView S) (result : Result Reply Unavailable)
    (gives : Archive → Reply → Type 0) : Type 0 where
  pub transition : IsTransition g NothingNew old new
  pub promised : AcknowledgesOnlyIfHealthy g new result
  pub healthy : OnOk result (IsHealthyIfClean g new)
  pub effect : Effect old new result gives (λ A. A)
