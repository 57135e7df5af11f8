-- The contents of files that were closed after a session or a deposit.
use Rattle.std.proofs.Common.{◌≡◌, ℕ, List, Option, Result, Ok, Err, IsTrue, option_map, refl, sym, subst, inl, inr}
use Rattle.std.specs.Prelude.{IfErr}
use Rattle.sqlite_disk.specs.declared.Disk as disk
use Rattle.sqlite_disk.specs.declared.Files.{Files}
use Rattle.sqlite_wal.specs.Reads.{AreClean}
use Rattle.sqlite_wal.specs.Recovery.{Image}
use Rattle.sqlite_store.specs.declared.store.FileStore.{FileStore}
use Rattle.sqlite.specs.Files.{image_of, over_files}
use Rattle.life_store.specs.Kept.{Kept}
use Rattle.life_store.specs.declared.store_fault.OpenFault.{OpenFault}
use Rattle.life_store.specs.declared.store_fault.OpenFault.TheVariants.{NotOurs}
use Rattle.life_store.specs.Opening.{FilesHold, LeftHold, AreReleased, AreRefusedAs, without_log}
use Rattle.life_store.specs.Tables.{ArchiveView, Holds}
use Rattle.life_desk.specs.declared.request.Request.TheVariants as requests
use Rattle.life_desk.specs.Archive.{Archive}
use Rattle.life_desk.specs.Represents.{Represents, kept_of, MigratedIsTheSame}
use Rattle.life_desk.specs.Run.{RequestStep, IsDurable}
use Rattle.life_desk.proofs.RequestRuns.{IsSettled}
use Rattle.life_desk.proofs.Representing.{holds_of, each_of}
use Rattle.life_pages.specs.ServedArchive.{IsTakenBy}
use Rattle.life_archive.specs.declared.archive_stop.ArchiveStop.{ArchiveStop}
use Rattle.life_archive.specs.Deposit.{AsksOnce, Deposits, IsDepositSafe}
use Rattle.life_archive.specs.Session.{Traffic, Runs, ServesConnections, messages_of, replies_of}
use Rattle.life_archive.specs.ArchivePath.{PathFiles, IsUnopened, IsUnlistened, ClosesUnasked, opening_stop, OpensAs}
use Rattle.life_archive.specs.ArchivePath.{LeavesFrom, BecomesByDeposit, EndsPathDeposit, IsPathDeposit}
use Rattle.life_archive.specs.ArchivePath.{EndsPathSession}
use Rattle.life_archive.specs.ArchivePath.{IsPathSession}
use Rattle.life_archive.proofs.SessionLemmas.{begun_with}

module _ {D : Type 0} {g : disk.Ghosts D} (a last : ArchiveView (FileStore D g)) (migrated : MigratedIsTheSame)
    (files : Files D)
    (healthy : AreClean g files.log files.db → IsTrue last.tables.is_healthy)
    (left : (k : Kept) → AreClean g files.log files.db → Holds last.tables k → LeftHold g files k)
    (alone : (k : Kept) → AreClean g files.log files.db → Holds last.tables k
    → FilesHold (without_log (image_of g files)) k) where
  -- what is left, by what became of the archives that the tables represented
  closed_by : (P : Archive → Archive → Type 0) → (IsTrue last.tables.is_healthy → IsTrue a.tables.is_healthy)
      → (IsTrue last.tables.is_healthy → (A : Archive) → Represents a A → IsTakenBy P A last)
      → (image : Image) (capacity : ℕ) → OpensAs image capacity a → LeavesFrom g image capacity P (Ok files)
  closed_by P was run image capacity opens A fits begins clean =
      let now = healthy clean in
      let done = run now A (begun_with a image opens.found opens.fresh opens.migrated migrated
      capacity opens.capacity A fits begins (was now)) in
      let held = holds_of last done.0 done.2 in (
        done.0,
        done.1,
        λ image may. (each_of last done.0 done.2, left (kept_of done.0) clean held image may),
        (each_of last done.0 done.2, alone (kept_of done.0) clean held),
      )

  pub closed_leaves : (count : ℕ) (x y : Traffic) (serves : ServesConnections over_files count a last x y)
      (image : Image) (capacity : ℕ) → OpensAs image capacity a
      → LeavesFrom g image capacity (Runs (messages_of serves.exchanges) (replies_of serves.exchanges)) (Ok files)
  closed_leaves count x y serves =
      closed_by (Runs (messages_of serves.exchanges) (replies_of serves.exchanges)) serves.served.transition.was_healthy
      serves.served.run

  -- .. of one that nobody asked
  pub unasked_leaves : last ≡ a → (image : Image) (capacity : ℕ) → OpensAs image capacity a
      → LeavesFrom g image capacity (λ A B. B ≡ A) (Ok files)
  unasked_leaves same =
      closed_by (λ A B. B ≡ A) (subst (λ (t : ArchiveView (FileStore D g)). IsTrue t.tables.is_healthy
      → IsTrue a.tables.is_healthy) (sym same) (λ healthy. healthy))
      (λ now A mean. (A, refl, subst (λ (t : ArchiveView (FileStore D g)). Represents t A) (sym same) mean))

  module _ (member token : List ℕ) (known before after : Option (List ℕ)) (answer : Result (Unit {0}) ArchiveStop) where
    one_step : (once : AsksOnce over_files a last member token known before after answer)
        → IsTrue last.tables.is_healthy → (A : Archive) → Represents a A
        → IsTakenBy (λ A B. RequestStep A (requests.Deposit member token once.file) once.reply B) A last
    one_step once now A mean =
        let done = once.answered.run now A mean in (
          done.0,
          subst (λ (B : Archive). RequestStep A (requests.Deposit member token once.file) once.reply B)
              (sym done.1.2) done.1.1,
          done.2,
        )

    pub deposit_leaves : (deposits : Deposits over_files a last member token known before after answer)
        (image : Image) (capacity : ℕ) → OpensAs image capacity a
        → LeavesFrom g image capacity (BecomesByDeposit deposits) (Ok files)
    deposit_leaves (inl unasked) =
        closed_by (λ A B. B ≡ A) (subst (λ (t : ArchiveView (FileStore D g)). IsTrue t.tables.is_healthy
        → IsTrue a.tables.is_healthy) (sym unasked.1) (λ healthy. healthy))
        (λ now A mean. (A, refl, subst (λ (t : ArchiveView (FileStore D g)). Represents t A) (sym unasked.1) mean))
    deposit_leaves (inr once) =
        closed_by (λ A B. RequestStep A (requests.Deposit member token once.file) once.reply B)
        once.answered.transition.was_healthy (one_step once)

-- a deposit in an archive that is open, by what it does to it and by what is left then
pub ends_deposit : {D : Type 0} (g : disk.Ghosts D) (a last : ArchiveView (FileStore D g)) (member token : List ℕ)
    (known before after : Option (List ℕ)) (answer : Result (Unit {0}) ArchiveStop) (left : Result (Files D) (Files D))
    → IsSettled over_files a → IsDepositSafe over_files a last member token known before after answer
    → ((deposits : Deposits over_files a last member token known before after answer) (image : Image) (capacity : ℕ)
    → OpensAs image capacity a → LeavesFrom g image capacity (BecomesByDeposit deposits) left)
    → IfErr left (AreReleased last.store) → EndsPathDeposit g a member token known before after answer left
ends_deposit {D} g a last member token known before after answer left settled (inl unasked) leaves gone = record {
  last = last;
  deposits = inl unasked;
  crash =
      subst (λ (t : ArchiveView (FileStore D g)). IsDurable over_files t) (sym unasked.1)
      (λ B healthy mean found may. settled healthy (kept_of B) (holds_of a B mean) found may);
  leaves = leaves (inl unasked);
  released = gone;
}
ends_deposit g a last member token known before after answer left settled (inr safe) leaves gone =
    record { last = last; deposits = inr safe.0; crash = safe.1; leaves = leaves (inr safe.0); released = gone }

-- a deposit over what was opened
pub is_path_deposit : {D : Type 0} {g : disk.Ghosts D} (a : ArchiveView (FileStore D g)) (image : Image) (capacity : ℕ)
    (member token : List ℕ) (known before after : Option (List ℕ)) (answer : Result (Unit {0}) ArchiveStop)
    (left : Result (Files D) (Files D))
    → OpensAs image capacity a → EndsPathDeposit g a member token known before after answer left
    → IsPathDeposit g image capacity member token known before after answer left
is_path_deposit a image capacity member token known before after answer left opens it =
    record {
      opened = a;
      last = it.last;
      opens = opens;
      deposits = it.deposits;
      crash = it.crash;
      leaves = it.leaves image capacity opens;
      released = it.released;
    }

-- a session over what was opened, with connections that were the same before it was listened to them
pub is_path_session : {D : Type 0} {g : disk.Ghosts D} (a : ArchiveView (FileStore D g)) (image : Image)
    (capacity count : ℕ) (x y z : Traffic) (left : Result (Files D) (Files D)) → y ≡ x → OpensAs image capacity a
    → EndsPathSession g a count y z left → IsPathSession g image capacity count x z left
is_path_session {g = g} a image capacity count x y z left same opens ended =
    let it = subst (λ (t : Traffic). EndsPathSession g a count t z left) same ended in
    record {
      opened = a;
      last = it.last;
      opens = opens;
      serves = it.serves;
      leaves = it.leaves image capacity opens;
      released = it.released;
    }

-- why an opening was refused
pub unopened : {D : Type 0} (g : disk.Ghosts D) (image : Image) (fault : OpenFault) (stop : ArchiveStop)
    (refused : Option (Files D)) (left : PathFiles D) → stop ≡ opening_stop fault → left ≡ option_map Err refused
    → (fault ≡ NotOurs → AreRefusedAs g image refused) → IsUnopened g image stop left
unopened g image fault stop refused left is gone anothers =
    record { fault = fault; refused = refused; stop_is = is; left_is = gone; anothers = anothers }

-- an archive that was closed since nobody could be listened to
pub unlistened : {D : Type 0} {g : disk.Ghosts D} (a : ArchiveView (FileStore D g)) (image : Image)
    (capacity : ℕ) (left : Result (Files D) (Files D)) → OpensAs image capacity a → ClosesUnasked g a left
    → IsUnlistened g image capacity left
unlistened a image capacity left opens it =
    record { opened = a; opens = opens; leaves = it.leaves image capacity opens; released = it.released }
