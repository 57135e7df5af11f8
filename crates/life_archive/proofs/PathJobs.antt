-- Two jobs in turn over the files of a path.
use Rattle.std.proofs.Common.{◌≡◌, ℕ, inl, inr, List, [], ◌∷◌, Result, Ok, Err, IsTrue, refl, sym, subst}
use Rattle.std.proofs.Math.Logic.{∥∥₁_map}
use Rattle.sqlite_disk.specs.declared.Disk as disk
use Rattle.sqlite_disk.specs.declared.Files.{Files}
use Rattle.sqlite_wal.specs.Recovery.{Image}
use Rattle.sqlite_trees.specs.Tree.{Trees}
use Rattle.sqlite_store.specs.FileStore.{recovers}
use Rattle.sqlite.specs.Files.{HoldsDatabase, over_files}
use Rattle.sqlite_store.specs.declared.store.FileStore.{FileStore}
use Rattle.life_store.specs.Recoverable.{IsHonest, Recoverable}
use Rattle.life_store.specs.Opening.{AreReleased}
use Rattle.life_store.specs.Tables.{ArchiveView}
use Rattle.life_desk.specs.declared.request.Request.{Request}
use Rattle.life_desk.specs.declared.request.Reply.{Reply}
use Rattle.life_desk.specs.Archive.{Archive}
use Rattle.life_desk.specs.Validation.{validated}
use Rattle.life_desk.specs.Represents.{Represents, RecoveredRepresents, kept_of, MigratedIsTheSame}
use Rattle.life_desk.specs.Run.{RequestRun, IsCrashOf}
use Rattle.life_desk.proofs.Representing.{each_of}
use Rattle.life_desk.proofs.Steps.{step_each, after_each}
use Rattle.life_archive.specs.Deposit.{Deposits}
use Rattle.life_archive.specs.Session.{FilesRepresent, FilesMean, under, messages_of, replies_of}
use Rattle.life_archive.specs.ArchivePath.{PathJob, by_session, by_deposit, BecomesBy, LeavesFrom, LeavesOne}
use Rattle.life_archive.specs.ArchivePath.{IsLeftOfRun}
use Rattle.life_archive.specs.ArchivePath.{IsLeftBy, last_of, OpensAs, IsSafeIfAsked, IsLeftIfAsked, PathJobsCompose}
use Rattle.life_archive.specs.ArchivePath.{PathJobsComposeOverCrashes, PathJobsComposeOverRefusals}
use Rattle.life_archive.proofs.SessionLemmas.{Each, begun_with, files_hold, left_as, left_then}

pub job_leaves : {D : Type 0} (g : disk.Ghosts D) (image : Image) (capacity : ℕ) (left : Result (Files D) (Files D))
    (job : PathJob g image capacity left) → LeavesFrom g image capacity (BecomesBy job) left
job_leaves g image capacity left (by_session it) = it.leaves
job_leaves g image capacity left (by_deposit it) = it.leaves

pub path_jobs_compose : {D E : Type 0} (g : disk.Ghosts D) (h : disk.Ghosts E) → PathJobsCompose g h
path_jobs_compose {D} {E} g h image again capacity next mid left one two clean found A fits begins =
    let done = job_leaves g image capacity (Ok mid) one A fits begins clean in
    let means : FilesRepresent again done.0 = elim found [
      | inl may ↦ done.2 again may
      | inr alone ↦ subst (λ (it : Image). FilesRepresent it done.0) (sym alone) done.3
    ] in
    (done.0, done.1, job_leaves h again next left two (under next done.0) refl (inl means))

-- ---- after a crash

run_each : (A B : Archive) (qs : List Request) (rs : List Reply) → RequestRun A qs rs B → Each A → Each B
run_each A B [] [] is each = subst Each (sym is) each
run_each A B [] (r ∷ rs) is each = absurd is
run_each A B (q ∷ qs) [] is each = absurd is
run_each A B (q ∷ qs) (r ∷ rs) (mid, step, rest) each = run_each mid B qs rs rest (step_each A q r mid step each)

-- what a crash left of requests, said otherwise
crash_as : (A : Archive) (qs : List Request) (rs : List Reply) (found : Recoverable) (Q : Archive → Type 0)
    → Each A → ((X : Archive) → Each X → RecoveredRepresents found X → Q X) → IsCrashOf A qs rs found
    → IsLeftOfRun A qs rs Q
crash_as A qs rs found Q each says it =
    let there = run_each A it.mid it.front it.given it.run each in
    record {
      front = it.front;
      back = it.back;
      given = it.given;
      rest = it.rest;
      requests = it.requests;
      replies = it.replies;
      mid = it.mid;
      run = it.run;
      left = elim it.left [
        | inl mean ↦ inl (says it.mid there mean)
        | inr more ↦ inr (more.0, more.1, more.2, says _ (after_each it.mid (validated more.0) there) more.3)
      ];
      unpromised = it.unpromised;
    }

module _ {D E : Type 0} (g : disk.Ghosts D) (h : disk.Ghosts E) (migrated : MigratedIsTheSame)
    (image again : Image) (capacity next : ℕ) (mid : Result (Files D) (Files D)) (left : Result (Files E) (Files E))
    (two : PathJob h again next left)
    (A : Archive) (fits : A.capacity ≡ capacity) (begins : FilesMean image A) where
  second : (X : Archive) → FilesRepresent again X → LeavesOne h (BecomesBy two (under next X)) left
  second X mean = job_leaves h again next left two (under next X) refl (inl mean)

  over_crash : (one : PathJob g image capacity mid) → IsHonest over_files (last_of one) → (db : Trees)
      → recovers (last_of one).store db → HoldsDatabase again db
      → IsLeftBy one A (λ B. LeavesOne h (BecomesBy two (under next B)) left)
  over_crash (by_session it) clean db may holds =
      let healthy = it.opens.healthy (it.serves.served.transition.crash.honest clean) in
      let mean = begun_with it.opened image it.opens.found it.opens.fresh it.opens.migrated
      migrated capacity it.opens.capacity A fits begins healthy in
      left_then A (messages_of it.serves.exchanges) (replies_of it.serves.exchanges) (FilesRepresent again)
      (λ B. LeavesOne h (BecomesBy two (under next B)) left) second
      (left_as A (messages_of it.serves.exchanges) (replies_of it.serves.exchanges) (RecoveredRepresents db)
      (FilesRepresent
      again) (each_of it.opened A mean) (λ X each means. (each, files_hold again db (kept_of X) means holds))
      (it.serves.crash A healthy mean clean db may))
  over_crash (by_deposit {member = member} {token = token} {known = known} {before = before}
      {after = after} {answer = answer} it) clean db may holds =
      cut it.opened it.last it.opens it.deposits it.crash clean may
    where
      cut : (a last : ArchiveView (FileStore D g)) (opens : OpensAs image capacity a)
          (deposits : Deposits over_files a last member token known before after answer) → IsSafeIfAsked deposits
          → IsHonest over_files last → recovers last.store db
          → IsLeftIfAsked deposits A (λ B. LeavesOne h (BecomesBy two (under next B)) left)
      cut a last opens (inl unasked) safe clean may =
          let same = subst (λ (t : ArchiveView (FileStore D g)). IsHonest over_files t → IsHonest over_files a)
          (sym unasked.1) (λ honest. honest) in
          let healthy = opens.healthy (same clean) in
          let mean = begun_with a image opens.found opens.fresh opens.migrated migrated capacity
          opens.capacity A fits begins healthy in
          let up = subst (λ (t : ArchiveView (FileStore D g)). IsTrue t.tables.is_healthy) (sym unasked.1) healthy in
          let means = subst (λ (t : ArchiveView (FileStore D g)). Represents t A) (sym unasked.1) mean in
          second A (each_of a A mean, files_hold again db (kept_of A) (safe A up means db may) holds)
      cut a last opens (inr once) safe clean may =
          let healthy = opens.healthy (once.answered.transition.crash.honest clean) in
          let mean = begun_with a image opens.found opens.fresh opens.migrated migrated capacity
          opens.capacity A fits begins healthy in
          crash_as A _ _ db (λ B. LeavesOne h (BecomesBy two (under next B)) left) (each_of a A mean)
          (λ X each means. second X (each, files_hold again db (kept_of X) means holds))
          (safe A healthy mean clean db may)

pub path_jobs_over_crashes : {D E : Type 0} (g : disk.Ghosts D) (h : disk.Ghosts E) → MigratedIsTheSame
    → PathJobsComposeOverCrashes g h
path_jobs_over_crashes g h migrated image again capacity next mid left one two clean found A fits begins =
    ∥∥₁_map found
    (λ it. over_crash g h migrated image again capacity next mid left two A fits begins one clean it.0 it.1 it.2)

-- ---- after a close that was refused

job_released : {D : Type 0} (g : disk.Ghosts D) (image : Image) (capacity : ℕ) (mid : Files D)
    (job : PathJob g image capacity (Err mid)) → AreReleased (last_of job).store mid
job_released g image capacity mid (by_session it) = it.released
job_released g image capacity mid (by_deposit it) = it.released

pub path_jobs_over_refusals : {D E : Type 0} (g : disk.Ghosts D) (h : disk.Ghosts E) → MigratedIsTheSame
    → PathJobsComposeOverRefusals g h
path_jobs_over_refusals g h migrated image again capacity next mid left one two clean up may A fits begins =
    let gone = job_released g image capacity mid one in
    elim (gone.left clean up) [
      | inl allowed ↦
          inl (path_jobs_over_crashes g h migrated image again capacity next (Err mid) left one two
          (gone.honest clean) (allowed clean again may) A fits begins)
      | inr failed ↦ inr failed
    ]
