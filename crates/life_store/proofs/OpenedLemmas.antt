-- What a refused opening leaves of files.
use Rattle.std.proofs.Common.{Result, Ok, Err, ◌≡◌, ◌⊎◌, inl, inr, true, false, refl, sym, ap, ap₂, subst, ◌∙◌}
use Rattle.std.proofs.Math.Logic.{∥∥₁_map}
use Rattle.std.specs.Prelude.{IsTrue, IfErr}
use Rattle.sqlite_disk.specs.declared.Disk.{Ghosts}
use Rattle.sqlite_disk.specs.declared.Files.{Files}
use Rattle.sqlite_wal.specs.Files.{outcomes}
use Rattle.sqlite_wal.specs.Recovery.{Image}
use Rattle.sqlite_wal.specs.Reads.{AreClean}
use Rattle.sqlite_wal.proofs.LogLemmas.{SeenMayStay}
use Rattle.sqlite_pool.proofs.StateLemmas.{clean_is, may_leave_is}
use Rattle.sqlite_trees.specs.Tree.{Trees}
use Rattle.sqlite_trees.specs.View.{IsClean}
use Rattle.sqlite_trees.proofs.Doubt.{no_doubt}
use Rattle.sqlite_catalog.specs.Listing.{IsSound}
use Rattle.sqlite_store.specs.declared.store.FileStore.{FileStore}
use Rattle.sqlite_store.specs.FileStore as shown
use Rattle.sqlite_store.specs.FileStore.{view, recovers}
use Rattle.sqlite_store.specs.Laws.{settled_at, stays_at}
use Rattle.sqlite.specs.declared.file.Leftover.{Leftover}
use Rattle.sqlite.specs.declared.file.Leftover.TheVariants as left
use Rattle.sqlite.specs.Closing.{IsCopied, files_left}
use Rattle.sqlite.specs.Effect.{Database}
use Rattle.sqlite.specs.Files.{HoldsDatabase, Finds, LeavesFiles, IsCleanLeft, IsOpened, image_of, file_state}
use Rattle.sqlite.specs.Files.{over_files}
use Rattle.sqlite.specs.Held.{Held, AreDatabases}
use Rattle.sqlite.specs.State.{State, IsLive, HasCleanDisk}
use Rattle.sqlite.proofs.Theorems.{opens_again}
use Rattle.life_store.specs.Crash.{NothingNew, CrashLeaves}
use Rattle.life_store.specs.Kept.{Kept}
use Rattle.life_store.specs.Layout.{first_schema, archive_schema}
use Rattle.life_store.specs.Migration.{HoldsFirst}
use Rattle.life_store.specs.Opening.{FilesHold, FilesHoldFirst, FilesMigrated, LeftHold, ReadsAs, AreReleased}
use Rattle.life_store.specs.Opening.{AreLeftOpened, AreUnharmed}
use Rattle.life_store.specs.OpeningState.{IsForeign, IsMadeOf, AreLeftMade}
use Rattle.life_store.specs.Tables.{Tables, tables_in, tables_of}
use Rattle.life_store.proofs.KeepLemmas.{first_held_as}
use Rattle.life_store.proofs.OpenLemmas.{first_own, second_own, have_first, have_second}
use Rattle.life_store.proofs.SchemaLemmas.{finds_held, finds_first, held_closed}

-- ---- files that the kit does not open

clean_left : {D : Type 0} {g : Ghosts D} (it : Leftover D g) → AreClean g (files_left it).0 (files_left it).1
    → IsCleanLeft it
clean_left (left.Files files) clean = clean
clean_left (left.Unopened files) clean = clean_is files.pool ∙ clean
clean_left (left.Store store) clean = clean_is store.pool ∙ clean

pub left_unopened : {D : Type 0} {g : Ghosts D} (files now : Files D) (it : Leftover D g)
    → (now.log, now.db) ≡ files_left it → (IsCleanLeft it → LeavesFiles files it) → AreUnharmed g files now
left_unopened {D} {g} files now it is leaves clean =
    inl (it, sym is, leaves (clean_left it (subst (λ p. AreClean g p.0 p.1) is clean)))

pub left_alone : {D : Type 0} (g : Ghosts D) (files : Files D) → AreUnharmed g files files
left_alone g files clean = inl (left.Files files, refl, λ image may. may)

-- ---- a database that was opened

module _ {D : Type 0} {g : Ghosts D} (t : Tables) (was last : FileStore D g) (now : Files D) where
  clean_last : (now.log, now.db) ≡ shown.files last → AreClean g now.log now.db → IsClean (view last)
  clean_last is clean = no_doubt _ (clean_is last.pool ∙ subst (λ p. AreClean g p.0 p.1) is clean)

  -- .. whose store is let go
  pub made_by_store : (now.log, now.db) ≡ shown.files last → CrashLeaves over_files (IsMadeOf t) was last
      → (IsClean (view last) → IsTrue (view last).is_numbered) → (IsClean (view last) → AreDatabases (recovers last))
      → AreClean g now.log now.db
      → IsClean (view was) × AreLeftMade t was now
  made_by_store is crash numbered sound clean =
      let none = clean_last is clean in
      let healthy_now : AreClean g (shown.files last).0 (shown.files last).1 =
      subst (λ p. AreClean g p.0 p.1) is clean in (
        crash.honest none,
        λ image may. ∥∥₁_map (opens_again last (numbered none) (sound none) image
            (may_leave_is last.pool image healthy_now (subst (λ p. outcomes g p.0 p.1 image) is may))) (λ found.
            let r : (db : Trees) × (recovers was db ⊎ IsMadeOf t db) × (HoldsDatabase image db
            ⊎ (IsForeign t × ReadsAs image db)) = (found.0, crash.found none found.0 found.1, inl found.2) in
            r),
      )

-- .. and which is closed
pub made_by_close : {D : Type 0} {g : Ghosts D} (t : Tables) (was : FileStore D g)
    (conn : Held (FileStore D g)) (now : Files D) → SeenMayStay g → CrashLeaves over_files NothingNew was conn.store
    → (AreClean g now.log now.db → IsCopied conn now)
    → AreClean g now.log now.db → IsClean (view was) × AreLeftMade t was now
made_by_close {D} {g} t was conn now stays crash copied clean =
    let it = copied clean in (
      crash.honest it.was_clean,
      λ image may.
          let before : recovers was (view conn.store).committed =
          elim (crash.found it.was_clean (view conn.store).committed (stays_at conn.store stays it.was_open)) [
            | inl still ↦ still
            | inr none ↦ absurd none
          ] in
          ∥∥₁_map (it.left image may).both (λ held.
          let r : (db : Trees) × (recovers was db ⊎ IsMadeOf t db) × (HoldsDatabase image db
          ⊎ (IsForeign t × ReadsAs image db)) = ((view conn.store).committed, inl before, inl held) in
          r),
    )

-- .. or whose close is refused
pub made_by_refusal : {D : Type 0} {g : Ghosts D} (t : Tables) (was mid : FileStore D g) (now : Files D)
    → CrashLeaves over_files NothingNew was mid → AreReleased mid now
    → (IsClean (view mid) → IsTrue (view was).is_open → IsForeign t) → AreClean g now.log now.db
    → IsClean (view was) × (IsTrue (view was).is_open → AreLeftMade t was now)
made_by_refusal {D} {g} t was mid now crash gone foreign clean =
    let none = gone.honest clean in (
      crash.honest none,
      λ up image may. ∥∥₁_map (gone.read clean image may) (λ found.
          let before : recovers was found.0 = elim (crash.found none found.0 found.1) [
            | inl still ↦ still
            | inr never ↦ absurd never
          ] in
          let r : (db : Trees) × (recovers was db ⊎ IsMadeOf t db) × (HoldsDatabase image db
          ⊎ (IsForeign t × ReadsAs image db)) = (found.0, inl before, inr (foreign none up, found.2)) in
          r),
    )

-- ---- what files held

-- files that hold what a connection committed, of schema version 1
first_closed : (old : State) (image : Image) (k : Kept) → IsTrue old.is_open → IsLive old → old.now ≡ old.committed
    → ∥ HoldsDatabase image old.committed.trees ∥₁ → HoldsFirst (tables_of old) k → FilesHoldFirst image k
first_closed old image k up live settled held holds =
    let sound : IsSound first_schema old.committed.trees = subst (λ s. IsSound s old.committed.trees)
    (ap (λ (d : Database). d.schema) (sym settled) ∙ holds.schema) (live up).1 in
    let is : old.now ≡ record { schema = first_schema; trees = old.committed.trees } =
    ap₂ (λ (s : _) (t : Trees). let d : Database = record { schema = s; trees = t } in d) holds.schema
    (ap (λ (d : Database). d.trees) settled) in
    record {
      trees = old.committed.trees;
      held = held;
      sound = sound;
      holds =
          first_held_as (tables_of old).is_healthy true (tables_of old).faults 0 old.in_transaction false
          (record { schema = first_schema; trees = old.committed.trees }) k
          (subst (λ (d : Database). HoldsFirst
          (tables_in (tables_of old).is_healthy (tables_of old).faults old.in_transaction d) k) is holds);
    }

module _ {D : Type 0} {g : Ghosts D} (conn : Held (FileStore D g))
    (before : Image) (now : Files D) (stays : SeenMayStay g) (opened : IsOpened conn)
    (found : (db : Trees) → HoldsDatabase before db → (file_state conn).committed.trees ≡ db)
    (left_made : AreLeftMade (tables_of (file_state conn)) conn.store now) where
  t : Tables
  t = tables_of (file_state conn)

  left_held : (k : Kept) → FilesHold before k → LeftHold g now k
  left_held k hold image may =
      let holds = finds_held (file_state conn) before k opened found hold in
      let up = opened.0.is_open in
      held_closed (file_state conn) image k up opened.1 opened.0.clean
      (∥∥₁_map (left_made image may) (λ one.
      let is : one.0 ≡ (file_state conn).committed.trees = elim one.1 [
        | inl allowed ↦ settled_at conn.store stays one.0 up allowed
        | inr made ↦ absurd (made.old.archive k holds)
      ] in
      elim one.2 [
        | inl held ↦ subst (HoldsDatabase image) is held
        | inr foreign ↦
            absurd (foreign.0 archive_schema second_own (inl (refl, refl))
            (have_second (tables_of (file_state conn)) k holds))
      ])) holds

  left_first : (k : Kept) → FilesHoldFirst before k → (image : Image) → outcomes g now.log now.db image
      → ∥ FilesHoldFirst image k ⊎ FilesMigrated image k ∥₁
  left_first k hold image may =
      let first = finds_first (file_state conn) before k opened found hold in
      let up = opened.0.is_open in
      ∥∥₁_map (left_made image may) (λ one. elim one.2 [
        | inl held ↦ elim one.1 [
          | inl allowed ↦
              inl (first_closed (file_state conn) image k up opened.1 opened.0.clean ∣ subst
              (HoldsDatabase image) (settled_at conn.store stays one.0 up allowed) held ∣₁ first)
          | inr made ↦ inr (record { trees = one.0; held = ∣ held ∣₁; migrated = made.old.carried k first })
        ]
        | inr foreign ↦
            absurd (foreign.0 first_schema first_own (inr (refl, refl))
            (have_first (tables_of (file_state conn)) k first))
      ])

  pub left_opened : AreLeftOpened g before now
  left_opened = record { held = left_held; first = left_first }

abbrev Foreign : {D F : Type 0} {g : Ghosts D} → Held (FileStore D g) → F × Files D → Type 0
Foreign {g = g} conn e =
    AreClean g e.1.log e.1.db → HasCleanDisk (file_state conn)
    × (IsTrue (file_state conn).is_open → AreLeftMade (tables_of (file_state conn)) conn.store e.1)

-- what is left where the tables were not an archive's, or could not be seen to
pub left_made_at : {D F : Type 0} {g : Ghosts D} (conn : Held (FileStore D g)) (before : Image) (e : F × Files D)
    → SeenMayStay g → (HasCleanDisk (file_state conn) → IsOpened conn)
    → (HasCleanDisk (file_state conn) → (db : Trees) → HoldsDatabase before db → (file_state conn).committed.trees ≡ db)
    → Foreign conn e → AreClean g e.1.log e.1.db → AreLeftOpened g before e.1
left_made_at conn before e stays opened found made clean =
    let it = made clean in
    let up = opened it.0 in
    left_opened conn before e.1 stays up (found it.0) (it.1 up.0.is_open)

pub left_made_of : {D : Type 0} {g : Ghosts D} {A F : Type 0} (conn : Held (FileStore D g))
    (files : Files D) (r : Result A (F × Files D)) → SeenMayStay g → (HasCleanDisk (file_state conn) → IsOpened conn)
    → (HasCleanDisk (file_state conn) → Finds files conn)
    → IfErr r (Foreign conn) → IfErr r (λ e. AreUnharmed g files e.1)
left_made_of conn files (Ok a) stays opened found made = tt
left_made_of {g = g} conn files (Err e) stays opened found made =
    λ clean. inr (left_made_at conn (image_of g files) e stays opened (λ now. (found now).holds) made clean)
