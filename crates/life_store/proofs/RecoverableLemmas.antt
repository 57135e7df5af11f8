-- The contents of a store's files after it was given up.
use Rattle.std.proofs.Common.{arith, ◌≡◌, ◌≤◌, ◌⊎◌, inl, inr, refl, sym, subst, ◌∙◌}
use Rattle.std.proofs.Math.Logic.{∥∥₁_elim, ∥∥₁_map}
use Rattle.std.specs.Prelude.{IsTrue}
use Rattle.sqlite_disk.specs.declared.Disk.{Ghosts}
use Rattle.sqlite_disk.specs.declared.Files.{Files}
use Rattle.sqlite_wal.specs.Files.{outcomes}
use Rattle.sqlite_wal.specs.Recovery.{Image}
use Rattle.sqlite_wal.specs.Reads.{AreClean}
use Rattle.sqlite_wal.proofs.LogLemmas.{SeenMayStay}
use Rattle.sqlite_pool.proofs.StateLemmas.{clean_is, may_leave_is, size_is_allowed}
use Rattle.sqlite_pool.proofs.ResealLemmas.{adopts_of}
use Rattle.sqlite_trees.specs.Tree.{Trees}
use Rattle.sqlite_trees.specs.View.{doubt, IsClean, IsQuiet}
use Rattle.sqlite_trees.proofs.Doubt.{no_doubt}
use Rattle.sqlite_store.specs.declared.store.FileStore.{FileStore}
use Rattle.sqlite_store.specs.FileStore as shown
use Rattle.sqlite_store.specs.FileStore.{state, view, recovers, reading, schema_in}
use Rattle.sqlite_store.specs.Laws.{settled_at, stays_at}
use Rattle.sqlite.specs.Files.{HoldsDatabase, file_state}
use Rattle.sqlite.specs.Held.{Held, AreDatabases}
use Rattle.sqlite.specs.Held.{state as state_by}
use Rattle.sqlite_trees.specs.declared.store.Store as stores
use Rattle.sqlite.proofs.Theorems.{opens_again}
use Rattle.life_store.specs.Kept.{Kept}
use Rattle.life_store.specs.Opening.{LeftHold, AreLeftOf, ReadsAs, AreReadOf, AreReleased, HaveFailedSince}
use Rattle.life_store.specs.Tables.{Tables, TreesHold, tables_of}
use Rattle.life_store.proofs.KeepLemmas.{healthy_is}

pub same_store : {D : Type 0} {g : Ghosts D} (a b : FileStore D g) (db : Trees) → a ≡ b → recovers a db → recovers b db
same_store {D} {g} a b db is may = subst (λ (s : FileStore D g). recovers s db) is may

-- the store of a healthy archive, whatever it is over
pub open_below : {S : Type 0} (g : stores.Ghosts S) (conn : Held S) (t : Tables) (s : S)
    → tables_of (state_by g conn) ≡ t → conn.store ≡ s → IsTrue t.is_healthy → IsTrue (g.view s).is_open
open_below {S} g conn t s tables store healthy =
    subst (λ (x : S). IsTrue (g.view x).is_open) store
    (healthy_is (state_by g conn) (subst (λ (x : Tables). IsTrue x.is_healthy) (sym tables) healthy)).1

pub open_store : {D : Type 0} {g : Ghosts D} (conn : Held (FileStore D g)) (t : Tables) (s : FileStore D g)
    → tables_of (file_state conn) ≡ t → conn.store ≡ s → IsTrue t.is_healthy → IsTrue (view s).is_open
open_store {D} {g} conn t s tables store healthy =
    subst (λ (x : FileStore D g). IsTrue (view x).is_open) store
    (healthy_is (file_state conn) (subst (λ (x : Tables). IsTrue x.is_healthy) (sym tables) healthy)).1

-- a disk that is clean at the end was clean
pub left_honest : {D : Type 0} {g : Ghosts D} (conn was last : FileStore D g) (files : Files D)
    → (files.log, files.db) ≡ shown.files last → conn ≡ was → doubt (view conn).is_clean ≤ doubt (view last).is_clean
    → AreClean g files.log files.db
    → IsClean (view was)
left_honest {D} {g} conn was last files is same later clean =
    let none : IsClean (view last) = no_doubt _ (clean_is last.pool ∙ subst (λ p. AreClean g p.0 p.1) is clean) in
    let before : IsClean (view conn) = omega (arith, later, none) in
    subst (λ (s : FileStore D g). IsClean (view s)) same before

-- each image that a crash may leave of a store reads as a database that it allows, whether it is numbered or not
reads_again : {D : Type 0} {g : Ghosts D} (it : FileStore D g) → AreDatabases (recovers it)
    → (left : Image) → (state it).may_leave left → ∥ ((db : Trees) × recovers it db × ReadsAs left db) ∥₁
reads_again {D} {g} it sound left may = ∥∥₁_elim it.safe squash₁ (λ all.
    let found = all left may in
    let db = reading it found.0 in
    let allowed : recovers it db = (left, found.0, may, ∣ found.1 ∣₁, refl) in
    let schema = sound db allowed in
    ∥∥₁_elim (size_is_allowed it.pool) squash₁
    (λ size. ∥∥₁_map found.2 (λ ours. let r : (x : Trees) × recovers it x × ReadsAs left x = (
      db,
      allowed,
      record {
        size = (state it).page_size;
        is_numbered = it.is_numbered;
        is_size = size;
        pages = found.0;
        wanted = schema_in it found.0;
        schema = schema.0;
        found = adopts_of _ left found.0 found.1;
        ours = ours;
        reads = refl;
        sound = schema.1;
      },
    ) in r)))

module _ {D : Type 0} {g : Ghosts D} (was last : FileStore D g) (files : Files D) where
  pub left_allowed : (files.log, files.db) ≡ shown.files last → (IsClean (view last) → IsTrue (view last).is_numbered)
      → (IsClean (view last) → AreDatabases (recovers last)) → ((db : Trees) → recovers last db → recovers was db)
      → AreLeftOf was files
  left_allowed is numbered sound fewer clean image may =
      let healthy_now : AreClean g (shown.files last).0 (shown.files last).1 =
      subst (λ p. AreClean g p.0 p.1) is clean in
      let none : IsClean (view last) = no_doubt _ (clean_is last.pool ∙ healthy_now) in
      ∥∥₁_map (opens_again last (numbered none) (sound none) image
      (may_leave_is last.pool image healthy_now (subst (λ p. outcomes g p.0 p.1 image) is may)))
      (λ found. let r : (db : Trees) × recovers was db
      × HoldsDatabase image db = (found.0, fewer found.0 found.1, found.2) in r)

  pub left_read : (files.log, files.db) ≡ shown.files last → (IsClean (view last) → AreDatabases (recovers last))
      → ((db : Trees) → recovers last db → recovers was db) → AreReadOf was files
  left_read is sound fewer clean image may =
      let healthy_now : AreClean g (shown.files last).0 (shown.files last).1 =
      subst (λ p. AreClean g p.0 p.1) is clean in
      let none : IsClean (view last) = no_doubt _ (clean_is last.pool ∙ healthy_now) in
      ∥∥₁_map (reads_again last (sound none) image
      (may_leave_is last.pool image healthy_now (subst (λ p. outcomes g p.0 p.1 image) is may)))
      (λ found. let r : (db : Trees) × recovers was db × ReadsAs image db = (found.0, fewer found.0 found.1, found.2) in
      r)

  clean_last : (files.log, files.db) ≡ shown.files last → AreClean g files.log files.db → IsClean (view last)
  clean_last is clean = no_doubt _ (clean_is last.pool ∙ subst (λ p. AreClean g p.0 p.1) is clean)

  -- a store that was let go without a checkpoint, or whose checkpoint was refused
  pub released : (files.log, files.db) ≡ shown.files last
      → IsQuiet view shown.faults recovers shown.is_shielded was last
      → (IsClean (view last) → AreDatabases (recovers last))
      → (IsClean (view last) → IsTrue (view last).is_open → IsTrue (view last).is_numbered) → AreReleased was files
  released is quiet sound numbered = record {
    honest = λ clean. let now = clean_last is clean in omega (arith, quiet.clean, now);
    read = left_read is sound quiet.outcomes;
    left = λ clean up.
        let now = clean_last is clean in
        elim (quiet.closes now up) [
          | inl still ↦ inl (left_allowed is (λ none. numbered none still) sound quiet.outcomes)
          | inr fault ↦ inr (last, is, fault)
        ];
  }

  pub let_go_numbered : (files.log, files.db) ≡ shown.files last
      → IsQuiet view shown.faults recovers shown.is_shielded was last
      → (IsClean (view last) → AreDatabases (recovers last)) → (IsClean (view last) → IsTrue (view last).is_numbered)
      → AreReleased was files
  let_go_numbered is quiet sound numbered = released is quiet sound (λ none up. numbered none)

  -- each image that a crash may leave of an open store holds what was committed
  pub left_same : SeenMayStay g → IsTrue (view was).is_open → AreLeftOf was files → AreClean g files.log files.db
      → (image : Image) → outcomes g files.log files.db image → ∥ HoldsDatabase image (view was).committed ∥₁
  left_same stays up allowed clean image may =
      ∥∥₁_map (allowed clean image may)
      (λ found. subst (HoldsDatabase image) (settled_at was stays found.0 up found.1) found.2)

  pub left_held : (k : Kept) → SeenMayStay g → IsTrue (view was).is_open
      → ((db : Trees) → recovers was db → TreesHold db k) → AreLeftOf was files → AreClean g files.log files.db
      → LeftHold g files k
  left_held k stays up trees allowed clean image may =
      let hold = trees (view was).committed (stays_at was stays up) in
      record {
        trees = (view was).committed;
        held = left_same stays up allowed clean image may;
        sound = hold.sound;
        holds = hold.holds;
      }

-- what an archive held, after a close that was refused
pub kept_unless_failed : {D : Type 0} {g : Ghosts D} (was : FileStore D g) (files : Files D) (k : Kept)
    → SeenMayStay g → IsTrue (view was).is_open → ((db : Trees) → recovers was db → TreesHold db k)
    → AreReleased was files → AreClean g files.log files.db
    → LeftHold g files k ⊎ HaveFailedSince was files
kept_unless_failed was files k stays up trees gone clean = elim (gone.left clean up) [
  | inl allowed ↦ inl (left_held was was files k stays up trees allowed clean)
  | inr failed ↦ inr failed
]
