-- Trees list one schema, so that a file which was closed is opened with the schema that it had.
use Rattle.std.proofs.Common.{◌≡◌, inl, inr, ℕ, ◌+◌, pos, List, [], ◌∷◌, filter, slice_get, Bool, true, false, refl}
use Rattle.std.proofs.Common.{sym, ap, ap₂, subst, ◌∙◌, arith}
use Rattle.std.specs.List.{AllZip}
use Rattle.sqlite_value.specs.declared.value.Value.{Value}
use Rattle.sqlite_value.specs.declared.value.Value.TheVariants.{Null, Int, Real, Text, Blob}
use Rattle.sqlite_value.specs.Order.{Row, column}
use Rattle.std.proofs.Math.Logic.{∥∥₁_elim}
use Rattle.sqlite_trees.specs.Props.{Trees-set}
use Rattle.sqlite_trees.specs.Tree.{Trees, IsAscending}
use Rattle.sqlite_trees.specs.Objects.{catalog_tree}
use Rattle.sqlite_schema.specs.declared.schema.Table.{Table}
use Rattle.sqlite_schema.specs.declared.schema.Index.{Index}
use Rattle.sqlite_schema.specs.declared.schema.Schema.{Schema}
use Rattle.sqlite_schema.specs.Names.{same_name}
use Rattle.sqlite_catalog.specs.Listing.{IsTableRow, IsIndexRow, IsDefined, IsViewRow, is_index_row, automatic, IsSound}
use Rattle.std.specs.Prelude.{IsTrue}
use Rattle.sqlite.specs.Effect.{Database}
use Rattle.sqlite.specs.State.{State, HasCleanDisk, IsLive, Opens}
use Rattle.sqlite_wal.specs.Recovery.{Image}
use Rattle.std.specs.Prelude.{◌↔◌, Result, Ok, Err, IfOk, IfErr, ◌≢◌}
use Rattle.sqlite.specs.Files.{HoldsDatabase, AreFoundIn}
use Rattle.life_store.specs.declared.store_fault.OpenFault.{OpenFault}
use Rattle.life_store.specs.declared.store_fault.OpenFault.TheVariants.{BadCapacity, NotOurs, Unavailable}
use Rattle.life_store.specs.CreatingState.{HasTables}
use Rattle.life_store.specs.Kept.{Kept}
use Rattle.life_store.specs.Layout.{first_schema, archive_schema, no_schema}
use Rattle.life_store.specs.Opening.{AreAnothers, is_capacity, FilesHold, FilesHoldFirst, ListNothing, nothing_kept}
use Rattle.life_store.specs.Opening.{versions_in, IsLayout, FilesHaveVersions}
use Rattle.life_store.specs.Migration.{HoldsFirst, Migrated}
use Rattle.life_store.specs.MigrationState.{Carries}
use Rattle.life_store.specs.OpeningState.{HaveVersions}
use Rattle.life_store.specs.Tables.{Tables, ArchiveView, tables_in, tables_of, Holds}
use Rattle.life_store.proofs.KeepLemmas.{held_as, first_held_as}
use Rattle.life_store.proofs.OpenLemmas.{second_own, have_second}
use Rattle.sqlite_catalog.proofs.StepLemmas.{named_once, same_itself}
use Rattle.sqlite_catalog.proofs.AlterLemmas.{numbers_differ}

same_text : {s t : List ℕ} → Text s ≡ Text t → s ≡ t
same_text e = cc

same_tree : (row : Row) (m n : ℕ) → column row 0 ≡ Int (pos (m + 1)) → column row 0 ≡ Int (pos (n + 1)) → m ≡ n
same_tree row m n a b =
    let both : Int (pos (m + 1)) ≡ Int (pos (n + 1)) = sym a ∙ b in let sums : m + 1 ≡ n + 1 = cc in omega (arith, sums)

one_table : (row : Row) (s t : Table) → IsTableRow row s → IsTableRow row t → s ≡ t
one_table row s t a b =
    let sql : a.sql ≡ b.sql = same_text (sym a.sql_is ∙ b.sql_is) in
    let made : a.defined.0 ≡ b.defined.0 =
    let e = sym a.defined.1 ∙ ap Rattle.sqlite_resolve.specs.Compile.table_defined_by sql ∙ b.defined.1 in cc in
    let tree : s.tree ≡ t.tree = same_tree row s.tree t.tree a.described.id b.described.id in
    a.defined.2 ∙ ap₂ (λ (m : Table) (n : ℕ). let it : Table = record m { tree = n } in it) made tree ∙ sym b.defined.2

zipped : {X Y : Type 0} (R : X → Y → Type 0) → ((x : X) (a b : Y) → R x a → R x b → a ≡ b)
    → (xs : List X) (ys zs : List Y) → AllZip R xs ys → AllZip R xs zs → ys ≡ zs
zipped R one [] [] [] p q = refl
zipped R one [] [] (b ∷ zs) p q = absurd q
zipped R one [] (a ∷ ys) zs p q = absurd p
zipped R one (x ∷ xs) [] zs p q = absurd p
zipped R one (x ∷ xs) (a ∷ ys) [] p q = absurd q
zipped R one (x ∷ xs) (a ∷ ys) (b ∷ zs) p q = ap₂ (λ w ws. w ∷ ws) (one x a b p.0 q.0) (zipped R one xs ys zs p.1 q.1)

nothing : {X Y : Type 0} (R : X → Y → Type 0) (xs : List X) (zs : List Y) → AllZip R xs [] → AllZip R xs zs → zs ≡ []
nothing R [] [] p q = refl
nothing R [] (z ∷ zs) p q = absurd q
nothing R (x ∷ xs) zs p q = absurd p

one_defined : (table : Table) (i j : Index) (v : Value) → i.tree ≡ j.tree → i.name ≡ j.name
    → IsDefined table i v → IsDefined table j v → i ≡ j
one_defined table i j Null tree name p q =
    let names : (automatic table p.0 [] 0).name ≡ (automatic table q.0 [] 0).name = sym (ap (λ (x : Index). x.name) p.3)
    ∙ name ∙ ap (λ (x : Index). x.name) q.3 in
    let at = numbers_differ table p.0 q.0 p.4 q.4
    (subst (λ n. same_name (automatic table p.0 [] 0).name n ≡ true) names (same_itself _)) in
    let key : p.1 ≡ q.1 = let e = sym p.2 ∙ ap (slice_get table.uniques) at ∙ q.2 in cc in
    p.3 ∙ ap₂ (λ (ak : ℕ × List ℕ) (n : ℕ). automatic table ak.0 ak.1 n) (ap₂ (λ x y. (x, y)) at key) tree ∙ sym q.3
one_defined table i j (Text sql) tree name p q =
    let made : p.0 ≡ q.0 = let e = sym p.1 ∙ q.1 in cc in
    p.2 ∙ ap₂ (λ (m : Index) (n : ℕ). let it : Index = record m { tree = n; table = table.tree } in it)
    made tree ∙ sym q.2
one_defined table i j (Int n) tree name p q = absurd p
one_defined table i j (Real x) tree name p q = absurd p
one_defined table i j (Blob b) tree name p q = absurd p

one_index : (tables : List Table) → IsAscending (λ s t. same_name s.name t.name ≡ false) tables
    → (row : Row) (i j : Index) → IsIndexRow tables row i → IsIndexRow tables row j → i ≡ j
one_index tables named row i j a b =
    let owner : a.table.name ≡ b.table.name = same_text (sym a.described.owner_is ∙ b.described.owner_is) in
    let table : a.table ≡ b.table = named_once tables a.table b.table named a.listed b.listed
    (subst (λ n. same_name a.table.name n ≡ true) owner (same_itself a.table.name)) in
    one_defined b.table i j (column row 4) (same_tree row i.tree j.tree a.described.id b.described.id)
    (same_text (sym a.described.name_is ∙ b.described.name_is))
    (subst (λ t. IsDefined t i (column row 4)) table a.defined) b.defined

pub one_schema : (one two : Schema) (db : Trees) → one.views ≡ [] → IsSound one db → IsSound two db → two ≡ one
one_schema one two db none p q =
    let a = p.lists.listed in
    let b = q.lists.listed in
    let tables = zipped _ one_table _ one.tables two.tables a.tables b.tables in
    let indexes = zipped _ (one_index two.tables b.named) _ one.indexes two.indexes (subst
    (λ ts. AllZip (IsIndexRow ts) (filter is_index_row (db catalog_tree)) one.indexes) tables a.indexes) b.indexes in
    let views : two.views ≡ one.views =
    nothing _ _ two.views (subst (AllZip IsViewRow _) none a.views) b.views ∙ sym none in
    ap₂ (λ (ti : List Table × List Index) vs. let it : Schema = record {
      tables = ti.0;
      indexes = ti.1;
      views = vs;
    } in it) (ap₂ (λ ts is. (ts, is)) (sym tables) (sym indexes)) views

-- a connection that was opened over files that hold these tables
finds_tables : (new : State) (image : Image) (schema : Schema) (db : Trees) → schema.views ≡ []
    → Opens new × IsLive new → ((db : Trees) → HoldsDatabase image db → new.committed.trees ≡ db)
    → ∥ HoldsDatabase image db ∥₁ → IsSound schema db
    → new.now ≡ record { schema = schema; trees = db }
finds_tables new image schema db none opened found held sound =
    let trees : new.committed.trees ≡ db = ∥∥₁_elim held (Trees-set _ _) (found db) in
    let same : new.now.trees ≡ db = ap (λ (d : Database). d.trees) opened.0.clean ∙ trees in
    let is : new.now.schema ≡ schema = one_schema schema new.now.schema db none sound
    (subst (IsSound new.now.schema) same (opened.1 opened.0.is_open).0) in
    ap₂ (λ (s : _) (t : Trees). let d : Database = record { schema = s; trees = t } in d) is same

-- and so finds their rows
pub finds_held : (new : State) (image : Image) (k : Kept) → Opens new × IsLive new
    → ((db : Trees) → HoldsDatabase image db → new.committed.trees ≡ db) → FilesHold image k → Holds (tables_of new) k
finds_held new image k opened found files =
    held_as true (tables_of new).is_healthy 0 (tables_of new).faults false new.in_transaction new.now k
    (λ none. opened.0.autocommit)
    (subst (λ (d : Database). Holds (tables_in true 0 false d) k)
    (sym (finds_tables new image archive_schema files.trees refl opened found files.held files.sound)) files.holds)

pub finds_first : (new : State) (image : Image) (k : Kept) → Opens new × IsLive new
    → ((db : Trees) → HoldsDatabase image db → new.committed.trees ≡ db) → FilesHoldFirst image k
    → HoldsFirst (tables_of new) k
finds_first new image k opened found files =
    first_held_as true (tables_of new).is_healthy 0 (tables_of new).faults false new.in_transaction new.now k
    (subst (λ (d : Database). HoldsFirst (tables_in true 0 false d) k)
    (sym (finds_tables new image first_schema files.trees refl opened found files.held files.sound)) files.holds)

no_views : (schema : Schema) (own : List Value) → IsLayout schema own → schema.views ≡ []
no_views schema own (inl second) = ap (λ (s : Schema). s.views) second.0
no_views schema own (inr first) = ap (λ (s : Schema). s.views) first.0

-- and their versions
pub finds_versions : (new : State) (image : Image) (schema : Schema) (own versions : List Value)
    → IsLayout schema own → Opens new × IsLive new → ((db : Trees) → HoldsDatabase image db → new.committed.trees ≡ db)
    → FilesHaveVersions schema image versions
    → HaveVersions schema (tables_of new) versions
finds_versions new image schema own versions known opened found files =
    let is = finds_tables new image schema files.trees
    (no_views schema own known) opened found files.held files.sound in
    record {
      schema = ap (λ (d : Database). d.schema) is;
      are = ap (λ (d : Database). versions_in (d.trees 0)) is ∙ files.are;
    }

-- a connection that was opened over files that list no table
pub finds_none : (new : State) → Opens new × IsLive new → IsSound no_schema new.committed.trees
    → new.now.schema ≡ no_schema
finds_none new opened sound =
    let same : new.now.trees ≡ new.committed.trees = ap (λ (d : Database). d.trees) opened.0.clean in
    one_schema no_schema new.now.schema new.committed.trees refl sound
    (subst (IsSound new.now.schema) same (opened.1 opened.0.is_open).0)

-- files that hold what a connection committed
pub held_closed : (old : State) (image : Image) (k : Kept) → IsTrue old.is_open → IsLive old → old.now ≡ old.committed
    → ∥ HoldsDatabase image old.committed.trees ∥₁ → Holds (tables_of old) k → FilesHold image k
held_closed old image k up live settled held holds =
    let sound : IsSound archive_schema old.committed.trees = subst (λ s. IsSound s old.committed.trees)
    (ap (λ (d : Database). d.schema) (sym settled) ∙ holds.schema) (live up).1 in
    let is : old.now ≡ record { schema = archive_schema; trees = old.committed.trees } =
    ap₂ (λ (s : _) (t : Trees). let d : Database = record { schema = s; trees = t } in d) holds.schema
    (ap (λ (d : Database). d.trees) settled) in
    record {
      trees = old.committed.trees;
      held = held;
      sound = sound;
      holds =
          held_as (tables_of old).is_healthy true (tables_of old).faults 0 old.in_transaction false
          (record { schema = archive_schema; trees = old.committed.trees }) k (λ none. refl)
          (subst (λ (d : Database). Holds
          (tables_in (tables_of old).is_healthy (tables_of old).faults old.in_transaction d) k) is holds);
    }

-- ---- what an archive over files holds, once its tables were seen to

abbrev pub IsHealthyOf : {S : Type 0} → ArchiveView S → Type 0
IsHealthyOf a = IsTrue a.tables.is_healthy

module _ {S E : Type 0} (s : State) (image : Image) (opened : HasCleanDisk s → Opens s × IsLive s) where
  pub opens_held : (r : Result (ArchiveView S) E)
      → (HasCleanDisk s → (db : Trees) → HoldsDatabase image db → s.committed.trees ≡ db)
      → IfOk r (λ a. IsHealthyOf a → HasCleanDisk s)
      → IfOk r (λ a. (k : Kept) → IsHealthyOf a → Holds (tables_of s) k → Holds a.tables k)
      → IfOk r (λ a. (k : Kept) → IsHealthyOf a → FilesHold image k → Holds a.tables k)
  opens_held (Ok a) found was held =
      λ k healthy files. let clean = was healthy in
      held k healthy (finds_held s image k (opened clean) (found clean) files)
  opens_held (Err e) found was held = tt

  pub opens_migrated : (r : Result (ArchiveView S) E)
      → (HasCleanDisk s → (db : Trees) → HoldsDatabase image db → s.committed.trees ≡ db)
      → IfOk r (λ a. IsHealthyOf a → HasCleanDisk s)
      → IfOk r (λ a. Carries (tables_of s) a.tables)
      → IfOk r (λ a. (k : Kept) → IsHealthyOf a → FilesHoldFirst image k → Migrated a.tables k)
  opens_migrated (Ok a) found was held =
      λ k healthy files. let clean = was healthy in
      held k healthy (finds_first s image k (opened clean) (found clean) files)
  opens_migrated (Err e) found was held = tt

  pub opens_known : (r : Result (ArchiveView S) E)
      → (HasCleanDisk s → (db : Trees) → HoldsDatabase image db → s.committed.trees ≡ db)
      → IfOk r (λ a. IsHealthyOf a → HasCleanDisk s)
      → IfOk r (λ a. (schema : Schema) (own versions : List Value) → IsLayout schema own → IsHealthyOf a
      → HaveVersions schema (tables_of s) versions → versions ≡ own)
      → IfOk r (λ a. (schema : Schema) (own versions : List Value) → IsLayout schema own → IsHealthyOf a
      → FilesHaveVersions schema image versions → versions ≡ own)
  opens_known (Ok a) found was known =
      λ schema own versions of healthy files. let clean = was healthy in known schema own versions of healthy
      (finds_versions s image schema own versions of (opened clean) (found clean) files)
  opens_known (Err e) found was known = tt

  pub opens_fresh : (r : Result (ArchiveView S) E) → (HasCleanDisk s → AreFoundIn image s.committed.trees)
      → IfOk r (λ a. IsHealthyOf a → HasCleanDisk s)
      → IfOk r (λ a. IsHealthyOf a → HasTables no_schema [] s.now → Holds a.tables nothing_kept)
      → IfOk r (λ a. IsHealthyOf a → ListNothing image → Holds a.tables nothing_kept)
  opens_fresh (Ok a) found was held =
      λ healthy none. let clean = was healthy in
      held healthy (record { is = finds_none s (opened clean) (none s.committed.trees (found clean)); none = tt })
  opens_fresh (Err e) found was held = tt

-- why an opening is refused as not ours
module _ {A F : Type 0} (s : State) (image : Image) (opened : HasCleanDisk s → Opens s × IsLive s)
    (found : HasCleanDisk s → (db : Trees) → HoldsDatabase image db → s.committed.trees ≡ db) (C : F → Type 0) where
  abbrev IsNotOurs : Result A (OpenFault × F) → Type 0
  IsNotOurs r =
      IfErr r (λ e. C e.1 → e.0 ≡ NotOurs → HasCleanDisk s
      × ((schema : Schema) (own : List Value) → IsLayout schema own → HaveVersions schema (tables_of s) own → ⊥))

  pub opens_ours : (r : Result A (OpenFault × F)) → IsNotOurs r
      → IfErr r (λ e. (k : Kept) → C e.1 → FilesHold image k → e.0 ≢ NotOurs)
  opens_ours (Ok a) h = tt
  opens_ours (Err e) h =
      λ k clean files is. let it = h clean is in it.1 archive_schema second_own (inl (refl, refl))
      (have_second (tables_of s) k (finds_held s image k (opened it.0) (found it.0) files))

  pub opens_clean : (P : Type 0) (r : Result A (OpenFault × F)) → (HasCleanDisk s → P) → IsNotOurs r
      → IfErr r (λ e. C e.1 → e.0 ≡ NotOurs → P)
  opens_clean P (Ok a) then h = tt
  opens_clean P (Err e) then h = λ clean is. then (h clean is).0

  pub opens_versions : (r : Result A (OpenFault × F)) → IsNotOurs r → IfErr r (λ e. (schema : Schema) (own : List Value)
      → IsLayout schema own → C e.1 → FilesHaveVersions schema image own → e.0 ≢ NotOurs)
  opens_versions (Ok a) h = tt
  opens_versions (Err e) h =
      λ schema own of clean files is. let it = h clean is in
      it.1 schema own of (finds_versions s image schema own own of (opened it.0) (found it.0) files)

  pub opens_none : (r : Result A (OpenFault × F)) → IsNotOurs r → (HasCleanDisk s → AreFoundIn image s.committed.trees)
      → (s.now.schema ≡ no_schema → IfErr r (λ e. e.0 ≢ NotOurs))
      → IfErr r (λ e. C e.1 → ListNothing image → e.0 ≢ NotOurs)
  opens_none (Ok a) h reads never = tt
  opens_none (Err e) h reads never =
      λ clean nothing is. let it = h clean is in
      never (finds_none s (opened it.0) (nothing s.committed.trees (reads it.0))) is

-- what is refused as another's by a connection that was opened over files of this image
module _ (s : State) (image : Image) (opened : HasCleanDisk s → Opens s × IsLive s)
    (found : HasCleanDisk s → (db : Trees) → HoldsDatabase image db → s.committed.trees ≡ db)
    (reads : HasCleanDisk s → AreFoundIn image s.committed.trees) where
  pub refused_as : {Clean : Type 0} (fault : OpenFault) → fault ≡ NotOurs → (Clean → fault ≡ NotOurs → HasCleanDisk s
      × ((schema : Schema) (own : List Value) → IsLayout schema own → HaveVersions schema (tables_of s) own → ⊥))
      → (s.now.schema ≡ no_schema → fault ≢ NotOurs) → Clean → AreAnothers image
  refused_as fault is ours never clean =
      let it = ours clean is in
      record {
        versions =
            λ schema own of hold. it.1 schema own of
            (finds_versions s image schema own own of (opened it.0) (found it.0) hold);
        some = λ nothing. never (finds_none s (opened it.0) (nothing s.committed.trees (reads it.0))) is;
      }

pub healthy_then : {S E : Type 0} (s : State) (P : Type 0) (r : Result (ArchiveView S) E) → (HasCleanDisk s → P)
    → IfOk r (λ a. IsHealthyOf a → HasCleanDisk s) → IfOk r (λ a. IsHealthyOf a → P)
healthy_then s P (Ok a) then was = λ healthy. then (was healthy)
healthy_then s P (Err e) then was = tt

pub errs_not : {A F : Type 0} (r : Result A (OpenFault × F)) (P : F → Type 0) → IfErr r (λ e. e.0 ≢ BadCapacity)
    → IfErr r (λ e. e.0 ≡ BadCapacity → P e.1)
errs_not (Ok a) P h = tt
errs_not (Err e) P h = λ is. absurd (h is)

pub errs_never : {A F : Type 0} (r : Result A (OpenFault × F)) (b : Bool) → b ≡ true → IfErr r (λ e. e.0 ≢ BadCapacity)
    → IfErr r (λ e. (e.0 ≡ BadCapacity) ↔ (b ≡ false))
errs_never (Ok a) b fits h = tt
errs_never (Err e) b fits h = (λ is. absurd (h is), λ is. absurd (let e : true ≡ false = sym fits ∙ is in cc))

-- what an opening with a good capacity says of it
pub capacity_fits : {S E : Type 0} (r : Result (ArchiveView S) E) (n : ℕ) → is_capacity n ≡ true
    → IfOk r (λ a. a.capacity ≡ n) → IfOk r (λ a. (a.capacity ≡ n) × IsTrue (is_capacity n))
capacity_fits (Ok a) n fits is = (is, fits)
capacity_fits (Err e) n fits is = tt

pub bad_not_ours : BadCapacity ≢ NotOurs
bad_not_ours is = absurd cc

pub unavailable_not_bad : Unavailable ≢ BadCapacity
unavailable_not_bad is = absurd cc

pub unavailable_not_ours : Unavailable ≢ NotOurs
unavailable_not_ours is = absurd cc

-- what was closed is found again
pub found_again : {S E : Type 0} (r : Result (ArchiveView S) E) (t : Tables) (image : Image) (Clean : Type 0)
    → IfOk r (λ a. (k : Kept) → IsHealthyOf a → FilesHold image k → Holds a.tables k)
    → IfOk r (λ a. IsHealthyOf a → Clean)
    → ((k : Kept) → Clean → Holds t k → FilesHold image k)
    → IfOk r (λ a. (k : Kept) → IsHealthyOf a → Holds t k → Holds a.tables k)
found_again (Ok a) t image Clean found honest held = λ k healthy holds. found k healthy (held k (honest healthy) holds)
found_again (Err e) t image Clean found honest held = tt

-- what was closed is not refused as another's
pub ours_again : {A F : Type 0} (r : Result A (OpenFault × F)) (t : Tables) (image : Image)
    (Clean : Type 0) (C : F → Type 0)
    → IfErr r (λ e. (k : Kept) → C e.1 → FilesHold image k → e.0 ≢ NotOurs)
    → IfErr r (λ e. C e.1 → e.0 ≡ NotOurs → Clean) → ((k : Kept) → Clean → Holds t k → FilesHold image k)
    → IfErr r (λ e. (k : Kept) → C e.1 → Holds t k → e.0 ≢ NotOurs)
ours_again (Ok a) t image Clean C ours was held = tt
ours_again (Err e) t image Clean C ours was held = λ k clean holds is. ours k clean (held k (was clean is) holds) is
