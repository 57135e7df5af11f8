-- What a crash leaves of a transaction that creates or migrates the tables.
use Rattle.std.proofs.Common.{◌≡◌, [], true, refl, sym, subst, inl, inr, arith}
use Rattle.std.specs.Prelude.{IsTrue, false}
use Rattle.std.specs.List.{AllByRecursion}
use Rattle.sqlite_trees.specs.Tree.{Trees}
use Rattle.sqlite_trees.specs.View.{IsClean, IsQuiet}
use Rattle.sqlite_trees.specs.declared.store.Store.{Ghosts}
use Rattle.sqlite_catalog.specs.Listing.{IsSound}
use Rattle.sqlite.specs.Effect.{Database, IsDatabase}
use Rattle.sqlite.specs.Held.{Held, state}
use Rattle.sqlite.specs.State.{State, HasCleanDisk, Survives}
use Rattle.life_store.specs.Crash.{NothingNew, CrashLeaves}
use Rattle.life_store.specs.CensusesState.{Parts}
use Rattle.life_store.specs.CreatingState.{HasTables, IsNewArchive, IsMadeAnew}
use Rattle.life_store.specs.Kept.{Kept}
use Rattle.life_store.specs.Layout.{no_schema, first_schema, archive_schema}
use Rattle.life_store.specs.Migration.{version_1, HoldsFirst}
use Rattle.life_store.specs.MigrationState.{HoldsFirstParts, IsMigrated, IsCarriedOver}
use Rattle.life_store.specs.Opening.{nothing_kept}
use Rattle.life_store.specs.OpeningState.{has_some, IsMadeOfOld, IsMadeOf}
use Rattle.life_store.specs.Stored.{IsFiled}
use Rattle.life_store.specs.Tables.{tables_of, Holds, TreesHold}
use Rattle.life_store.proofs.KeepLemmas.{first_held_again}
use Rattle.life_store.proofs.OpenLemmas.{first_own, second_own, stands_not, none_not}
use Rattle.life_store.proofs.MigrationLemmas.{first_parts, first_stands, migrated_trees}
use Rattle.life_store.proofs.CrashLemmas.{crash_none, crash_by, crash_begun, crash_both, crash_last}

module _ {S : Type 0} (g : Ghosts S) (old first last new : Held S)
    (begun : first ≡ record old { in_transaction = true }) (ran : CrashLeaves g NothingNew first.store last.store) where
  inside : IsTrue first.in_transaction
  inside = subst (λ (h : Held S). IsTrue h.in_transaction) (sym begun) refl

  same : (state g first).now ≡ (state g old).now
  same = subst (λ (h : Held S). (state g h).now ≡ (state g old).now) (sym begun) refl

  before : CrashLeaves g NothingNew old.store last.store
  before = crash_last old.store first.store last.store (λ clean db none. none) (crash_begun g old first begun) ran

  -- one that was rolled back adds nothing
  pub crash_dropped : {Adds : Trees → Type 0} → Survives (state g last) (state g new) (λ _. ⊥)
      → CrashLeaves g Adds old.store new.store
  crash_dropped after =
      crash_both old.store last.store new.store (λ db none. absurd none) (λ clean db none. absurd none) before
      (crash_by g last new (λ _. ⊥) after)

  pub carried_committed : Survives (state g last) (state g new) (λ db. db ≡ (state g last).now.trees)
      → (HasCleanDisk (state g last) → IsTrue first.in_transaction → (p : Parts)
      → AllByRecursion IsFiled p.deposits → HoldsFirstParts (state g first).now p → p.layout ≡ version_1
      → IsMigrated p (state g last).now × IsDatabase (state g last).now)
      → CrashLeaves g (IsCarriedOver (state g old).now) old.store new.store
  carried_committed after migrated =
      crash_last old.store last.store new.store
      (λ clean db made p filed stands named.
      let it = migrated clean inside p filed (subst (λ (d : Database). HoldsFirstParts d p) (sym same) stands) named in
      ((state g last).now, made, it.1, it.0))
      before (crash_by g last new (λ db. db ≡ (state g last).now.trees) after)

  pub made_committed : Survives (state g last) (state g new) (λ db. db ≡ (state g last).now.trees)
      → (HasCleanDisk (state g last) → IsTrue first.in_transaction → HasTables no_schema [] (state g first).now
      → IsNewArchive (state g last).now × IsDatabase (state g last).now)
      → CrashLeaves g (IsMadeAnew (state g old).now) old.store new.store
  made_committed after made =
      crash_last old.store last.store new.store
      (λ clean db is none.
      let it = made clean inside (subst (λ (d : Database). HasTables no_schema [] d) (sym same) none) in
      ((state g last).now, is, it.1, it.0))
      before (crash_by g last new (λ db. db ≡ (state g last).now.trees) after)

-- ---- what an opening may commit

pub crash_as : {S : Type 0} {g : Ghosts S} {First Adds : Trees → Type 0} (a b : S)
    → (IsClean (g.view a) → (db : Trees) → First db → Adds db) → CrashLeaves g First a b → CrashLeaves g Adds a b
crash_as a b says it = crash_last a a b says (crash_none a) it

pub crash_more : {S : Type 0} {g : Ghosts S} {Adds : Trees → Type 0} (a b : S) → CrashLeaves g NothingNew a b
    → CrashLeaves g Adds a b
crash_more a b it = crash_as a b (λ clean db none. absurd none) it

-- a store that is taken out of its connection
pub crash_out : {S : Type 0} {g : Ghosts S} {Adds : Trees → Type 0} (a b c : S) → CrashLeaves g Adds a b
    → IsQuiet g.view g.faults g.recovers g.is_shielded b c → CrashLeaves g Adds a c
crash_out a b c before quiet = crash_both a b c (λ db more. more) (λ clean db none. absurd none) before (record {
  honest = λ clean. omega (arith, quiet.clean, clean);
  found = λ clean db left. inl (quiet.outcomes db left);
})

-- the trees of a new archive
new_trees : (db : Trees) (after : Database) → db ≡ after.trees → IsDatabase after → IsNewArchive after
    → TreesHold db nothing_kept
new_trees db after is sound new =
    subst (λ (t : Trees). TreesHold t nothing_kept) (sym is) (record {
      sound = subst (λ s. IsSound s after.trees) new.has_tables.is sound;
      holds = record {
        schema = refl;
        committed = refl;
        layout = new.version;
        deposits = new.has_tables.none.0;
        censuses = new.has_tables.none.1.0;
        census_rows = new.has_tables.none.1.1.0;
        census_flags = new.has_tables.none.1.1.1.0;
        filed = tt;
        ordered = tt;
        few_deposits = omega arith;
        few_censuses = omega arith;
      };
    })

-- of tables none of which is an archive's
pub made_of_none : (s : State) (db : Trees) → has_some s.now.schema ≡ false → IsMadeAnew s.now db
    → IsMadeOf (tables_of s) db
made_of_none s db none made = record {
  old = record {
    archive = λ k holds. stands_not s.now.schema archive_schema second_own (inl (refl, refl)) holds.schema none;
    carried = λ k holds. absurd (stands_not s.now.schema first_schema first_own (inr (refl, refl)) holds.schema none);
  };
  fresh = λ is. let it = made (record { is = is; none = tt }) in new_trees db it.0 it.1 it.2 it.3;
}

-- of tables some of which are
pub made_of_some : (s : State) (db : Trees) → has_some s.now.schema ≡ true → IsMadeOfOld (tables_of s) db
    → IsMadeOf (tables_of s) db
made_of_some s db some made = record { old = made; fresh = λ is. absurd (none_not s.now.schema is some) }

-- of tables whose version is the first
pub made_of_first : (old mid : State) (db : Trees) → (IsTrue (tables_of mid).is_healthy)
    → ((k : Kept) → Holds (tables_of old) k → ⊥) → ((k : Kept) → HoldsFirst (tables_of old) k → mid.now ≡ old.now)
    → IsCarriedOver mid.now db → IsMadeOfOld (tables_of old) db
made_of_first old mid db healthy never same made = record {
  archive = never;
  carried = λ k holds.
      let stands = first_held_again old mid k (same k holds) holds in
      migrated_trees mid db k stands (made (first_parts k) holds.filed (first_stands mid k stands) refl);
}
