-- What a statement of SQL leaves (specs/Statements.antt), step after step.
use Rattle.std.proofs.Common.{arith, ◌≡◌, ◌∙◌, ◌≤◌, List, ℕ, true, Ok, Err, Result}
use Rattle.std.specs.Prelude.{IfOk, OnOk, OnErr}
use Rattle.std.specs.Borrow.{MutBor}
use Rattle.sqlite_trees.specs.Tree.{Trees}
use Rattle.sqlite_trees.specs.View.{doubt, IsClean}
use Rattle.sqlite_trees.specs.declared.store.Store.{Ghosts}
use Rattle.sqlite_value.specs.Order.{Row}
use Rattle.sqlite.specs.Held.{Held, state}
use Rattle.sqlite.specs.Listing.{understood}
use Rattle.sqlite.specs.State.{HasCleanDisk, Survives, Shown, CommitsShowing}
use Rattle.sqlite.proofs.Callers.{IsPlain}
use Rattle.life_store.specs.ExecutingState.{IsSeenAgain}
use Rattle.life_store.specs.Crash.{NothingNew}
use Rattle.life_store.specs.Layout.{archive_schema}
use Rattle.life_store.specs.Statements.{Withstands, Queries, StaysInside}
use Rattle.life_store.specs.Tables.{tables_of}
use Rattle.life_store.proofs.CrashLemmas.{crash_none, crash_by, crash_begun, crash_last, asks_nothing}
use Rattle.life_store.proofs.KeepLemmas.{Answered, keeps_then, lost_asked, keeps_asked, open_when_shown}
use Rattle.life_store.proofs.LastingLemmas.{lasts_none, lasts_by, lasts_begun, lasts_then}
use Rattle.life_store.proofs.Texts.{IsQueryText}

-- ---- whatever the disk does

pub withstands_none : {S : Type 0} {g : Ghosts S} {Adds : Trees → Type 0} (s : Held S) → Withstands g Adds s s
withstands_none {S} {g} s = record { lasts = lasts_none (tables_of (state g s)); crash = crash_none s.store }

-- what a call of the kit's connection leaves
pub withstands_by : {S : Type 0} (g : Ghosts S) (old new : Held S) (Commits : Trees → Type 0)
    → Survives (state g old) (state g new) Commits → Withstands g Commits old new
withstands_by g old new Commits it =
    record { lasts = lasts_by (state g old) (state g new) Commits it; crash = crash_by g old new Commits it }

-- a transaction that begins
pub withstands_begun : {S : Type 0} (g : Ghosts S) {Adds : Trees → Type 0} (old new : Held S)
    → new ≡ record old { in_transaction = true } → Withstands g Adds old new
withstands_begun g old new is = record { lasts = lasts_begun g old new is; crash = crash_begun g old new is }

-- a step that adds nothing, and one that may add
pub withstands_last : {S : Type 0} {g : Ghosts S} {Last Adds : Trees → Type 0} (a b c : Held S)
    → (IsClean (g.view b.store) → (db : Trees) → Last db → Adds db) → Withstands g NothingNew a b
    → Withstands g Last b c → Withstands g Adds a c
withstands_last {S} {g} a b c says before after = record {
  lasts = lasts_then (tables_of (state g a)) (tables_of (state g b)) (tables_of (state g c)) before.lasts after.lasts;
  crash = crash_last a.store b.store c.store says before.crash after.crash;
}

pub withstands_then : {S : Type 0} {g : Ghosts S} {Adds : Trees → Type 0} (a b c : Held S)
    → Withstands g NothingNew a b → Withstands g Adds b c → Withstands g Adds a c
withstands_then a b c before after = withstands_last a b c (λ clean db more. more) before after

-- what a step adds, said otherwise
pub withstands_as : {S : Type 0} {g : Ghosts S} {Last Adds : Trees → Type 0} (a b : Held S)
    → (IsClean (g.view a.store) → (db : Trees) → Last db → Adds db) → Withstands g Last a b → Withstands g Adds a b
withstands_as a b says it = withstands_last a a b says (withstands_none a) it

-- a step that adds nothing adds no more than another may
pub withstands_more : {S : Type 0} {g : Ghosts S} {Adds : Trees → Type 0} (a b : Held S) → Withstands g NothingNew a b
    → Withstands g Adds a b
withstands_more a b it = withstands_as a b (λ clean db none. absurd none) it

-- ---- a query outside a transaction

pub looks_by : {S : Type 0} (g : Ghosts S) (old new : Held S) (sql : List ℕ) (params : Row)
    → IsPlain (understood archive_schema sql) → IsQueryText sql → (r : Answered)
    → doubt (state g old).is_clean ≤ doubt (state g new).is_clean
    → (HasCleanDisk (state g new) → IfOk r (λ rows. Shown sql params (state g old) (state g new) rows.items))
    → (HasCleanDisk (state g new) → OnErr r (IsSeenAgain (state g old) (state g new)))
    → Withstands g (CommitsShowing sql params (state g old)) old new → Queries g old new r
looks_by g old new sql params plain asks r clean shown seen it = record {
  lost = lost_asked (state g old) (state g new) clean sql params plain r shown seen;
  keeps = keeps_asked (state g old) (state g new) clean sql params plain r shown seen;
  up = λ now. open_when_shown sql params (state g old) (state g new) r (shown now);
  withstands = record { lasts = it.lasts; crash = asks_nothing g old new sql params asks it.crash };
}

-- ---- inside a transaction

-- a step that succeeds, and the one that follows it
pub stays_then : {S A B E F : Type 0} {g : Ghosts S} {x : A} {r : Result B F} (a b c : MutBor (Held S))
    → StaysInside {E = E} g a b (Ok x) → StaysInside g b c r → StaysInside g a c r
stays_then {S} {A} {B} {E} {F} {g} a b c before after = record {
  same_reference = after.same_reference ∙ before.same_reference;
  inside = λ clean begun. after.inside clean (before.inside (omega (arith, after.clean, clean)) begun);
  kept = λ clean begun.
      let still : HasCleanDisk (state g b.now) = omega (arith, after.clean, clean) in
      keeps_then (state g a.now) (state g b.now) (state g c.now) (before.kept still begun)
      (after.kept clean (before.inside still begun));
  clean = omega (arith, before.clean, after.clean);
  crash = crash_last a.now.store b.now.store c.now.store (λ clean db none. none) before.crash after.crash;
}

-- a transaction that stays open, whatever else a function answers
pub stays_with : {S A B E F : Type 0} {g : Ghosts S} {x : A} (a b : MutBor (Held S)) (r : Result B F)
    → StaysInside {E = E} g a b (Ok x) → StaysInside g a b r
stays_with a b r it = record {
  same_reference = it.same_reference;
  inside = λ clean begun. always r (it.inside clean begun);
  kept = it.kept;
  clean = it.clean;
  crash = it.crash;
}
  where
    always : {B F P : Type 0} (o : Result B F) → P → OnOk o P
    always (Ok y) here = here
    always (Err e) here = tt
