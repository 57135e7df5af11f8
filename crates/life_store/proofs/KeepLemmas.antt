-- What each statement leaves, whatever its text is.
use Rattle.std.proofs.Common.{arith, ap₂, ℤ, pos, [], ◌∷◌, ◌≡◌, ◌⊎◌, inl, inr, List, Bool, true, false, Ok, Err, Result}
use Rattle.std.proofs.Common.{Option, None, Some, refl, sym, subst, ◌∙◌}
use Rattle.std.specs.Prelude.{IsTrue, ℕ, Vec, IfOk, IfErr, OnOk, OnErr, ◌≤◌, ◌&&◌}
use Rattle.std.specs.declared.alloc.Global.{Global}
use Rattle.sqlite_value.specs.declared.value.Value.{Value}
use Rattle.sqlite_value.specs.declared.value.Value.TheVariants.{Int}
use Rattle.sqlite_trees.specs.View.{doubt}
use Rattle.std.proofs.lemmas.Bool.{cases_Bool}
use Rattle.sqlite_value.specs.Order.{Row}
use Rattle.sqlite_schema.specs.declared.command.Returning.{Returning}
use Rattle.sqlite_schema.specs.declared.command.Command.{Command}
use Rattle.sqlite_schema.specs.declared.command.Command.TheVariants.{Select, Insert, InsertOr, Update, Delete}
use Rattle.sqlite_schema.specs.declared.command.Command.TheVariants.{CreateTable, CreateIndex, CreateView, DropTable}
use Rattle.sqlite_schema.specs.declared.command.Command.TheVariants.{DropIndex, DropView, Rows, Begin, Commit, Rollback}
use Rattle.sqlite_schema.specs.declared.command.Command.TheVariants.{Savepoint, Release, RollbackTo, Nothing}
use Rattle.sqlite_resolve.specs.declared.compiled.Compiled.{Compiled}
use Rattle.sqlite.specs.declared.error.Error.{Error}
use Rattle.sqlite.specs.Clock.{timed}
use Rattle.sqlite_catalog.specs.Listing.{IsSound}
use Rattle.sqlite.specs.Effect.{Database, IsDatabase}
use Rattle.sqlite.specs.Listing.{understood}
use Rattle.sqlite.specs.State.{State, HasCleanDisk, IsUnchanged, IsRolledBack, IsNotRun, KeepsCommit, RunsCommand, Runs}
use Rattle.sqlite.specs.State.{ReleasesAt, text_of, Executes, ExecutesIn, shows_rows, FailsToQuery, FailsToShow, Shown}
use Rattle.sqlite.specs.State.{ShowsRows}
use Rattle.sqlite.proofs.Callers.{IsPlain}
use Rattle.sqlite_schema.specs.declared.schema.Schema.{Schema}
use Rattle.life_store.specs.Migration.{HoldsFirst}
use Rattle.life_store.specs.Layout.{archive_schema}
use Rattle.life_store.specs.ExecutingState.{IsSeenAgain}
use Rattle.life_store.specs.Kept.{Kept}
use Rattle.life_store.specs.Tables.{tables_in, tables_of, Holds, TreesHold, WasHealthy, HoldsTheSame, ForAllHeld}

-- a statement that was refused, or that failed
abbrev pub IsUndone : State → State → Type 0
IsUndone old new = IsUnchanged old new ⊎ IsRolledBack old new

not_run : (old new : State) (sql : List ℕ) (params : Row) (e : Error) → IsNotRun old new sql params e → IsUndone old new
unfolding IsNotRun
not_run old new sql params e (inl same) = inl same.1
not_run old new sql params e (inr failed) = inr failed.3

command_refused : (old new : State) (sql : List ℕ) (c : Compiled) (params : Row) (e : Error)
    → RunsCommand old new sql c params (Err e) → IsUndone old new
command_refused old new sql c params e (inl refused) = inl refused.1
command_refused old new sql c params e (inr failed) = inr failed.3

pub refused : (sql : List ℕ) (params : Row) (old new : State) (e : Error) → Executes sql params old new (Err e)
    → IsUndone old new
unfolding ExecutesIn
refused sql params old new e (inl h) = not_run old new sql params e h
refused sql params old new e (inr h) = elim (cases_Bool (shows_rows false h.0)) [
  | inl shows ↦ inl (rw shows at h.2).1
  | inr runs ↦ command_refused old new sql h.0 (timed params h.0.formats h.1.now) e (rw runs at h.2)
]

not_shown : (old new : State) (sql : List ℕ) (c : Compiled) (params : Row) (e : Error) (r : Option Returning)
    → FailsToShow old new sql c params e r → IsUndone old new
not_shown old new sql c params e None h = inl h.3
not_shown old new sql c params e (Some what) h = command_refused old new sql c params e h

pub not_answered : (sql : List ℕ) (params : Row) (old new : State) (e : Error) → FailsToQuery sql params old new e
    → IsUndone old new
unfolding FailsToQuery
not_answered sql params old new e (inl h) = not_run old new sql params e h
not_answered sql params old new e (inr h) =
    not_shown old new sql h.0 (timed params h.0.formats h.1.now) e h.0.returning h.2

was_open : (old new : State) (sql : List ℕ) (c : Compiled) (params : Row) (rows : List Row) (r : Option Returning)
    → ShowsRows old new sql c params rows r → IsTrue old.is_open
was_open old new sql c params rows None h = h.3.0.was_open
was_open old new sql c params rows (Some what) h = h.1.shown.was_open

pub open_if_shown : (sql : List ℕ) (params : Row) (old new : State) (rows : List Row) → Shown sql params old new rows
    → IsTrue old.is_open
unfolding Shown
open_if_shown sql params old new rows h =
    was_open old new sql h.0 (timed params h.0.formats h.1.now) rows h.0.returning h.2

abbrev pub Answered : Type 0
Answered = Result (Vec (List Value) Global) Error

is_open : (old new : State) (sql : List ℕ) (c : Compiled) (params : Row) (rows : List Row) (r : Option Returning)
    → ShowsRows old new sql c params rows r → IsTrue new.is_open
is_open old new sql c params rows None h = h.3.0.is_open
is_open old new sql c params rows (Some what) h = h.1.shown.is_open

-- a connection that has answered is open
pub open_when_shown : (sql : List ℕ) (params : Row) (old new : State) (r : Answered)
    → IfOk r (λ rows. Shown sql params old new rows.items) → OnOk r (IsTrue new.is_open)
unfolding Shown
open_when_shown sql params old new (Ok rows) h =
    is_open old new sql h.0 (timed params h.0.formats h.1.now) rows.items h.0.returning h.2
open_when_shown sql params old new (Err e) h = tt

pub shown_unchanged : (sql : List ℕ) (params : Row) (old new : State) (rows : List Row)
    → IsPlain (understood old.now.schema sql) → Shown sql params old new rows → IsUnchanged old new
unfolding Shown
shown_unchanged sql params old new rows plain h =
    let bare = subst IsPlain h.1.is plain in
    let it = rw bare.0 at h.2 in
    it.3

run_open : (old new : State) (command : Command) (text : List ℕ) (params : Row) (returning : Option Returning)
    (count : ℕ) → IsTrue new.is_open → Runs old new returning command text params count
    → IsTrue old.is_open
run_open old new (Select q names) text params returning count up h = absurd h
run_open old new (Insert at from) text params returning count up h = h.shown.was_open
run_open old new (InsertOr at how from clauses) text params returning count up h = h.shown.was_open
run_open old new (Update at q) text params returning count up h = h.shown.was_open
run_open old new (Delete at q) text params returning count up h = h.shown.was_open
run_open old new CreateTable text params returning count up h = h.shown.was_open
run_open old new (CreateIndex at) text params returning count up h = h.shown.was_open
run_open old new CreateView text params returning count up h = h.shown.was_open
run_open old new (DropTable at) text params returning count up h = h.shown.was_open
run_open old new (DropIndex at) text params returning count up h = h.shown.was_open
run_open old new (DropView at) text params returning count up h = h.shown.was_open
run_open old new (Rows values width names) text params returning count up h = h.0.0.was_open
run_open old new Begin text params returning count up h = h.1.was_open
run_open old new Commit text params returning count up h = h.1.was_open
run_open old new Rollback text params returning count up h = h.1.was_open up
run_open old new (Savepoint name) text params returning count up h = h.0.0.was_open
run_open old new (Release name) text params returning count up h = released h.2
  where
    released : ReleasesAt old new h.0 → IsTrue old.is_open
    released (inl ends) = ends.1.0.was_open
    released (inr drops) = drops.1.0.was_open
run_open old new (RollbackTo name) text params returning count up h = h.2.2.was_open
run_open old new Nothing text params returning count up h = h.0.0.was_open

-- a connection that is open was open before
pub open_before : (sql : List ℕ) (params : Row) (old new : State) (count : ℕ) → IsTrue new.is_open
    → Executes sql params old new (Ok count) → IsTrue old.is_open
unfolding ExecutesIn
open_before sql params old new count up h = elim (cases_Bool (shows_rows false h.0)) [
  | inl shows ↦ absurd (let e = (rw shows at h.2).0 in cc)
  | inr runs ↦
      run_open old new h.0.command (text_of sql h.0) (timed params h.0.formats h.1.now) h.0.returning count up
      (rw runs at h.2)
]

-- a statement that ran outside a transaction leaves the connection open
run_stays_open : (old new : State) (command : Command) (text : List ℕ) (params : Row) (returning : Option Returning)
    (count : ℕ) → old.in_transaction ≡ false → Runs old new returning command text params count
    → IsTrue new.is_open
run_stays_open old new (Select q names) text params returning count none h = absurd h
run_stays_open old new (Insert at from) text params returning count none h = h.shown.is_open
run_stays_open old new (InsertOr at how from clauses) text params returning count none h = h.shown.is_open
run_stays_open old new (Update at q) text params returning count none h = h.shown.is_open
run_stays_open old new (Delete at q) text params returning count none h = h.shown.is_open
run_stays_open old new CreateTable text params returning count none h = h.shown.is_open
run_stays_open old new (CreateIndex at) text params returning count none h = h.shown.is_open
run_stays_open old new CreateView text params returning count none h = h.shown.is_open
run_stays_open old new (DropTable at) text params returning count none h = h.shown.is_open
run_stays_open old new (DropIndex at) text params returning count none h = h.shown.is_open
run_stays_open old new (DropView at) text params returning count none h = h.shown.is_open
run_stays_open old new (Rows values width names) text params returning count none h = h.0.0.is_open
run_stays_open old new Begin text params returning count none h = h.1.is_open
run_stays_open old new Commit text params returning count none h = h.1.is_open
run_stays_open old new Rollback text params returning count none h = absurd (let inside = h.0 in cc)
run_stays_open old new (Savepoint name) text params returning count none h = h.0.0.is_open
run_stays_open old new (Release name) text params returning count none h = released h.2
  where
    released : ReleasesAt old new h.0 → IsTrue new.is_open
    released (inl ends) = ends.1.0.is_open
    released (inr drops) = drops.1.0.is_open
run_stays_open old new (RollbackTo name) text params returning count none h = h.2.2.is_open
run_stays_open old new Nothing text params returning count none h = h.0.0.is_open

pub open_when_run : (sql : List ℕ) (params : Row) (old new : State) (r : Result ℕ Error) → old.in_transaction ≡ false
    → Executes sql params old new r → OnOk r (IsTrue new.is_open)
unfolding ExecutesIn
open_when_run sql params old new (Err e) none h = tt
open_when_run sql params old new (Ok count) none h = elim (cases_Bool (shows_rows false h.0)) [
  | inl shows ↦ absurd (let e = (rw shows at h.2).0 in cc)
  | inr runs ↦
      run_stays_open old new h.0.command (text_of sql h.0) (timed params h.0.formats h.1.now) h.0.returning count none
      (rw runs at h.2)
]

-- ---- what is undone outside a transaction is seen again

pub seen_undone : (old new : State) → (IsTrue old.is_open → old.now ≡ old.committed) → IsUndone old new
    → IsSeenAgain old new
seen_undone old new settled (inl same) =
    record { was_open = λ up. same.0.was_open; now_is = λ up. same.0.now_is; mode = λ none. same.0.mode ∙ none }
seen_undone old new settled (inr back) = record {
  was_open = back.was_open;
  now_is = λ up. (back.undone up).0 ∙ sym (settled (back.was_open up));
  mode = λ none. back.autocommit;
}

pub seen_unasked : (sql : List ℕ) (params : Row) (old new : State) (r : Answered)
    → (IsTrue old.is_open → old.now ≡ old.committed) → IfErr r (FailsToQuery sql params old new)
    → OnErr r (IsSeenAgain old new)
seen_unasked sql params old new (Ok rows) settled h = tt
seen_unasked sql params old new (Err e) settled h = seen_undone old new settled (not_answered sql params old new e h)

pub seen_unwritten : (sql : List ℕ) (params : Row) (old new : State) (r : Result ℕ Error)
    → (IsTrue old.is_open → old.now ≡ old.committed) → Executes sql params old new r → OnErr r (IsSeenAgain old new)
seen_unwritten sql params old new (Ok count) settled h = tt
seen_unwritten sql params old new (Err e) settled h = seen_undone old new settled (refused sql params old new e h)

pub ran : (sql : List ℕ) (params : Row) (old new : State) (r : Result ℕ Error) → Executes sql params old new r
    → IfOk r (λ count. Executes sql params old new (Ok count))
ran sql params old new (Ok count) h = h
ran sql params old new (Err e) h = tt

-- what two steps inside a transaction keep
pub keeps_then : (a b c : State) → KeepsCommit a b → KeepsCommit b c → KeepsCommit a c
keeps_then a b c p q = record {
  was_open = λ up. p.was_open (q.was_open up);
  committed = λ up. q.committed up ∙ p.committed (q.was_open up);
}

-- ---- what tables hold, through a call

both : (a b : Bool) → IsTrue (a && b) → (a ≡ true) × (b ≡ true)
both true true h = (refl, refl)
both true false h = absurd cc
both false b h = absurd cc

clean_is : (b : Bool) → b ≡ true → doubt b ≡ 0
unfolding doubt
clean_is true e = refl
clean_is false e = absurd cc

is_clean : (b : Bool) → doubt b ≡ 0 → b ≡ true
unfolding doubt
is_clean true e = refl
is_clean false e = absurd (omega (arith, e))

pub healthy_is : (s : State) → IsTrue (tables_of s).is_healthy → HasCleanDisk s × IsTrue s.is_open
healthy_is s h = let it = both s.is_clean s.is_open h in (clean_is s.is_clean it.0, it.1)

pub healthy_from : (s : State) → HasCleanDisk s → IsTrue s.is_open → IsTrue (tables_of s).is_healthy
healthy_from s clean up = ap₂ ◌&&◌ (is_clean s.is_clean clean) up

-- whether the database is healthy plays no part in what its tables hold
pub held_as : (b c : Bool) (m n : ℕ) (was is : Bool) (db : Database) (k : Kept) → (was ≡ false → is ≡ false)
    → Holds (tables_in b m was db) k → Holds (tables_in c n is db) k
held_as b c m n was is db k none h = record {
  schema = h.schema;
  committed = none h.committed;
  layout = h.layout;
  deposits = h.deposits;
  censuses = h.censuses;
  census_rows = h.census_rows;
  census_flags = h.census_flags;
  filed = h.filed;
  ordered = h.ordered;
  few_deposits = h.few_deposits;
  few_censuses = h.few_censuses;
}

pub held_again : (old new : State) (k : Kept) → (old.in_transaction ≡ false → new.in_transaction ≡ false)
    → new.now ≡ old.now → Holds (tables_of old) k → Holds (tables_of new) k
held_again old new k none same h =
    subst (λ (d : Database). Holds (tables_in (tables_of new).is_healthy (tables_of new).faults new.in_transaction d) k)
    (sym same)
    (held_as (tables_of old).is_healthy (tables_of new).is_healthy (tables_of old).faults
    (tables_of new).faults old.in_transaction new.in_transaction old.now k none h)

-- trees that are committed hold what their tables represent
pub trees_hold : (db : Database) (k : Kept) → IsDatabase db → Holds (tables_in true 0 false db) k → TreesHold db.trees k
trees_hold db k sound h = record {
  sound = subst (λ s. IsSound s db.trees) h.schema sound;
  holds = record {
    schema = refl;
    committed = refl;
    layout = h.layout;
    deposits = h.deposits;
    censuses = h.censuses;
    census_rows = h.census_rows;
    census_flags = h.census_flags;
    filed = h.filed;
    ordered = h.ordered;
    few_deposits = h.few_deposits;
    few_censuses = h.few_censuses;
  };
}

-- the same of the tables of schema version 1
pub first_held_as : (b c : Bool) (m n : ℕ) (was is : Bool) (db : Database) (k : Kept)
    → HoldsFirst (tables_in b m was db) k → HoldsFirst (tables_in c n is db) k
first_held_as b c m n was is db k h = record {
  schema = h.schema;
  layout = h.layout;
  deposits = h.deposits;
  censuses = h.censuses;
  census_rows = h.census_rows;
  filed = h.filed;
  ordered = h.ordered;
  few_deposits = h.few_deposits;
  few_censuses = h.few_censuses;
}

pub first_held_again : (old new : State) (k : Kept) → new.now ≡ old.now → HoldsFirst (tables_of old) k
    → HoldsFirst (tables_of new) k
first_held_again old new k same h =
    subst (λ (d : Database). HoldsFirst
    (tables_in (tables_of new).is_healthy (tables_of new).faults new.in_transaction d) k) (sym same)
    (first_held_as (tables_of old).is_healthy (tables_of new).is_healthy (tables_of old).faults
    (tables_of new).faults old.in_transaction new.in_transaction old.now k h)

-- a query leaves what it saw
pub seen_same : (sql : List ℕ) (params : Row) (schema : Schema) (old new : State) → IsPlain (understood schema sql)
    → (r : Answered) → (HasCleanDisk new → IfOk r (λ rows. Shown sql params old new rows.items))
    → (HasCleanDisk new → OnErr r (IsSeenAgain old new))
    → IsTrue (tables_of new).is_healthy → old.now.schema ≡ schema → new.now ≡ old.now
seen_same sql params schema old new plain (Ok rows) shown seen healthy is =
    (shown_unchanged sql params old new rows.items (subst (λ s. IsPlain (understood s sql)) (sym is) plain)
    (shown (healthy_is new healthy).0)).0.now_is
seen_same sql params schema old new plain (Err e) shown seen healthy is =
    let now = healthy_is new healthy in (seen now.0).now_is now.1

-- what was rolled back is seen again
pub seen_rolled_back : (old last new : State) → (IsTrue old.is_open → old.now ≡ old.committed)
    → KeepsCommit old last → IsRolledBack last new → IsSeenAgain old new
seen_rolled_back old last new settled kept back = record {
  was_open = λ up. kept.was_open (back.was_open up);
  now_is =
      λ up. let was = back.was_open up in (back.undone up).0 ∙ kept.committed was ∙ sym (settled (kept.was_open was));
  mode = λ none. back.autocommit;
}

module _ (old new : State) (clean : doubt old.is_clean ≤ doubt new.is_clean) where
  pub stays_lost : (HasCleanDisk new → IsTrue new.is_open → IsTrue old.is_open)
      → WasHealthy (tables_of old) (tables_of new)
  stays_lost was healthy =
      let now = healthy_is new healthy in
      let still : HasCleanDisk old = omega (arith, clean, now.0) in
      healthy_from old still (was now.0 now.1)

  pub keeps_seen : (HasCleanDisk new → IsSeenAgain old new) → HoldsTheSame (tables_of old) (tables_of new)
  keeps_seen seen k healthy holds =
      let now = healthy_is new healthy in held_again old new k (seen now.0).mode ((seen now.0).now_is now.1) holds

  module _ (sql : List ℕ) (params : Row) (plain : IsPlain (understood archive_schema sql)) where
    was_up : (r : Answered) → IfOk r (λ rows. Shown sql params old new rows.items) → OnErr r (IsSeenAgain old new)
        → IsTrue new.is_open → IsTrue old.is_open
    was_up (Ok rows) shown seen up = open_if_shown sql params old new rows.items shown
    was_up (Err e) shown seen up = seen.was_open up

    same_now : (r : Answered) (k : Kept) → Holds (tables_of old) k
        → IfOk r (λ rows. Shown sql params old new rows.items) → OnErr r (IsSeenAgain old new)
        → IsTrue new.is_open → new.now ≡ old.now
    same_now (Ok rows) k holds shown seen up =
        (shown_unchanged sql params old new rows.items
        (subst (λ s. IsPlain (understood s sql)) (sym holds.schema) plain) shown).0.now_is
    same_now (Err e) k holds shown seen up = seen.now_is up

    same_mode : (r : Answered) (k : Kept) → Holds (tables_of old) k
        → IfOk r (λ rows. Shown sql params old new rows.items) → OnErr r (IsSeenAgain old new)
        → old.in_transaction ≡ false → new.in_transaction ≡ false
    same_mode (Ok rows) k holds shown seen none =
        (shown_unchanged sql params old new rows.items
        (subst (λ s. IsPlain (understood s sql)) (sym holds.schema) plain) shown).0.mode ∙ none
    same_mode (Err e) k holds shown seen none = seen.mode none

    pub lost_asked : (r : Answered) → (HasCleanDisk new → IfOk r (λ rows. Shown sql params old new rows.items))
        → (HasCleanDisk new → OnErr r (IsSeenAgain old new)) → WasHealthy (tables_of old) (tables_of new)
    lost_asked r shown seen = stays_lost (λ now up. was_up r (shown now) (seen now) up)

    pub keeps_asked : (r : Answered) → (HasCleanDisk new → IfOk r (λ rows. Shown sql params old new rows.items))
        → (HasCleanDisk new → OnErr r (IsSeenAgain old new)) → HoldsTheSame (tables_of old) (tables_of new)
    keeps_asked r shown seen k healthy holds =
        let now = healthy_is new healthy in
        held_again old new k (same_mode r k holds (shown now.0) (seen now.0))
        (same_now r k holds (shown now.0) (seen now.0) now.1) holds

pub was_clean : (old new : State) → doubt old.is_clean ≤ doubt new.is_clean → IsTrue (tables_of new).is_healthy
    → HasCleanDisk old
was_clean old new clean healthy = let now = (healthy_is new healthy).0 in omega (arith, clean, now)

-- what a query tells that was asked over healthy tables
pub query_tells : (s : State) (sql : List ℕ) (params : Row) (old : State) (Q : List Row → Type 0) (r : Answered)
    → ((rows : List Row) → Shown sql params old s rows → Q rows)
    → (HasCleanDisk s → IfOk r (λ rows. Shown sql params old s rows.items)) → IsTrue (tables_of s).is_healthy
    → IfOk r (λ rows. Q rows.items)
query_tells s sql params old Q (Ok rows) tells shown healthy = tells rows.items (shown (healthy_is s healthy).0)
query_tells s sql params old Q (Err e) tells shown healthy = tt

-- what the answer to a query shows of what the tables hold
pub tells_held : (sql : List ℕ) (params : Row) (old new : State) (Q : Kept → List Row → Type 0)
    → ((k : Kept) (rows : List Row) → Holds (tables_of old) k → Shown sql params old new rows → Q k rows)
    → (r : Answered)
    → (HasCleanDisk new → IfOk r (λ rows. Shown sql params old new rows.items))
    → ForAllHeld (tables_of old) (tables_of new) (λ k. IfOk r (λ rows. Q k rows.items))
tells_held sql params old new Q tells r shown k healthy holds =
    query_tells new sql params old (Q k) r (λ rows. tells k rows holds) shown healthy

-- the same of a query with one number
pub tells_held_at : (sql : List ℕ) (id : ℤ) (old new : State) (Q : ℕ → Kept → List Row → Type 0)
    → ((n : ℕ) (k : Kept) (rows : List Row) → Holds (tables_of old) k → Shown sql (Int (pos n) ∷ []) old new rows
    → Q n k rows) → (r : Answered)
    → (HasCleanDisk new → IfOk r (λ rows. Shown sql (Int id ∷ []) old new rows.items))
    → ForAllHeld (tables_of old) (tables_of new) (λ k. IfOk r (λ rows. (n : ℕ) → id ≡ pos n → Q n k rows.items))
tells_held_at sql id old new Q tells =
    tells_held sql (Int id ∷ []) old new (λ k rows. (n : ℕ) → id ≡ pos n → Q n k rows)
    (λ k rows holds shown n is. tells n k rows holds (subst (λ z. Shown sql (Int z ∷ []) old new rows) is shown))
