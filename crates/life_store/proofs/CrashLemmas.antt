-- What a crash leaves, call after call.
use Rattle.std.proofs.Common.{arith, ◌≡◌, ◌+◌, ◌⊎◌, inl, inr, ℕ, List, true, Ok, Err, Option, None, refl, sym, ap}
use Rattle.std.proofs.Common.{subst, subst₂, ◌∙◌, append-nil}
use Rattle.std.specs.Prelude.{IsTrue, IsSome}
use Rattle.std.proofs.lemmas.Bool.{cases_Bool}
use Rattle.sqlite_ast.specs.declared.Statement.{Statement}
use Rattle.sqlite_ast.specs.declared.Statement.TheVariants as written
use Rattle.sqlite_syntax.specs.declared.statement.Parsed.{Parsed}
use Rattle.sqlite_resolve.specs.Compile.{returning, command, meaning, planned, compiled, first, timed, small}
use Rattle.sqlite_resolve.specs.Compile.{with_command}
use Rattle.sqlite_resolve.specs.Lowering.{Checked, and_then}
use Rattle.sqlite_resolve.specs.Scope.{Name}
use Rattle.sqlite_resolve.specs.declared.compiled.Compiled.{Compiled}
use Rattle.sqlite_schema.specs.declared.command.Command.{Command}
use Rattle.sqlite_schema.specs.declared.command.Command.TheVariants.{Insert, Commit, Release}
use Rattle.sqlite_schema.specs.declared.command.Source.{Source}
use Rattle.sqlite_schema.specs.declared.command.Returning.{Returning}
use Rattle.sqlite_schema.specs.declared.schema.Schema.{Schema}
use Rattle.sqlite_trees.specs.Tree.{Trees}
use Rattle.sqlite_trees.specs.View.{IsClean}
use Rattle.sqlite_trees.specs.declared.store.Store.{Ghosts}
use Rattle.sqlite_value.specs.Order.{Row}
use Rattle.sqlite.specs.Held.{Held, state}
use Rattle.sqlite.specs.Listing.{understood, reads_listing, if_select, is_select, listing_schema}
use Rattle.sqlite.specs.State.{State, Survives, CommitsShowing, CommitsBy, MayWrite, IsNewestNamed, names_in, begins_at}
use Rattle.sqlite.proofs.Callers.{IsPlain, command_of, statement_of}
use Rattle.life_store.specs.Crash.{NothingNew, CrashLeaves}
use Rattle.life_store.proofs.Texts.{is_query, is_query_in, IsQueryText}

pub crash_none : {S : Type 0} {g : Ghosts S} {Adds : Trees → Type 0} (s : S) → CrashLeaves g Adds s s
crash_none s = record { honest = λ clean. clean; found = λ clean db left. inl left }

-- what two calls add
pub crash_both : {S : Type 0} {g : Ghosts S} {First Last Adds : Trees → Type 0} (a b c : S)
    → ((db : Trees) → First db → Adds db) → (IsClean (g.view b) → (db : Trees) → Last db → Adds db)
    → CrashLeaves g First a b → CrashLeaves g Last b c → CrashLeaves g Adds a c
crash_both a b c one two before after = record {
  honest = λ clean. before.honest (after.honest clean);
  found = λ clean db left. elim (after.found clean db left) [
    | inl mid ↦ elim (before.found (after.honest clean) db mid) [
      | inl still ↦ inl still
      | inr more ↦ inr (one db more)
    ]
    | inr more ↦ inr (two (after.honest clean) db more)
  ];
}

-- a call that adds nothing, and one that may add
pub crash_last : {S : Type 0} {g : Ghosts S} {Last Adds : Trees → Type 0} (a b c : S)
    → (IsClean (g.view b) → (db : Trees) → Last db → Adds db) → CrashLeaves g NothingNew a b → CrashLeaves g Last b c
    → CrashLeaves g Adds a c
crash_last a b c two before after = crash_both a b c (λ db none. absurd none) two before after

-- what a call of the kit's connection adds
pub crash_by : {S : Type 0} (g : Ghosts S) (old new : Held S) (Commits : Trees → Type 0)
    → Survives (state g old) (state g new) Commits → CrashLeaves g Commits old.store new.store
crash_by g old new Commits it =
    record { honest = λ clean. let was = it.clean in omega (arith, was, clean); found = it.crash }

-- a transaction that begins
pub crash_begun : {S : Type 0} (g : Ghosts S) {Adds : Trees → Type 0} (old new : Held S)
    → new ≡ record old { in_transaction = true } → CrashLeaves g Adds old.store new.store
crash_begun {S} g {Adds} old new is =
    subst (λ (h : Held S). CrashLeaves g Adds old.store h.store) (sym is) (crash_none old.store)

-- ---- a query adds nothing

parts : {A B : Type 0} (r : Checked A) (f : A → Checked B) (b : B) → and_then r f ≡ Ok b
    → (a : A) × (r ≡ Ok a) × (f a ≡ Ok b)
parts (Ok a) f b e = (a, refl, e)
parts (Err x) f b e = absurd cc

returns_none : (schema : Schema) (base : ℕ) (s : Statement) → is_query s ≡ true → returning schema base s ≡ Ok None
unfolding returning
returns_none schema base (written.Select s) is = refl
returns_none schema base _ is = absurd cc

module _ (schema : Schema) where
  represents_none : (p : Parsed) (base : ℕ) (found : Command × Option Returning) → is_query p.statement ≡ true
      → meaning schema p base ≡ Ok found → found.1 ≡ None
  unfolding meaning
  represents_none p base found is means =
      let f : Command → Option Returning → Checked (Command × Option Returning) = λ c shown. Ok (c, shown) in
      let bare = subst (λ r. and_then r (λ shown. and_then (command schema p.formats base p.statement) (λ c. f c shown))
      ≡ Ok found) (returns_none schema base p.statement is) means in
      let it = parts (command schema p.formats base p.statement) (λ c. f c None) found bare in
      let same : found ≡ (it.0, None) = let e = it.2 in cc in
      ap (λ (x : Command × Option Returning). x.1) same

  plans_none : (p : Parsed) (plan : List Name × (Command × Option Returning)) → is_query p.statement ≡ true
      → planned schema p ≡ Ok plan → plan.1.1 ≡ None
  unfolding planned
  plans_none p plan is plans =
      let formats = timed schema p.formats p.statement in
      let it = parts (meaning schema p (small p.names + small formats)) (λ found. Ok (formats, found)) plan plans in
      let same : plan ≡ (formats, it.0) = let e = it.2 in cc in
      ap (λ (x : List Name × (Command × Option Returning)). x.1.1) same
      ∙ represents_none p (small p.names + small formats) it.0 is it.1

  compiles_none : (sql : List ℕ) (c : Compiled) → IsQueryText sql → compiled schema sql ≡ Ok c → c.returning ≡ None
  unfolding compiled
  compiles_none sql c is made =
      let it = parts (first sql) (λ p. and_then (planned schema p) (λ plan. Ok (with_command p plan))) c made in
      let plan = parts (planned schema it.0) (λ plan. Ok (with_command it.0 plan)) c it.2 in
      let same : c ≡ with_command it.0 plan.0 = let e = plan.2 in cc in
      ap (λ (x : Compiled). x.returning) same
      ∙ plans_none it.0 plan.0 (subst (λ r. is_query_in r ≡ true) it.1 is) plan.1

selects : (r : Checked Compiled) (c : Compiled) → if_select r ≡ Ok c → r ≡ Ok c
selects (Ok d) c e = elim (cases_Bool (is_select d.command)) [
  | inl selected ↦ rw selected at e
  | inr other ↦ absurd (let bad = rw other at e in cc)
]
selects (Err x) c e = absurd cc

-- whatever the schema is
shows_none : (schema : Schema) (sql : List ℕ) (c : Compiled) → IsQueryText sql → understood schema sql ≡ Ok c
    → c.returning ≡ None
unfolding understood
shows_none schema sql c is made = elim (cases_Bool (reads_listing schema sql)) [
  | inl listing ↦ compiles_none listing_schema sql c is (selects (compiled listing_schema sql) c (rw listing at made))
  | inr plain ↦ compiles_none schema sql c is (rw plain at made)
]

pub asks_nothing : {S : Type 0} (g : Ghosts S) (old new : Held S) (sql : List ℕ) (params : Row)
    → IsQueryText sql → CrashLeaves g (CommitsShowing sql params (state g old)) old.store new.store
    → CrashLeaves g NothingNew old.store new.store
unfolding CommitsShowing
asks_nothing g old new sql params is it = record {
  honest = it.honest;
  found = λ clean db left. elim (it.found clean db left) [
    | inl before ↦ inl before
    | inr shown ↦ inr (none_some shown.0 (shows_none (state g old).now.schema sql shown.0 is shown.1.is) shown.2)
  ];
}
  where
    none_some : (c : Compiled) → c.returning ≡ None → IsSome c.returning → ⊥
    none_some c none some = absurd (let bad = rw none at some in cc)

-- ---- an INSERT outside a transaction adds what it makes

module _ (sql : List ℕ) (params : Row) (s : State) (schema : Schema) (has : s.now.schema ≡ schema)
    (at : ℕ) (from : Source) (is : command_of (understood schema sql) ≡ Insert at from)
    (plain : IsPlain (understood schema sql)) where
  not_ended : (made : Command) (P : Type 0) → made ≡ Insert at from → (made ≡ Commit) ⊎ ((name : List ℕ)
      × (rowid : ℕ) × (made ≡ Release name) × IsNewestNamed (names_in s) name rowid × IsTrue (begins_at s rowid)) → P
  not_ended made P is (inl ends) = absurd cc
  not_ended made P is (inr ends) = absurd (let e = ends.2 in cc)

  pub commits_as : (db : Trees) → CommitsBy sql params s db
      → MayWrite s None (Insert at from) (statement_of sql (understood schema sql)) params db
  unfolding CommitsBy
  commits_as db h =
      let known = sym h.1.is ∙ ap (λ x. understood x sql) has in
      let bare = subst IsPlain (sym known) plain in
      let made : h.0.command ≡ Insert at from = ap command_of known ∙ is in
      elim h.2 [
        | inl ends ↦ not_ended h.0.command _ made ends.0
        | inr writes ↦
            subst₂ (λ k t. MayWrite s None k t params db) made (ap (statement_of sql) known)
            (rw (bare.0, bare.1, append-nil params) at writes)
      ]
