-- The migration of an archive of schema version 1, statement by statement.
use Rattle.std.proofs.Common.{◌≡◌, ◌⊎◌, ◌<◌, ◌≤◌, Bool, inl, inr, ℕ, zero, suc, ◌+◌, pos, List, [], ◌∷◌, ◌++◌, length}
use Rattle.std.proofs.Common.{map, take, slice_get, Option, Some, None, Ok, Err, Result, true, refl, sym, ap, ap₂}
use Rattle.std.proofs.Common.{subst, ◌∙◌, arith, false}
use Rattle.std.specs.Prelude.{IsTrue, IfOk, IfErr, OnOk, ◌^◌, ◌↔◌, Vec}
use Rattle.std.specs.declared.alloc.Global.{Global}
use Rattle.std.specs.List.{AllByRecursion}
use Rattle.std.proofs.lemmas.List.{map-append}
use native.Mathlib.Numerals.{add-one}
use Rattle.sqlite_value.specs.declared.value.Value.TheVariants.{Int}
use Rattle.sqlite_value.specs.declared.value.Value.{Value}
use Rattle.sqlite_value.specs.Order.{Row}
use Rattle.life_census.specs.Rows.{TallyCounts}
use Rattle.life_census.specs.Steady.{IsSteady}
use Rattle.life_store.specs.declared.kept.Census.{Census}
use Rattle.life_store.specs.declared.kept.Deposit.{Deposit}
use Rattle.sqlite_schema.specs.declared.command.Returning.{Returning}
use Rattle.sqlite_resolve.specs.declared.compiled.Compiled.{Compiled}
use Rattle.sqlite.specs.Clock.{timed}
use Rattle.sqlite.specs.Effect.{Database, IsDatabase}
use Rattle.sqlite.specs.Listing.{understood}
use Rattle.sqlite.specs.State.{State, Shown, ShowsRows, FailsToQuery, IsTooLate, KeepsCommit, Shows, Executes}
use Rattle.sqlite.specs.declared.error.Error.{Error}
use Rattle.sqlite.proofs.Callers.{IsPlain}
use Rattle.life_store.specs.Migration.{IsFlagged, unflagged, generation_in, version_1, HoldsFirst, Migrated}
use Rattle.life_store.specs.Migration.{TreesMigrated}
use Rattle.sqlite_trees.specs.Tree.{Trees}
use Rattle.sqlite_catalog.specs.Listing.{IsSound}
use Rattle.life_store.specs.MigrationState.{HoldsFirstParts, IsFlaggedUpTo, IsMigrated}
use Rattle.life_store.specs.CensusesState.{Parts, HoldsParts, with_flag}
use Rattle.life_store.specs.Kept.{Kept, Tallied, numbered}
use Rattle.life_store.specs.Layout.{archive_schema, first_schema, census_flags_table}
use Rattle.life_store.proofs.StatementTexts.{census_flags_text}
use Rattle.life_store.specs.Stored.{IsFiled, rows_by, census_cells, count_cells, counts_from, tagged}
use Rattle.life_store.specs.Tables.{tables_of, version_2, HasOrder}
use Rattle.life_store.proofs.KeepLemmas.{Answered, IsUndone, not_answered, shown_unchanged, keeps_then}
use Rattle.life_store.proofs.CreatingLemmas.{creates, makes_census_flags}
use Rattle.sqlite_tied.specs.Compute.{everything}

-- ---- a query inside a transaction

shown_keeps_as : (old new : State) (sql : List ℕ) (c : Compiled) (params : Row) (rows : List Row) (r : Option Returning)
    → IsTrue old.in_transaction → ShowsRows old new sql c params rows r
    → IsTrue new.in_transaction × KeepsCommit old new
shown_keeps_as old new sql c params rows None inside h =
    let it = h.3.0 in (it.mode ∙ inside, record { was_open = λ up. it.was_open; committed = λ up. it.committed_is })
shown_keeps_as old new sql c params rows (Some what) inside h =
    let it = rw inside at h.1.shown in
    (it.mode, record { was_open = λ up. it.was_open; committed = λ up. it.committed_is })

pub shown_keeps : (sql : List ℕ) (params : Row) (old new : State) (rows : List Row) → IsTrue old.in_transaction
    → Shown sql params old new rows → IsTrue new.in_transaction × KeepsCommit old new
unfolding Shown
shown_keeps sql params old new rows inside h =
    shown_keeps_as old new sql h.0 (timed params h.0.formats h.1.now) rows h.0.returning inside h.2

undone_keeps : (old new : State) → IsUndone old new → KeepsCommit old new
undone_keeps old new (inl same) = record { was_open = λ up. same.0.was_open; committed = λ up. same.0.committed_is }
undone_keeps old new (inr back) = record { was_open = back.was_open; committed = λ up. (back.undone up).1 }

refused_keeps : (sql : List ℕ) (params : Row) (old new : State) (e : Error)
    → FailsToQuery sql params old new e ⊎ IsTooLate sql params old new e → KeepsCommit old new
refused_keeps sql params old new e (inl failed) = undone_keeps old new (not_answered sql params old new e failed)
refused_keeps sql params old new e (inr late) = undone_keeps old new (inl late.5)

module _ (sql : List ℕ) (params : Row) (old new : State)
    (r : Answered) (shown : IfOk r (λ rows. Shown sql params old new rows.items))
    (failed : IfErr r (λ e. FailsToQuery sql params old new e ⊎ IsTooLate sql params old new e)) where
  pub query_keeps : IsTrue old.in_transaction → KeepsCommit old new
  query_keeps inside = go r shown failed
    where
      go : (o : Answered) → IfOk o (λ rows. Shown sql params old new rows.items)
          → IfErr o (λ e. FailsToQuery sql params old new e ⊎ IsTooLate sql params old new e) → KeepsCommit old new
      go (Ok rows) s f = (shown_keeps sql params old new rows.items inside s).1
      go (Err e) s f = refused_keeps sql params old new e f

-- what an answer over the archive's tables tells, and that they are as they were
pub tells_inside : (sql : List ℕ) (params : Row) (old new : State) (r : List Row) (p : Parts) (Q : List Row → Type 0)
    → IsPlain (understood archive_schema sql) → HoldsParts old.now p → Shown sql params old new r
    → (Shown sql params old new r → Q r)
    → Q r × HoldsParts new.now p
tells_inside sql params old new r p Q plain stands shown tells =
    let same = (shown_unchanged sql params old new r
    (subst (λ s. IsPlain (understood s sql)) (sym stands.schema) plain) shown).0.now_is in
    (tells shown, subst (λ (d : Database). HoldsParts d p) (sym same) stands)

pub answers_inside : {E : Type 0} (sql : List ℕ) (params : Row) (old new : State)
    (r : Result (Vec (List Value) Global) E) (p : Parts) (Q : List Row → Type 0)
    → IsPlain (understood archive_schema sql) → HoldsParts old.now p
    → IfOk r (λ rows. Shown sql params old new rows.items)
    → ((rows : List Row) → Shown sql params old new rows → Q rows)
    → IfOk r (λ rows. Q rows.items × HoldsParts new.now p)
answers_inside sql params old new (Ok rows) p Q plain stands shown tells =
    tells_inside sql params old new rows.items p Q plain stands shown (tells rows.items)
answers_inside sql params old new (Err e) p Q plain stands shown tells = tt

-- ---- the table of flags is made

pub makes_flags : (old new : State) (count : ℕ) (p : Parts) → HoldsFirstParts old.now p
    → Executes census_flags_text [] old new (Ok count) → HoldsParts new.now (record p { flagged = [] })
unfolding everything
makes_flags old new count p first h =
    let it = creates first_schema census_flags_text census_flags_table old new count makes_census_flags
    first.schema h in
    record {
      schema = it.0;
      layout = it.2.0 ∙ first.layout;
      deposits = it.2.1.0 ∙ first.deposits;
      censuses = it.2.1.1.0 ∙ first.censuses;
      census_rows = it.2.1.1.1.0 ∙ first.census_rows;
      census_flags = it.1;
    }

-- ---- a flag for each census

pub begins_flagged : (p : Parts) (db : Database) → HoldsParts db p → p.flagged ≡ [] → IsFlaggedUpTo p 0 db
begins_flagged p db stands none = record {
  done = [];
  same = refl;
  flagged = tt;
  stands = subst (λ f. HoldsParts db (record p { flagged = f })) none stands;
}

one_more : {X : Type 0} (xs : List X) (n : ℕ) (x : X) → slice_get xs n ≡ Some x → take (suc n) xs ≡ take n xs ++ x ∷ []
one_more [] n x there = absurd cc
one_more (y ∷ xs) zero x there = let same : y ≡ x = cc in ap (λ z. z ∷ []) same
one_more (y ∷ xs) (suc n) x there = ap (λ all. y ∷ all) (one_more xs n x there)

pub there_is : {X : Type 0} (xs : List X) (n : ℕ) → n < length xs → (x : X) × (slice_get xs n ≡ Some x)
there_is [] n low = absurd (omega (arith, low))
there_is (x ∷ xs) zero low = (x, refl)
there_is (x ∷ xs) (suc n) low = there_is xs n (omega (arith, low))

long : {A B C : Type 0} (f : A → C) (g : B → C) (xs : List A) (ys : List B) → map f xs ≡ map g ys
    → length xs ≡ length ys
long f g [] [] e = refl
long f g [] (y ∷ ys) e = absurd cc
long f g (x ∷ xs) [] e = absurd cc
long f g (x ∷ xs) (y ∷ ys) e = let rest : map f xs ≡ map g ys = cc in omega (arith, long f g xs ys rest)

taken : {X : Type 0} (n : ℕ) (xs : List X) → n ≤ length xs → length (take n xs) ≡ n
taken zero xs low = refl
taken (suc n) [] low = absurd (omega (arith, low))
taken (suc n) (x ∷ xs) low = omega (arith, taken n xs (omega (arith, low)))

whole : {X : Type 0} (n : ℕ) (xs : List X) → n ≡ length xs → take n xs ≡ xs
whole zero [] is = refl
whole zero (x ∷ xs) is = absurd (omega (arith, is))
whole (suc n) [] is = refl
whole (suc n) (x ∷ xs) is = ap (λ all. x ∷ all) (whole n xs (omega (arith, is)))

pub flagged_push : {X : Type 0} (P : X → Type 0) (xs : List X) (x : X) → AllByRecursion P xs
    → P x → AllByRecursion P (xs ++ x ∷ [])
flagged_push P [] x all here = (here, tt)
flagged_push P (y ∷ xs) x all here = (all.0, flagged_push P xs x all.1 here)

-- how many flags there are
pub flags_so_far : (p : Parts) (n : ℕ) (db : Database) (u : IsFlaggedUpTo p n db) → n ≤ length p.censuses
    → length u.done ≡ n
flags_so_far p n db u low = long unflagged unflagged u.done (take n p.censuses) u.same ∙ taken n p.censuses low

pub flags_more : (p : Parts) (n : ℕ) (old new : Database) (u : IsFlaggedUpTo p n old) (t : Tallied)
    → slice_get p.censuses n ≡ Some t
    → (b : Bool) × IsFlagged p.deposits (record t { steady = b })
    × HoldsParts new (with_flag (record t { steady = b }) (record p { flagged = u.done })) → IsFlaggedUpTo p (n + 1) new
flags_more p n old new u t there it =
    let one = record t { steady = it.0 } in
    record {
      done = u.done ++ one ∷ [];
      same =
          map-append unflagged u.done (one ∷ []) ∙ ap (λ all. all ++ unflagged t ∷ []) u.same
          ∙ sym (map-append unflagged (take n p.censuses) (t ∷ []))
          ∙ ap (map unflagged) (sym (one_more p.censuses n t there))
          ∙ ap (λ k. map unflagged (take k p.censuses)) (sym (add-one n));
      flagged = flagged_push (IsFlagged p.deposits) u.done one u.flagged it.1;
      stands = it.2;
    }

pub all_flagged : {E : Type 0} (r : Result (Unit {0}) E) (p : Parts) (n : ℕ) (db after : Database)
    (u : IsFlaggedUpTo (record p { flagged = [] }) n db) → n ≡ length p.censuses
    → OnOk r (HoldsParts after (record p { layout = version_2; flagged = u.done })) → OnOk r (IsDatabase after)
    → OnOk r (IsMigrated p after × IsDatabase after)
all_flagged (Ok x) p n db after u is stands sound = (
  record {
    done = u.done;
    same = u.same ∙ ap (map unflagged) (whole n p.censuses is);
    flagged = u.flagged;
    stands = stands;
  },
  sound,
)
all_flagged (Err e) p n db after u is stands sound = tt

-- the flag that was computed
pub flagged_by : {E Q : Type 0} (r : Result Bool E) (ds : List Deposit) (t : Tallied) (deposit generation limit : ℕ)
    (d : Deposit) → deposit ≡ t.census.deposit → generation ≡ t.census.generation → limit ≡ t.census.limit
    → numbered ds deposit ≡ Some d
    → IfOk r (λ b. IsTrue b ↔ IsSteady d.content.rule (generation_in d.content generation) limit)
    → Q → IfOk r (λ b. IsFlagged ds (record t { steady = b }) × Q)
flagged_by (Ok b) ds t deposit generation limit d of_deposit of_generation of_limit there same q = (
  record {
    deposit = d;
    is = ap (numbered ds) (sym of_deposit) ∙ there;
    flag = subst (λ n. IsTrue b ↔ IsSteady d.content.rule (generation_in d.content n) t.census.limit) of_generation
        (subst (λ n. IsTrue b ↔ IsSteady d.content.rule (generation_in d.content generation) n) of_limit same);
  },
  q,
)
flagged_by (Err e) ds t deposit generation limit d of_deposit of_generation of_limit there same q = tt

pub migrated_by : {E : Type 0} (r : Result (Unit {0}) E) (P : Type 0) (p : Parts)
    (t : Tallied) (b : Bool) (new : Database) → IsFlagged p.deposits (record t { steady = b })
    → OnOk r (P × HoldsParts new (with_flag (record t { steady = b }) p))
    → OnOk r ((x : Bool) × IsFlagged p.deposits (record t { steady = x })
    × HoldsParts new (with_flag (record t { steady = x }) p))
migrated_by (Ok u) P p t b new flagged made = (b, flagged, made.1)
migrated_by (Err e) P p t b new flagged made = tt

-- the flags of the first n censuses were added inside a transaction
pub record HasMigrated (old new : State) (n : ℕ) : Type 0 where
  pub inside : IsTrue new.in_transaction
  pub kept : KeepsCommit old new
  pub migrated : (p : Parts) → AllByRecursion IsFiled p.deposits → HoldsParts old.now p → p.flagged ≡ []
      → n ≤ length p.censuses → IsFlaggedUpTo p n new.now

pub begins_migrated : (s : State) → IsTrue s.in_transaction → HasMigrated s s 0
begins_migrated s inside = record {
  inside = inside;
  kept = record { was_open = λ up. up; committed = λ up. refl };
  migrated = λ p filed stands none low. begins_flagged p s.now stands none;
}

pub carries_on : (a b c : State) (n : ℕ) → HasMigrated a b n → IsTrue c.in_transaction → KeepsCommit b c
    → ((p : Parts) (t : Tallied) → AllByRecursion IsFiled p.deposits → HoldsParts b.now p → n + 1 ≡ length p.flagged + 1
    → numbered p.censuses (n + 1) ≡ Some t
    → (x : Bool) × IsFlagged p.deposits (record t { steady = x })
    × HoldsParts c.now (with_flag (record t { steady = x }) p))
    → HasMigrated a c (n + 1)
carries_on a b c n before inside kept adds = record {
  inside = inside;
  kept = keeps_then a b c before.kept kept;
  migrated = λ p filed stands none low.
      let below : n < length p.censuses = omega (arith, low) in
      let u = before.migrated p filed stands none (omega (arith, low)) in
      let t = there_is p.censuses n below in
      let many : n + 1 ≡ length u.done + 1 = ap (λ k. k + 1) (sym (flags_so_far p n b.now u (omega (arith, low)))) in
      let there : numbered p.censuses (n + 1) ≡ Some t.0 = ap (numbered p.censuses) (add-one n) ∙ t.1 in
      flags_more p n b.now c.now u t.0 t.1 (adds (record p { flagged = u.done }) t.0 filed u.stands many there);
}

-- ---- the same censuses with flags

same_cells : (from : ℕ) (xs ys : List Tallied) → map unflagged xs ≡ map unflagged ys
    → rows_by census_cells from ys ≡ rows_by census_cells from xs
same_cells from [] [] e = refl
same_cells from [] (y ∷ ys) e = absurd cc
same_cells from (x ∷ xs) [] e = absurd cc
same_cells from (x ∷ xs) (y ∷ ys) e =
    let first : unflagged x ≡ unflagged y = cc in
    let rest : map unflagged xs ≡ map unflagged ys = cc in
    let cells : census_cells y ≡ census_cells x =
    ap (λ (u : Census × TallyCounts). census_cells (record { census = u.0; tally = u.1; steady = true })) (sym first) in
    ap₂ (λ c rows. (Int (pos from) ∷ c) ∷ rows) cells (same_cells (from + 1) xs ys rest)

same_counts : (from : ℕ) (xs ys : List Tallied) → map unflagged xs ≡ map unflagged ys
    → counts_from from ys ≡ counts_from from xs
same_counts from [] [] e = refl
same_counts from [] (y ∷ ys) e = absurd cc
same_counts from (x ∷ xs) [] e = absurd cc
same_counts from (x ∷ xs) (y ∷ ys) e =
    let first : unflagged x ≡ unflagged y = cc in
    let rest : map unflagged xs ≡ map unflagged ys = cc in
    ap₂ (λ (u : Census × TallyCounts) more. tagged from u.1.rows ++ more) (sym first)
    (same_counts (from + 1) xs ys rest)

same_order : (xs ys : List Tallied) → map unflagged xs ≡ map unflagged ys
    → AllByRecursion (λ (t : Tallied). HasOrder t.tally) ys → AllByRecursion (λ (t : Tallied). HasOrder t.tally) xs
same_order [] ys e all = tt
same_order (x ∷ xs) [] e all = absurd cc
same_order (x ∷ xs) (y ∷ ys) e all =
    let first : unflagged x ≡ unflagged y = cc in
    let rest : map unflagged xs ≡ map unflagged ys = cc in
    (subst (λ (u : Census × TallyCounts). HasOrder u.1) (sym first) all.0, same_order xs ys rest all.1)

-- the parts of what an archive of schema version 1 keeps
abbrev pub first_parts : Kept → Parts
first_parts k = record {
  layout = version_1;
  deposits = k.deposits;
  censuses = k.censuses;
  counts = counts_from 1 k.censuses;
  flagged = [];
}

pub first_stands : (s : State) (k : Kept) → HoldsFirst (tables_of s) k → HoldsFirstParts s.now (first_parts k)
first_stands s k h = record {
  schema = h.schema;
  layout = h.layout;
  deposits = h.deposits;
  censuses = h.censuses;
  census_rows = h.census_rows;
}

-- what they represent in trees that were committed
pub migrated_trees : (old : State) (db : Trees) (k : Kept) → HoldsFirst (tables_of old) k
    → (after : Database) × (db ≡ after.trees) × IsDatabase after × IsMigrated (first_parts k) after → TreesMigrated db k
migrated_trees old db k h (after, is, sound, it) =
    subst (λ (t : Trees). TreesMigrated t k) (sym is) (record {
      sound = subst (λ s. IsSound s after.trees) it.stands.schema sound;
      migrated = record {
        censuses = it.done;
        same = it.same;
        flagged = it.flagged;
        holds = record {
          schema = refl;
          committed = refl;
          layout = it.stands.layout;
          deposits = it.stands.deposits;
          censuses = it.stands.censuses ∙ same_cells 1 it.done k.censuses it.same;
          census_rows = it.stands.census_rows ∙ ap (rows_by count_cells 1) (same_counts 1 it.done k.censuses it.same);
          census_flags = it.stands.census_flags;
          filed = h.filed;
          ordered = same_order it.done k.censuses it.same h.ordered;
          few_deposits = h.few_deposits;
          few_censuses =
              subst (λ n. n < 2 ^ 63) (sym (long unflagged unflagged it.done k.censuses it.same)) h.few_censuses;
        };
      };
    })

pub migrated_holds : (old new : State) (k : Kept) → new.in_transaction ≡ false → HoldsFirst (tables_of old) k
    → IsMigrated (first_parts k) new.now → Migrated (tables_of new) k
migrated_holds old new k none h it = record {
  censuses = it.done;
  same = it.same;
  flagged = it.flagged;
  holds = record {
    schema = it.stands.schema;
    committed = none;
    layout = it.stands.layout;
    deposits = it.stands.deposits;
    censuses = it.stands.censuses ∙ same_cells 1 it.done k.censuses it.same;
    census_rows = it.stands.census_rows ∙ ap (rows_by count_cells 1) (same_counts 1 it.done k.censuses it.same);
    census_flags = it.stands.census_flags;
    filed = h.filed;
    ordered = same_order it.done k.censuses it.same h.ordered;
    few_deposits = h.few_deposits;
    few_censuses = subst (λ n. n < 2 ^ 63) (sym (long unflagged unflagged it.done k.censuses it.same)) h.few_censuses;
  };
}

-- ---- how the transaction ends

pub migrated_committed : (last new : State) (p : Parts) → Shows last new last.now last.now false
    → IsMigrated p last.now → IsMigrated p new.now
migrated_committed last new p shows it = subst (λ (d : Database). IsMigrated p d) (sym shows.now_is) it
