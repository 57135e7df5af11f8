-- What the INSERT of a deposit does to the tables.
use Rattle.std.proofs.Common.{◌≡◌, ℕ, ℤ, ◌+◌, ◌<◌, ◌^◌, arith, length-append, pos, List, [], ◌∷◌, ◌++◌, length, Bool}
use Rattle.std.proofs.Common.{true, false, cond, None, Ok, Err, Result, refl, sym, ap, subst, ◌∙◌, ◌≤◌, w64}
use Rattle.std.specs.Prelude.{IsTrue, IfOk, OnOk, OnErr, FitsSigned}
use Rattle.std.specs.List.{AllByRecursion}
use Rattle.std.specs.FinSet as set
use Rattle.sqlite_value.specs.declared.value.Value.{Value}
use Rattle.sqlite_value.specs.declared.value.Value.TheVariants.{Null, Int, Text, Blob}
use Rattle.sqlite_value.specs.Order.{Row}
use Rattle.sqlite_sql.specs.Ops.{unary}
use Rattle.sqlite_schema.specs.declared.schema.Table.{Table}
use Rattle.sqlite_schema.specs.declared.schema.Kind.TheVariants.{Integer}
use Rattle.sqlite_schema.specs.declared.command.Source.TheVariants.{Values}
use Rattle.sqlite_schema.specs.declared.command.Command.TheVariants.{Insert}
use Rattle.sqlite_rules.specs.Edit.{edit_of, edited}
use Rattle.sqlite_rules.specs.Cast.{cast}
use Rattle.sqlite_rules.specs.declared.error.Rowids.TheVariants.{Chosen}
use Rattle.sqlite_trees.specs.View.{doubt}
use Rattle.sqlite_trees.specs.Tree.{Trees}
use Rattle.sqlite.specs.Does.{Tally, Does}
use Rattle.sqlite.specs.Rows.{stamped}
use Rattle.sqlite.specs.Effect.{Database, value_rows}
use Rattle.sqlite.specs.Listing.{understood}
use Rattle.sqlite.specs.State.{State, HasCleanDisk, mode_of, Executes, CommitsBy}
use Rattle.sqlite.proofs.Callers.{statement_of, runs_as}
use Rattle.sqlite.specs.declared.error.Error.{Error}
use Rattle.life_core.specs.RuleText.{rule_text}
use Rattle.life_rle.specs.Writer.{text}
use Rattle.life_store.specs.declared.kept.Deposit.{Deposit}
use Rattle.life_store.specs.ExecutingState.{IsSeenAgain}
use Rattle.life_store.specs.Kept.{Kept}
use Rattle.life_store.specs.Layout.{archive_schema, deposits_table}
use Rattle.life_store.proofs.StatementTexts.{add_deposit_text, deposit_terms}
use Rattle.life_store.specs.Statements.{HoldNext}
use Rattle.life_store.specs.Stored.{IsFiled, rows_by, deposit_cells}
use Rattle.life_store.specs.DepositsState.{AreValuesOf}
use Rattle.life_store.specs.Tables.{Tables, tables_in, tables_of, Holds, TreesHold, HoldChanged, WasHealthy}
use Rattle.life_store.specs.Tables.{HoldsTheSame, ForAllHeld}
use Rattle.life_store.proofs.Texts.{add_deposit_is}
use Rattle.life_store.proofs.CrashLemmas.{commits_as}
use Rattle.life_store.proofs.KeepLemmas.{healthy_is, stays_lost, keeps_seen, open_before, trees_hold}
use Rattle.life_store.proofs.InsertLemmas.{inserted}
use Rattle.life_store.proofs.RowLemmas.{put_at_end}

-- the trees represent the deposits of the tables and this one, if it has the next number
abbrev pub HoldNewDeposit : Tables → ℤ → Deposit → Trees → Type 0
HoldNewDeposit old id d db =
    HoldNext (λ k. id ≡ pos (length k.deposits + 1)) (λ k. record k { deposits = k.deposits ++ d ∷ [] }) old db

either : (b : Bool) (x : Value) → cond b x x ≡ x
either true x = refl
either false x = refl

pub cast_null : cast Integer Null ≡ Null
unfolding unary
cast_null = either _ Null

pub cast_int : (n : ℕ) → cast Integer (Int (pos n)) ≡ Int (pos n)
unfolding unary
cast_int n = either _ _

pub all_push : {X : Type 0} (P : X → Type 0) (xs : List X) (x : X) → AllByRecursion P xs → P x
    → AllByRecursion P (xs ++ x ∷ [])
all_push P [] x all here = (here, tt)
all_push P (y ∷ xs) x all here = (all.0, all_push P xs x all.1 here)

-- what is bound to the parameters
abbrev pub given : ℤ → Deposit → List ℕ → ℤ → List ℕ → Row
given id d rule population file = Int id ∷ Text d.member ∷ Text d.token ∷ Text rule ∷ Int population ∷ Blob file ∷ []

abbrev given_as : ℕ → Deposit → Row
given_as id d = given (pos id) d (rule_text d.content.rule) (pos (set.len d.content.cells)) (text d.content)

-- what the INSERT makes of a database
made : (s : State) (k : Kept) (d : Deposit) (id : ℕ) → id ≡ 1 + length k.deposits → id < 2 ^ 63
    → IsFiled d → Holds (tables_of s) k → (tally : Tally) (after : Database)
    → Does s.step_limit (mode_of s) (given_as id d) s.now
    (statement_of add_deposit_text (understood archive_schema add_deposit_text)) None
    (Insert 1 (Values deposit_terms 7)) (Ok (tally, after))
    → (b : Bool) (m : ℕ) (in_transaction : Bool) → in_transaction ≡ false
    → Holds (tables_in b m in_transaction after) (record k { deposits = k.deposits ++ d ∷ [] })
made s k d id is few filed holds tally after does b m in_transaction none =
    let table : Table = record deposits_table { tree = 1 } in
    let params = given_as id d in
    let text = statement_of add_deposit_text (understood archive_schema add_deposit_text) in
    let was = record s.now { schema = archive_schema } in
    let it = inserted s.step_limit (mode_of s) params was text 1 deposit_terms 7 table tally after refl refl
    (subst (λ t. Does s.step_limit (mode_of s) params (record s.now { schema = t }) text None
    (Insert 1 (Values deposit_terms 7)) (Ok (tally, after))) holds.schema does) in
    let edit : edited s.now.trees (edit_of s.now.trees table [] Chosen 0
    (value_rows (stamped table params) 7 1 deposit_terms)) ≡ rows_by deposit_cells 1 (k.deposits ++ d ∷ []) =
    rw (holds.deposits, cast_null, cast_int id, cast_int (set.len d.content.cells))
    (put_at_end deposit_cells k.deposits 1 id d is) in
    record {
      schema = it.schema;
      committed = none;
      layout = it.step.tables.0 (λ e. cc) ∙ holds.layout;
      deposits = it.step.rows ∙ edit;
      censuses = it.step.tables.1.1.0 (λ e. cc) ∙ holds.censuses;
      census_rows = it.step.tables.1.1.1.0 (λ e. cc) ∙ holds.census_rows;
      census_flags = it.step.tables.1.1.1.1.0 (λ e. cc) ∙ holds.census_flags;
      filed = all_push IsFiled k.deposits d holds.filed filed;
      ordered = holds.ordered;
      few_deposits = subst (λ n. n < 2 ^ 63) (is ∙ omega (arith, length-append k.deposits (d ∷ []))) few;
      few_censuses = holds.few_censuses;
    }

adds : (old new : State) (k : Kept) (d : Deposit) (id count : ℕ) → id ≡ 1 + length k.deposits
    → id < 2 ^ 63 → IsFiled d → Holds (tables_of old) k → Executes add_deposit_text (given_as id d) old new (Ok count)
    → Holds (tables_of new) (record k { deposits = k.deposits ++ d ∷ [] })
adds old new k d id count is few filed holds h =
    let w = runs_as add_deposit_text (given_as id d) old new archive_schema holds.schema
    (Insert 1 (Values deposit_terms 7)) add_deposit_is.command add_deposit_is.plain count h in
    made old k d id is few filed holds w.tally new.now w.changed (tables_of new).is_healthy
    (tables_of new).faults new.in_transaction (w.shown.mode ∙ holds.committed)

module _ (old new : State) (clean : doubt old.is_clean ≤ doubt new.is_clean) (d : Deposit)
    (id : ℤ) (fits : FitsSigned w64 id) (rule : List ℕ) (population : ℤ) (file : List ℕ)
    (are : AreValuesOf d rule population file) where
  abbrev Ran : Result ℕ Error → Type 0
  Ran r =
      HasCleanDisk new
      → IfOk r (λ count. Executes add_deposit_text (given id d rule population file) old new (Ok count))

  fits_as : (n : ℕ) → id ≡ pos n → n < 2 ^ 63
  fits_as n is = let it : FitsSigned w64 (pos n) = subst (FitsSigned w64) is fits in omega (arith, it.sfits)

  -- what is bound is what the deposit's row has
  as_given : (P : Row → Type 0) (n : ℕ) → id ≡ pos n → P (given id d rule population file) → P (given_as n d)
  as_given P n is h =
      subst (λ f. P (given (pos n) d (rule_text d.content.rule) (pos (set.len d.content.cells)) f)) are.content
      (subst (λ p. P (given (pos n) d (rule_text d.content.rule) p file)) are.population (subst
      (λ r. P (given (pos n) d r population file)) are.rule (subst (λ i. P (given i d rule population file)) is h)))

  added : (count : ℕ) (k : Kept) (n : ℕ) → id ≡ pos n → n ≡ length k.deposits + 1 → Holds (tables_of old) k
      → Executes add_deposit_text (given id d rule population file) old new (Ok count)
      → Holds (tables_of new) (record k { deposits = k.deposits ++ d ∷ [] })
  added count k n is next holds h =
      adds old new k d n count (omega (arith, next)) (fits_as n is) are.filed holds
      (as_given (λ params. Executes add_deposit_text params old new (Ok count)) n is h)

  -- what a crash may leave of it
  pub crash : (db : Trees) → CommitsBy add_deposit_text (given id d rule population file) old db
      → HoldNewDeposit (tables_of old) id d db
  crash db h k holds is =
      let n = length k.deposits + 1 in
      let w = commits_as add_deposit_text (given_as n d) old archive_schema holds.schema 1
      (Values deposit_terms 7) add_deposit_is.command add_deposit_is.plain db
      (as_given (λ params. CommitsBy add_deposit_text params old db) n is h) in
      let next : n ≡ 1 + length k.deposits = omega arith in
      let it = made old k d n next (fits_as n is) are.filed holds w.1 w.2 w.3 true 0 false refl in
      subst (λ trees. TreesHold trees (record k { deposits = k.deposits ++ d ∷ [] })) (sym w.5)
      (trees_hold w.2 _ w.4 it)

  pub lost : (r : Result ℕ Error) → Ran r → (HasCleanDisk new → OnErr r (IsSeenAgain old new))
      → WasHealthy (tables_of old) (tables_of new)
  lost (Ok count) ran seen =
      stays_lost old new clean (λ now up. open_before add_deposit_text _ old new count up (ran now))
  lost (Err e) ran seen = stays_lost old new clean (λ now up. (seen now).was_open up)

  pub ok : (r : Result ℕ Error) → Ran r
      → OnOk r ((k : Kept) → IsTrue (tables_of new).is_healthy → Holds (tables_of old) k
      → id ≡ pos (length k.deposits + 1) → Holds (tables_of new) (record k { deposits = k.deposits ++ d ∷ [] }))
  ok (Ok count) ran =
      λ k healthy holds is. added count k (length k.deposits + 1) is refl holds (ran (healthy_is new healthy).0)
  ok (Err e) ran = tt

  pub err : (r : Result ℕ Error) → (HasCleanDisk new → OnErr r (IsSeenAgain old new))
      → OnErr r (HoldsTheSame (tables_of old) (tables_of new))
  err (Ok count) seen = tt
  err (Err e) seen = keeps_seen old new clean seen

-- what a crash may leave of it, where the number was asked for first
pub asked_first : (old mid : Tables) (n : ℕ) (id : ℤ) (d : Deposit) (db : Trees)
    → id ≡ pos (n + 1) → IsTrue mid.is_healthy → WasHealthy old mid → HoldsTheSame old mid
    → ForAllHeld old mid (λ k. n ≡ length k.deposits)
    → HoldNewDeposit mid id d db → HoldChanged old (λ k. record k { deposits = k.deposits ++ d ∷ [] }) db
asked_first old mid n id d db rowid healthy was same counted h =
    (was healthy, λ k holds. h k (same k healthy holds) (rowid ∙ ap (λ (m : ℕ). pos (m + 1)) (counted k healthy holds)))
