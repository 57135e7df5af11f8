-- What each CREATE TABLE of the archive makes.
use Rattle.std.proofs.Common.{◌≡◌, ℕ, pos, List, [], ◌∷◌, false, None, codes, Ok, Err, Result, refl, sym, ap, subst}
use Rattle.std.proofs.Common.{◌∙◌}
use Rattle.sqlite_schema.specs.declared.schema.Table.{Table}
use Rattle.sqlite_schema.specs.declared.schema.Schema.{Schema}
use Rattle.sqlite_schema.specs.declared.command.Command.TheVariants.{CreateTable, Insert}
use Rattle.sqlite_schema.specs.declared.command.Source.TheVariants.{Values}
use Rattle.sqlite_value.specs.declared.value.Value.TheVariants.{Null, Int}
use Rattle.sqlite_sql.specs.Term.{Term, lit}
use Rattle.sqlite_rules.specs.Edit.{edit_of, edited}
use Rattle.sqlite_rules.specs.declared.error.Rowids.TheVariants.{Chosen}
use Rattle.sqlite.specs.Rows.{stamped}
use Rattle.sqlite.specs.Effect.{value_rows}
use Rattle.life_store.proofs.InsertLemmas.{went, same_value, inserted}
use Rattle.life_store.proofs.AddLemmas.{cast_null, cast_int}
use Rattle.sqlite_resolve.specs.Compile.{table_defined_by}
use Rattle.sqlite_catalog.specs.Change.{created, next_tree, KeepsRows}
use Rattle.sqlite.specs.Does.{Tally, Does, lacks_sequence}
use Rattle.sqlite.specs.Effect.{Database, IsDatabase}
use Rattle.sqlite.specs.Listing.{understood}
use Rattle.sqlite.specs.State.{State, mode_of, Writes, Executes, ExecutesInside}
use Rattle.std.specs.Prelude.{IsTrue, OnOk}
use Rattle.sqlite.specs.declared.error.Error.{Error}
use Rattle.sqlite.proofs.Callers.{IsPlain, command_of, statement_of, runs_as}
use Rattle.sqlite_tied.specs.Compute.{everything}
use Rattle.life_store.specs.Layout.{layout_table, deposits_table, censuses_table, census_rows_table, census_flags_table}
use Rattle.life_store.specs.Layout.{key_index, no_schema, first_schema, archive_schema}
use Rattle.life_store.specs.CreatingState.{HasTables, IsNewArchive}
use Rattle.life_store.proofs.StatementTexts.{layout_text, deposits_text, censuses_text, census_rows_text}
use Rattle.life_store.proofs.StatementTexts.{census_flags_text}
use Rattle.life_store.proofs.StatementTexts.{add_version_text}
use Rattle.life_store.proofs.Texts.{layout_is, deposits_is, censuses_is, census_rows_is, census_flags_is}

-- the tables as they come, one after another
abbrev schema_1 : Schema
schema_1 = record { tables = layout_table ∷ []; indexes = []; views = [] }

abbrev schema_2 : Schema
schema_2 = record {
  tables = layout_table ∷ record deposits_table { tree = 1 } ∷ [];
  indexes = key_index (codes "sqlite_autoindex_deposits_1") 2 1 (2 ∷ 3 ∷ []) ∷ [];
  views = [];
}

abbrev schema_3 : Schema
schema_3 = record {
  tables = layout_table ∷ record deposits_table { tree = 1 } ∷ record censuses_table { tree = 3 } ∷ [];
  indexes =
      key_index (codes "sqlite_autoindex_deposits_1") 2 1 (2 ∷ 3 ∷ [])
      ∷ key_index (codes "sqlite_autoindex_censuses_1") 4 3 (2 ∷ 3 ∷ []) ∷ [];
  views = [];
}

-- the text makes this table over this schema
pub record IsCreate (schema : Schema) (text : List ℕ) (table : Table) : Type 0 where
  pub command : command_of (understood schema text) ≡ CreateTable
  pub whole : statement_of text (understood schema text) ≡ text
  pub plain : IsPlain (understood schema text)
  pub defined : table_defined_by text ≡ Ok table
  pub uncounted : lacks_sequence (created schema table) ≡ false

pub creates : (schema : Schema) (text : List ℕ) (table : Table) (old new : State) (count : ℕ)
    → IsCreate schema text table → old.now.schema ≡ schema → Executes text [] old new (Ok count)
    → (new.now.schema ≡ created schema table) × (new.now.trees (next_tree schema) ≡ [])
    × KeepsRows schema.tables old.now.trees new.now.trees
creates schema text table old new count it has h =
    let w = subst (λ t. Writes old new None CreateTable t [] count) it.whole
    (runs_as text [] old new schema has CreateTable it.command it.plain count h) in
    went w.changed (λ all.
    went all.1 (λ first.
    let made = first.1 in
    let both : Ok made.table ≡ Ok table = sym made.defined ∙ it.defined in
    let same : made.table ≡ table = same_value both in
    let is : first.0.schema ≡ created schema table = made.is ∙ ap (λ s. created s made.table) has
    ∙ ap (created schema) same in
    let plain : lacks_sequence first.0.schema ≡ false = ap lacks_sequence is ∙ it.uncounted in
    let now : new.now ≡ first.0 = ap (λ (p : Tally × Database). p.1) (same_value all.2)
    ∙ same_value (rw plain at first.2) in (
      ap (λ (d : Database). d.schema) now ∙ is,
      subst (λ (d : Database). d.trees (next_tree schema) ≡ []) (sym now)
          (subst (λ s. first.0.trees (next_tree s) ≡ []) has made.empty),
      subst (λ (d : Database). KeepsRows schema.tables old.now.trees d.trees) (sym now)
          (subst (λ s. KeepsRows s.tables old.now.trees first.0.trees) has made.others),
    )))

pub makes_layout : IsCreate no_schema layout_text layout_table
unfolding understood everything
makes_layout = record { command = refl; whole = refl; plain = (refl, refl); defined = layout_is; uncounted = refl }

pub makes_deposits : IsCreate schema_1 deposits_text deposits_table
unfolding understood everything
makes_deposits = record { command = refl; whole = refl; plain = (refl, refl); defined = deposits_is; uncounted = refl }

pub makes_censuses : IsCreate schema_2 censuses_text censuses_table
unfolding understood everything
makes_censuses = record { command = refl; whole = refl; plain = (refl, refl); defined = censuses_is; uncounted = refl }

pub makes_census_rows : IsCreate schema_3 census_rows_text census_rows_table
unfolding understood everything
makes_census_rows =
    record { command = refl; whole = refl; plain = (refl, refl); defined = census_rows_is; uncounted = refl }

pub makes_census_flags : IsCreate first_schema census_flags_text census_flags_table
unfolding understood everything
makes_census_flags =
    record { command = refl; whole = refl; plain = (refl, refl); defined = census_flags_is; uncounted = refl }

module _ (old new : State) (count : ℕ) where
  pub creates_layout : HasTables no_schema [] old.now → Executes layout_text [] old new (Ok count)
      → HasTables schema_1 (0 ∷ []) new.now
  unfolding everything
  creates_layout has_tables h =
      let it = creates no_schema layout_text layout_table old new count makes_layout has_tables.is h in
      record { is = it.0; none = (it.1, tt) }

  pub creates_deposits : HasTables schema_1 (0 ∷ []) old.now → Executes deposits_text [] old new (Ok count)
      → HasTables schema_2 (0 ∷ 1 ∷ []) new.now
  unfolding everything
  creates_deposits has_tables h =
      let it = creates schema_1 deposits_text deposits_table old new count makes_deposits has_tables.is h in
      record { is = it.0; none = (it.2.0 ∙ has_tables.none.0, (it.1, tt)) }

  pub creates_censuses : HasTables schema_2 (0 ∷ 1 ∷ []) old.now → Executes censuses_text [] old new (Ok count)
      → HasTables schema_3 (0 ∷ 1 ∷ 3 ∷ []) new.now
  unfolding everything
  creates_censuses has_tables h =
      let it = creates schema_2 censuses_text censuses_table old new count makes_censuses has_tables.is h in
      record { is = it.0; none = (it.2.0 ∙ has_tables.none.0, (it.2.1.0 ∙ has_tables.none.1.0, (it.1, tt))) }

  pub creates_census_rows : HasTables schema_3 (0 ∷ 1 ∷ 3 ∷ []) old.now
      → Executes census_rows_text [] old new (Ok count) → HasTables first_schema (0 ∷ 1 ∷ 3 ∷ 5 ∷ []) new.now
  unfolding everything
  creates_census_rows has_tables h =
      let it = creates schema_3 census_rows_text census_rows_table old new count makes_census_rows has_tables.is h in
      record {
        is = it.0;
        none = (
          it.2.0 ∙ has_tables.none.0,
          (it.2.1.0 ∙ has_tables.none.1.0, (it.2.1.1.0 ∙ has_tables.none.1.1.0, (it.1, tt))),
        );
      }

  pub creates_census_flags : HasTables first_schema (0 ∷ 1 ∷ 3 ∷ 5 ∷ []) old.now
      → Executes census_flags_text [] old new (Ok count) → HasTables archive_schema (0 ∷ 1 ∷ 3 ∷ 5 ∷ 7 ∷ []) new.now
  unfolding everything
  creates_census_flags has_tables h =
      let it = creates first_schema census_flags_text census_flags_table old new count makes_census_flags
      has_tables.is h in
      record {
        is = it.0;
        none = (
          it.2.0 ∙ has_tables.none.0,
          (
            it.2.1.0 ∙ has_tables.none.1.0,
            (it.2.1.1.0 ∙ has_tables.none.1.1.0, (it.2.1.1.1.0 ∙ has_tables.none.1.1.1.0, (it.1, tt))),
          ),
        );
      }

abbrev version_terms : List Term
version_terms = lit Null ∷ lit (Int (pos 2)) ∷ []

version_is : (command_of (understood archive_schema add_version_text) ≡ Insert 0 (Values version_terms 2))
    × IsPlain (understood archive_schema add_version_text)
unfolding understood everything
version_is = (refl, (refl, refl))

pub creates_version : (old new : State) (count : ℕ) → HasTables archive_schema (0 ∷ 1 ∷ 3 ∷ 5 ∷ 7 ∷ []) old.now
    → Executes add_version_text [] old new (Ok count) → IsNewArchive new.now
creates_version old new count has_tables h =
    let w = runs_as add_version_text [] old new archive_schema has_tables.is
    (Insert 0 (Values version_terms 2)) version_is.0 version_is.1 count h in
    let text = statement_of add_version_text (understood archive_schema add_version_text) in
    let was = record old.now { schema = archive_schema } in
    let it = inserted old.step_limit (mode_of old) [] was text 0 version_terms 2 layout_table w.tally new.now refl refl
    (subst (λ s. Does old.step_limit (mode_of old) [] (record old.now { schema = s }) text None
    (Insert 0 (Values version_terms 2)) (Ok (w.tally, new.now))) has_tables.is w.changed) in
    let row : edited old.now.trees (edit_of old.now.trees layout_table [] Chosen 0
    (value_rows (stamped layout_table []) 2 1 version_terms)) ≡ (Int (pos 1) ∷ Int (pos 2) ∷ []) ∷ [] =
    rw (has_tables.none.0, cast_null, cast_int 2) refl in
    record {
      has_tables = record {
        is = it.schema;
        none = (
          it.step.tables.1.0 (λ e. cc) ∙ has_tables.none.1.0,
          (
            it.step.tables.1.1.0 (λ e. cc) ∙ has_tables.none.1.1.0,
            (
              it.step.tables.1.1.1.0 (λ e. cc) ∙ has_tables.none.1.1.1.0,
              (it.step.tables.1.1.1.1.0 (λ e. cc) ∙ has_tables.none.1.1.1.1.0, tt),
            ),
          ),
        );
      };
      version = it.step.rows ∙ row;
    }

pub creates_soundly : (old new : State) (count : ℕ) → HasTables archive_schema (0 ∷ 1 ∷ 3 ∷ 5 ∷ 7 ∷ []) old.now
    → Executes add_version_text [] old new (Ok count) → IsDatabase new.now
creates_soundly old new count has_tables h =
    (runs_as add_version_text [] old new archive_schema has_tables.is
    (Insert 0 (Values version_terms 2)) version_is.0 version_is.1 count h).sound

-- what a statement did inside a transaction, which stays open
pub inside : (old new : State) (text : List ℕ) (r : Result ℕ Error) (P : Type 0)
    → ((count : ℕ) → Executes text [] old new (Ok count) → P) → ExecutesInside 0 text [] old new r
    → OnOk r (IsTrue new.in_transaction × P)
inside old new text (Ok count) P made h = (h.1.mode, made count h.0)
inside old new text (Err e) P made h = tt
