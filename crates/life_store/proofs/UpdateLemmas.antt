-- The UPDATE that names the layout is one step.
use Rattle.std.proofs.Common.{◌≡◌, ℕ, pos, List, [], ◌∷◌, map, Option, None, Some, Ok, slice_get, refl, sym, ap, subst}
use Rattle.std.proofs.Common.{◌∙◌}
use Rattle.std.specs.List.Sorted.{IsPermutation}
use Rattle.std.specs.declared.cmp.Ordering.TheVariants.{Equal}
use Rattle.sqlite_value.specs.declared.value.Value.TheVariants.{Null, Int}
use Rattle.sqlite_value.specs.Order.{Row, value_cmp}
use Rattle.sqlite_value.proofs.OrderLemmas.{value_cmp-Int}
use Rattle.sqlite_trees.specs.Tree.{Trees}
use Rattle.sqlite_sql.specs.Term.{Term}
use Rattle.sqlite_sql.specs.Query.{inner, end, IsAnswer, Output, output, page}
use Rattle.sqlite_sql.specs.Program.{overlay}
use Rattle.sqlite_schema.specs.declared.program.Program.{Program}
use Rattle.sqlite_schema.specs.declared.schema.Table.{Table}
use Rattle.sqlite_schema.specs.declared.schema.Keys.TheVariants.{Enforced}
use Rattle.sqlite_schema.specs.declared.command.Command.TheVariants.{Update}
use Rattle.sqlite_rules.specs.Action.{works, Writes}
use Rattle.sqlite_rules.specs.Calls.{ids_of}
use Rattle.sqlite_rules.specs.Edit.{Edit, edit_of, edited, taken_by, Applies}
use Rattle.sqlite_rules.specs.declared.error.Rowids.TheVariants.{Given}
use Rattle.sqlite.specs.declared.run.Mode.{Mode}
use Rattle.sqlite.specs.Does.{Tally, Does}
use Rattle.sqlite.specs.Rows.{Written}
use Rattle.sqlite.specs.Effect.{Database, IsDatabase, Answers}
use Rattle.sqlite.specs.Listing.{understood}
use Rattle.sqlite.specs.State.{State, mode_of, Executes}
use Rattle.sqlite.proofs.Callers.{one_step, one_permutation, statement_of, runs_as}
use Rattle.life_store.specs.Migration.{version_1}
use Rattle.life_store.specs.CensusesState.{Parts, HoldsParts}
use Rattle.life_store.specs.Layout.{archive_schema, layout_table}
use Rattle.life_store.proofs.Selecting.{picked, shows}
use Rattle.life_store.proofs.StatementTexts as st
use Rattle.life_store.specs.Tables.{version_2}
use Rattle.life_store.proofs.AddLemmas.{cast_int}
use Rattle.life_store.proofs.InsertLemmas.{went, same_value}
use Rattle.life_store.proofs.QueryLemmas.{matches_are}
use Rattle.life_store.proofs.Texts.{rename_is}

-- the rows that represent those with the ids that the query shows first
abbrev edit_by : Trees → Table → List Row → Edit
edit_by db table rows = edit_of db table (ids_of rows) Given 1 rows

pub record IsUpdated (table : Table) (rows : List Row) (old new : Database) : Type 0 where
  pub schema : new.schema ≡ old.schema
  pub step : Applies old.schema Enforced old.trees (edit_by old.trees table rows) new.trees

pub updated : (limit : Option ℕ) (mode : Mode) (params : Row) (old : Database) (text : List ℕ)
    (at : ℕ) (q : Program) (table : Table) (tally : Tally) (new : Database) (rows : List Row)
    → mode.keys ≡ Enforced → slice_get old.schema.tables at ≡ Some table
    → ((found : List Row) → Answers old q params found → found ≡ rows)
    → works old.schema Enforced 0 table.tree (taken_by old.trees (edit_by old.trees table rows))
    (edit_by old.trees table rows).news ≡ []
    → Does limit mode params old text None (Update at q) (Ok (tally, new))
    → IsUpdated table rows old new
updated limit mode params old text at q table tally new rows enforced listed determined none does =
    went (rw (listed, enforced) at does) (λ done.
    went done.2 (λ kept.
    went kept.2 (λ ended.
    went done.1 (λ asked.
    went asked.2 (λ written.
    let now = ap (λ (p : Tally × Database). p.1) (same_value ended.2) in
    let trees : done.0.trees ≡ written.0 = ap (λ (it : Written). it.trees) (same_value written.2) in
    let wrote : Writes old.schema Enforced old.trees (edit_by old.trees table rows) (Ok written.0) =
    subst (λ r. Writes old.schema Enforced old.trees (edit_by old.trees table r) (Ok written.0))
    (determined asked.0 asked.1) written.1 in
    let step = one_step old.schema Enforced old.trees written.0 (edit_by old.trees table rows) none wrote in
    record {
      schema = ap (λ (d : Database). d.schema) now;
      step =
          subst (Applies old.schema Enforced old.trees (edit_by old.trees table rows))
          (sym (ap (λ (d : Database). d.trees) now ∙ trees)) step;
    })))))

-- what a query in no order shows of a table with one row
one_shown : (db : Trees) (tree : ℕ) (project : List Term) (params row : Row) (rows : List Row) → db tree ≡ row ∷ []
    → IsAnswer (st.plain_query (inner tree end) [] project) db params rows → rows ≡ shows project params row ∷ []
one_shown db tree project params row rows is a =
    let q = st.plain_query (inner tree end) [] project in
    let one : Output = output q (params ∷ row ∷ []) in
    let kept : a.kept ≡ one ∷ [] =
    a.distinct ∙ ap (map (output q))
    (a.grouped ∙ matches_are [] params (db tree) ∙ ap (λ all. map (λ r. params ∷ r ∷ []) (picked [] params all)) is) in
    let ordered = one_permutation one a.ordered (subst (λ k. IsPermutation k a.ordered) kept a.same) in
    a.shown ∙ ap (λ xs. page q params (map (λ (o : Output). o.1) xs)) ordered

same_rowid : value_cmp (Int (pos 1)) (Int (pos 1)) ≡ Equal
same_rowid = value_cmp-Int (pos 1) (pos 1)

abbrev renamed : List Row
renamed = (Int (pos 1) ∷ Int (pos 1) ∷ Int (pos 2) ∷ []) ∷ []

abbrev rename : Program
rename = record { lets = []; body = st.rename_query }

pub renames : (old new : State) (count : ℕ) (p : Parts) → HoldsParts old.now p → p.layout ≡ version_1
    → Executes st.rename_text [] old new (Ok count) → HoldsParts new.now (record p { layout = version_2 })
renames old new count p stands first h =
    let layout : old.now.trees 0 ≡ version_1 = stands.layout ∙ first in
    let w = runs_as st.rename_text [] old new archive_schema stands.schema
    (Update 0 rename) rename_is.command rename_is.plain count h in
    let text = statement_of st.rename_text (understood archive_schema st.rename_text) in
    let was : Database = record old.now { schema = archive_schema } in
    let it = updated old.step_limit (mode_of old) [] was text 0 rename layout_table w.tally new.now renamed refl refl
    (λ found a. one_shown (overlay old.now.trees []) 0 st.renamed_columns []
    (Int (pos 1) ∷ Int (pos 1) ∷ []) found layout (a.answer Null)) refl
    (subst (λ s. Does old.step_limit (mode_of old) [] (record old.now { schema = s }) text None
    (Update 0 rename) (Ok (w.tally, new.now))) stands.schema w.changed) in
    let edit : edited old.now.trees (edit_by old.now.trees layout_table renamed) ≡ version_2 =
    rw (layout, same_rowid, cast_int 1, cast_int 2) refl in
    record {
      schema = it.schema;
      layout = it.step.rows ∙ edit;
      deposits = it.step.tables.1.0 (λ e. cc) ∙ stands.deposits;
      censuses = it.step.tables.1.1.0 (λ e. cc) ∙ stands.censuses;
      census_rows = it.step.tables.1.1.1.0 (λ e. cc) ∙ stands.census_rows;
      census_flags = it.step.tables.1.1.1.1.0 (λ e. cc) ∙ stands.census_flags;
    }

-- and leaves a database
pub renames_soundly : (old new : State) (count : ℕ) (p : Parts) → HoldsParts old.now p
    → Executes st.rename_text [] old new (Ok count) → IsDatabase new.now
renames_soundly old new count p stands h =
    (runs_as st.rename_text [] old new archive_schema stands.schema
    (Update 0 rename) rename_is.command rename_is.plain count h).sound
