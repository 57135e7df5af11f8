-- What an archive finds as it is opened.
use Rattle.std.proofs.Common.{◌≡◌, inl, inr, ℕ, pos, List, [], ◌∷◌, length, Bool, true, false, Result, Ok, Err, refl}
use Rattle.std.proofs.Common.{sym, ap, subst, ◌∙◌, arith}
use Rattle.std.specs.Prelude.{◌↔◌, IfOk}
use Rattle.std.specs.List.Sorted.{IsPermutation}
use Rattle.std.proofs.lemmas.List.Sorted.{IsPermutation-refl}
use Rattle.sqlite_value.specs.declared.value.Value.{Value}
use Rattle.sqlite_value.specs.declared.value.Value.TheVariants.{Null, Int}
use Rattle.sqlite_value.specs.declared.keys.Collation.TheVariants.{Binary}
use Rattle.sqlite_value.specs.Keys.{ascending}
use Rattle.sqlite_value.specs.Order.{Row, column}
use Rattle.sqlite_sql.specs.Query.{IsAnswer}
use Rattle.sqlite_sql.specs.Program.{overlay}
use Rattle.sqlite_schema.specs.declared.command.Command.TheVariants.{Select}
use Rattle.sqlite_schema.specs.declared.schema.Schema.{Schema}
use Rattle.sqlite_schema.specs.Names.{same_name}
use Rattle.sqlite.specs.Effect.{Reads}
use Rattle.sqlite.specs.State.{State, Shown}
use Rattle.sqlite.specs.Listing.{understood}
use Rattle.sqlite.proofs.Callers.{IsPlain, reads_as}
use Rattle.sqlite_tied.specs.Compute.{everything}
use Rattle.life_store.specs.Kept.{Kept}
use Rattle.life_store.specs.CreatingState.{IsNewArchive}
use Rattle.life_store.specs.Layout.{first_schema, archive_schema, no_schema}
use Rattle.life_store.specs.Opening.{nothing_kept, versions_in, IsLayout}
use Rattle.life_store.specs.OpeningState.{HaveVersions, has_table, has_some, column_of, version_shown, version_with}
use Rattle.life_store.specs.OpeningState.{rows_of_version, schema_of}
use Rattle.life_store.specs.declared.opening.Version.{Version}
use Rattle.life_store.specs.Migration.{HoldsFirst}
use Rattle.life_store.proofs.Selecting.{picked}
use Rattle.life_store.proofs.StatementTexts as st
use Rattle.life_store.specs.Tables.{Tables, tables_of, Holds}
use Rattle.life_store.proofs.Texts.{IsQueryOver, version_is, first_version_is}
use Rattle.life_store.proofs.QueryLemmas.{ordered_answer, one_answer}

one_version : (rows : List Row) (v : Value) → versions_in rows ≡ v ∷ []
    → (row : Row) × (rows ≡ row ∷ []) × (column row 1 ≡ v)
one_version [] v e = absurd cc
one_version (r ∷ []) v e = (r, refl, cc)
one_version (r ∷ s ∷ rows) v e = absurd cc

finds_version : (old new : State) (schema : Schema) (n : ℕ) (versions : List Value) (rows : List Row)
    → IsQueryOver schema st.version_text st.version_query st.version_names
    → HaveVersions schema (tables_of old) versions → Shown st.version_text [] old new rows
    → (rows ≡ version_shown n) ↔ (versions ≡ Int (pos n) ∷ [])
finds_version old new schema n versions rows text have h =
    let trees = overlay old.now.trees [] in
    let read : Reads (Select (record { lets = []; body = st.version_query }) st.version_names) old.now [] rows =
    reads_as st.version_text [] old new schema have.schema _ text.command text.plain text.unlisted rows h in
    let answer : IsAnswer st.version_query trees [] rows = read.answer Null in (
      λ is.
          let it = one_answer trees 0 st.version_column st.col_version (ascending Binary) []
          (Int (pos n) ∷ []) rows is answer in
          let value : column it.0 1 ≡ Int (pos n) = cc in
          sym have.are ∙ ap versions_in it.1 ∙ ap (λ v. v ∷ []) value,
      λ is.
          let it = one_version (old.now.trees 0) (Int (pos n)) (have.are ∙ is) in
          let row = it.0 in
          let all = subst (λ table. IsPermutation (picked [] [] table) (row ∷ [])) (sym it.1)
          (IsPermutation-refl (row ∷ [])) in
          ordered_answer trees 0 [] st.version_column st.col_version (ascending Binary) (st.rows_up_to 2) [] rows
          (row ∷ []) all (tt, tt) answer ∙ ap (λ v. (v ∷ []) ∷ []) it.2,
    )

version_text_is : (schema : Schema) (own : List Value) → IsLayout schema own
    → IsQueryOver schema st.version_text st.version_query st.version_names
version_text_is schema own (inl second) =
    subst (λ s. IsQueryOver s st.version_text st.version_query st.version_names) (sym second.0) version_is
version_text_is schema own (inr first) =
    subst (λ s. IsQueryOver s st.version_text st.version_query st.version_names) (sym first.0) first_version_is

pub version_plain : (schema : Schema) (own : List Value) → IsLayout schema own
    → IsPlain (understood schema st.version_text)
version_plain schema own known = (version_text_is schema own known).plain

pub finds_own : (old new : State) (schema : Schema) (own versions : List Value) (rows : List Row)
    → IsLayout schema own → HaveVersions schema (tables_of old) versions → Shown st.version_text [] old new rows
    → (rows ≡ column_of own) ↔ (versions ≡ own)
finds_own old new schema own versions rows (inl second) have h =
    subst (λ o. (rows ≡ column_of o) ↔ (versions ≡ o)) (sym second.1)
    (finds_version old new schema 2 versions rows (version_text_is schema own (inl second)) have h)
finds_own old new schema own versions rows (inr first) have h =
    subst (λ o. (rows ≡ column_of o) ↔ (versions ≡ o)) (sym first.1)
    (finds_version old new schema 1 versions rows (version_text_is schema own (inr first)) have h)

abbrev pub second_own : List Value
second_own = Int (pos 2) ∷ []

abbrev pub first_own : List Value
first_own = Int (pos 1) ∷ []

pub have_second : (t : Tables) (k : Kept) → Holds t k → HaveVersions archive_schema t second_own
have_second t k holds = record { schema = holds.schema; are = ap versions_in holds.layout }

pub have_first : (t : Tables) (k : Kept) → HoldsFirst t k → HaveVersions first_schema t first_own
have_first t k holds = record { schema = holds.schema; are = ap versions_in holds.layout }

pub ours_stands : has_some archive_schema ≡ true
unfolding same_name everything
ours_stands = refl

pub ours_has_layout : has_table archive_schema.tables st.layout_name ≡ true
unfolding same_name everything
ours_has_layout = refl

pub none_stands : has_some no_schema ≡ false
unfolding same_name everything
none_stands = refl

pub new_holds : (s : State) → s.in_transaction ≡ false → IsNewArchive s.now → Holds (tables_of s) nothing_kept
new_holds s none new = record {
  schema = new.has_tables.is;
  committed = none;
  layout = new.version;
  deposits = new.has_tables.none.0;
  censuses = new.has_tables.none.1.0;
  census_rows = new.has_tables.none.1.1.0;
  census_flags = new.has_tables.none.1.1.1.0;
  filed = tt;
  ordered = tt;
  few_deposits = omega arith;
  few_censuses = omega arith;
}

first_stands : has_some first_schema ≡ true
unfolding same_name everything
first_stands = refl

first_has_layout : has_table first_schema.tables st.layout_name ≡ true
unfolding same_name everything
first_has_layout = refl

flags_stand : has_table archive_schema.tables st.flags_name ≡ true
unfolding same_name everything
flags_stand = refl

flags_missing : has_table first_schema.tables st.flags_name ≡ false
unfolding same_name everything
flags_missing = refl

-- the two layouts have tables of their own
pub apart : first_schema ≡ archive_schema → ⊥
apart is = absurd (let e : 4 ≡ 5 = ap (λ (s : Schema). length s.tables) is in omega (arith, e))

some_stands : (schema : Schema) (own : List Value) → IsLayout schema own → has_some schema ≡ true
some_stands schema own (inl second) = ap has_some second.0 ∙ ours_stands
some_stands schema own (inr first) = ap has_some first.0 ∙ first_stands

layout_stands : (schema : Schema) (own : List Value) → IsLayout schema own
    → has_table schema.tables st.layout_name ≡ true
layout_stands schema own (inl second) =
    ap (λ (s : Schema). has_table s.tables st.layout_name) second.0 ∙ ours_has_layout
layout_stands schema own (inr first) = ap (λ (s : Schema). has_table s.tables st.layout_name) first.0 ∙ first_has_layout

-- the tables of a known layout stand
pub stands_not : (s schema : Schema) (own : List Value) → IsLayout schema own → s ≡ schema → has_some s ≡ false → ⊥
stands_not s schema own known is none =
    absurd (let e : true ≡ false = sym (some_stands schema own known) ∙ ap has_some (sym is) ∙ none in cc)

-- and none stands if there is no table
pub none_not : (s : Schema) → s ≡ no_schema → has_some s ≡ true → ⊥
none_not s is some = absurd (let e : true ≡ false = sym some ∙ ap has_some is ∙ none_stands in cc)

pub layout_not : (s schema : Schema) (own : List Value) → IsLayout schema own → s ≡ schema
    → has_table s.tables st.layout_name ≡ false → ⊥
layout_not s schema own known is none =
    absurd (let e : true ≡ false = sym (layout_stands schema own known)
    ∙ ap (λ (x : Schema). has_table x.tables st.layout_name) (sym is) ∙ none in cc)

-- whether there is a table of flags tells the layout
pub told_by_flags : (schema : Schema) (own : List Value) (flags : Bool)
    → IsLayout schema own → flags ≡ has_table schema.tables st.flags_name
    → (schema ≡ schema_of (version_with flags)) × (column_of own ≡ rows_of_version (version_with flags))
told_by_flags schema own true (inl second) is = (second.0, ap column_of second.1)
told_by_flags schema own false (inl second) is =
    absurd (let e : false ≡ true = is ∙ ap (λ (s : Schema). has_table s.tables st.flags_name) second.0
    ∙ flags_stand in cc)
told_by_flags schema own true (inr first) is =
    absurd (let e : true ≡ false = is ∙ ap (λ (s : Schema). has_table s.tables st.flags_name) first.0
    ∙ flags_missing in cc)
told_by_flags schema own false (inr first) is = (first.0, ap column_of first.1)

-- the version that was found
pub found_version : {E : Type 0} (r : Result Version E) (schema : Schema) (own versions : List Value)
    (flags : Bool) (rows : List Row) → IsLayout schema own → flags ≡ has_table schema.tables st.flags_name
    → (rows ≡ column_of own) ↔ (versions ≡ own) → IfOk r (λ v. (v ≡ version_with flags) × (rows ≡ rows_of_version v))
    → IfOk r (λ v. (versions ≡ own) × (schema ≡ schema_of v))
found_version (Ok v) schema own versions flags rows known is same found =
    let told = told_by_flags schema own flags known is in
    (same.0 (found.1 ∙ ap rows_of_version found.0 ∙ sym told.1), told.0 ∙ ap schema_of (sym found.0))
found_version (Err e) schema own versions flags rows known is same found = tt
