-- Tables whose rows were found sound represent an archive.
use Rattle.std.proofs.Common.{◌≡◌, ◌<◌, ◌≤◌, ◌∙◌, ℕ, suc, ◌^◌, List, [], ◌∷◌, length, map, Bool, true, false, Option}
use Rattle.std.proofs.Common.{None, Some, Result, Ok, Err, refl, sym, ap₂, subst, arith}
use Rattle.std.specs.Prelude.{IsSome, IfOk, OnOk}
use Rattle.std.specs.List.{AllByRecursion, Contains, filter_map}
use Rattle.sqlite_trees.specs.Tree.{Trees}
use Rattle.life_core.specs.Generations.{generation_of}
use Rattle.life_code.specs.Codes.{code_of}
use Rattle.life_census.specs.Cluster.{clusters_of}
use Rattle.life_census.specs.Counting.{occurrences_of}
use Rattle.life_census.proofs.CountingRows.{rows_are_counts}
use Rattle.life_census.proofs.CountingTotals.{adds_up}
use Rattle.life_store.specs.declared.kept.Deposit.{Deposit}
use Rattle.life_store.specs.declared.kept.Census.{Census}
use Rattle.life_store.specs.Kept.{Kept, Tallied, numbered}
use Rattle.life_store.specs.Stored.{IsFiled, deposit_cells}
use Rattle.life_store.specs.Tables.{Tables, ArchiveView, HasOrder, Holds}
use Rattle.life_desk.specs.Archive.{Archive, AddsUp, tally_for}
use Rattle.life_desk.specs.Represents.{tallied, Represents, EachHasDeposit}
use Rattle.life_check.specs.ReadState.{AreNames, IsValidCensus, IsNamed, IsFirstWrong}
use Rattle.life_check.specs.CountState.{AreSome, IsTallied, IsCounted, AreCounted, IsFirstWrongCensus}
use Rattle.sqlite_schema.specs.declared.schema.Constraint.TheVariants.{Unique}
use Rattle.sqlite_schema.specs.Rules.{Keeps}
use Rattle.life_store.specs.Layout.{archive_schema}
use Rattle.life_store.specs.TreesOf.{AreTreesOf}
use Rattle.life_check.specs.declared.archive_check.CheckVerdict.{CheckVerdict}
use Rattle.life_check.specs.declared.archive_check.CheckVerdict.TheVariants.{Sound, SoundButForCounts, NotSound}
use Rattle.life_check.specs.Sound.{AreSound, FindsSound, FindsWrong, IsAskedFor, HasUniqueTokens}
use Rattle.life_check.specs.Sound.{HoldsInAnyOrder, RepresentsButForCounts, RepresentsSome, RepresentsNone}
use Rattle.life_check.specs.Sound.{IsFirstError, AreNoArchive}
use Rattle.life_check.specs.declared.archive_check.Wrong.{Wrong}
use Rattle.life_check.specs.declared.archive_check.Wrong.TheVariants as wrong
use Rattle.life_check.proofs.WalkLemmas.{all_more}
use Rattle.life_check.proofs.TokenLemmas.{unique_deposits, unique_censuses}

-- what is counted anew is what was counted
same_tallied : (ds : List Deposit) (ts : List Tallied) → AllByRecursion (IsCounted false ds) ts
    → map (tallied ds) (map (λ (t : Tallied). t.census) ts) ≡ ts
same_tallied ds [] all = refl
same_tallied ds (t ∷ ts) all = ap₂ (λ x xs. x ∷ xs) (sym (all.0.is refl)) (same_tallied ds ts all.1)

each_there : (quick : Bool) (ds : List Deposit) (ts : List Tallied) → AllByRecursion (IsCounted quick ds) ts
    → EachHasDeposit ds (map (λ (t : Tallied). t.census) ts)
each_there quick ds [] all = tt
each_there quick ds (t ∷ ts) all = (subst IsSome (sym all.0.there) refl, each_there quick ds ts all.1)

all_askable : (quick : Bool) (ds : List Deposit) (ts : List Tallied) → AllByRecursion (IsCounted quick ds) ts
    → AllByRecursion IsValidCensus (map (λ (t : Tallied). t.census) ts)
all_askable quick ds [] all = tt
all_askable quick ds (t ∷ ts) all = (all.0.askable, all_askable quick ds ts all.1)

many_mapped : {A B : Type 0} (f : A → B) (xs : List A) → length (map f xs) ≡ length xs
many_mapped f [] = refl
many_mapped f (x ∷ xs) = omega (arith, many_mapped f xs)

-- the rows of each tally are in order
in_order : (t : Tables) (k : Kept) → HoldsInAnyOrder t k → AllByRecursion (λ (c : Tallied). HasOrder c.tally) k.censuses
    → Holds t k
in_order t k it ordered = record {
  schema = it.schema;
  committed = it.committed;
  layout = it.layout;
  deposits = it.deposits;
  censuses = it.censuses;
  census_rows = it.census_rows;
  census_flags = it.census_flags;
  filed = it.filed;
  ordered = ordered;
  few_deposits = it.few_deposits;
  few_censuses = it.few_censuses;
}

-- the archive of what was read, which requests can ask for
module _ {S : Type 0} (a : ArchiveView S) (trees : Trees) (quick : Bool) (d c : ℕ) (schema : a.tables.schema
    ≡ archive_schema) (has : AreTreesOf a.tables trees) (sound : AreSound quick trees d c) where
  filed : AllByRecursion IsFiled sound.filed.0
  filed = all_more IsNamed IsFiled (λ x named. named.filed) sound.filed.0 sound.filed.2

  abbrev read : AreCounted quick trees sound.filed.0 c
  read = sound.counted sound.filed.0 (sound.filed.1, filed)

  rows_read : HoldsInAnyOrder a.tables (record { deposits = sound.filed.0; censuses = read.censuses })
  rows_read = record {
    schema = schema;
    committed = has.committed;
    layout = has.layout ∙ sound.version;
    deposits = has.deposits ∙ sound.filed.1;
    censuses = has.censuses ∙ read.rows;
    census_rows = has.census_rows ∙ read.counts;
    census_flags = has.census_flags ∙ read.flags;
    filed = filed;
    few_deposits = subst (λ n. n < 2 ^ 63) (sym sound.filed.3) sound.few_deposits;
    few_censuses = subst (λ n. n < 2 ^ 63) (sym read.many) sound.few_censuses;
  }

  holds_read : AllByRecursion (λ (t : Tallied). HasOrder t.tally) read.censuses
      → Holds a.tables (record { deposits = sound.filed.0; censuses = read.censuses })
  holds_read = in_order a.tables (record { deposits = sound.filed.0; censuses = read.censuses }) rows_read

  abbrev archive : Archive
  archive = record {
    deposits = sound.filed.0;
    censuses = map (λ (t : Tallied). t.census) read.censuses;
    capacity = a.capacity;
  }

  asked_for : IsAskedFor archive
  asked_for = record {
    deposits =
        all_more IsNamed (λ (x : Deposit). AreNames x.member x.token)
        (λ x named. named.named) sound.filed.0 sound.filed.2;
    censuses = all_askable quick sound.filed.0 read.censuses read.good;
  }

  unique_tokens : HasUniqueTokens archive
  unique_tokens =
      let unique = subst (λ s. Keeps Unique s trees) schema (has.obeys.obeys.rules Unique) in
      record {
        deposits = unique_deposits trees unique sound.filed.0 sound.filed.1;
        censuses = unique_censuses trees unique read.censuses read.rows;
      }

  many_censuses : length archive.censuses ≡ c
  many_censuses = many_mapped (λ (t : Tallied). t.census) read.censuses ∙ read.many

pub represented : {S : Type 0} (a : ArchiveView S) (trees : Trees) (d c : ℕ) → a.tables.schema ≡ archive_schema
    → AreTreesOf a.tables trees → AreSound false trees d c
    → (A : Archive) × Represents a A × (length A.deposits ≡ d) × (length A.censuses ≡ c) × IsAskedFor A
    × HasUniqueTokens A
unfolding Represents
represented a trees d c schema has sound =
    let ds = sound.filed.0 in
    let it = read a trees false d c schema has sound in
    let ordered = all_more (IsCounted false ds) (λ (t : Tallied). HasOrder t.tally)
    (λ t counted. counted.ordered refl) it.censuses it.good in (
      archive a trees false d c schema has sound,
      record {
        capacity = refl;
        each = each_there false ds it.censuses it.good;
        holds =
            subst (λ (all : List Tallied). Holds a.tables (record { deposits = ds; censuses = all }))
            (sym (same_tallied ds it.censuses it.good)) (holds_read a trees false d c schema has sound ordered);
      },
      sound.filed.3,
      many_censuses a trees false d c schema has sound,
      asked_for a trees false d c schema has sound,
      unique_tokens a trees false d c schema has sound,
    )

pub represented_uncounted : {S : Type 0} (a : ArchiveView S) (trees : Trees) (d c : ℕ)
    → a.tables.schema ≡ archive_schema → AreTreesOf a.tables trees → AreSound true trees d c
    → (A : Archive) × RepresentsButForCounts a A × (length A.deposits ≡ d) × (length A.censuses ≡ c)
    × IsAskedFor A × HasUniqueTokens A
represented_uncounted a trees d c schema has sound =
    let ds = sound.filed.0 in
    let it = read a trees true d c schema has sound in (
      archive a trees true d c schema has sound,
      record {
        capacity = refl;
        each = each_there true ds it.censuses it.good;
        counts = it.censuses;
        are = refl;
        add_up =
            all_more (IsCounted true ds) (λ (t : Tallied). AddsUp t.tally)
            (λ t counted. counted.adds_up) it.censuses it.good;
        holds = rows_read a trees true d c schema has sound;
      },
      sound.filed.3,
      many_censuses a trees true d c schema has sound,
      asked_for a trees true d c schema has sound,
      unique_tokens a trees true d c schema has sound,
    )

-- the deposits of an archive, with what a table keeps of them
all_named : (ds : List Deposit) → AllByRecursion IsFiled ds
    → AllByRecursion (λ (d : Deposit). AreNames d.member d.token) ds → AllByRecursion IsNamed ds
all_named [] kept names = tt
all_named (d ∷ ds) kept names = (record { filed = kept.0; named = names.0 }, all_named ds kept.1 names.1)

-- ---- the censuses of an archive

all_some : (xs : List (List ℕ × ℕ)) → ((code : List ℕ) (n : ℕ) → Contains xs (code, n) → 1 ≤ n) → AreSome xs
all_some [] some = tt
all_some (x ∷ xs) some =
    (some x.0 x.1 (0, omega arith, refl), all_some xs (λ code n it. some code n (suc it.0, omega (arith, it.1), it.2)))

tally_adds_up : (c : Census) (o : Option Deposit) → AddsUp (tally_for c o)
tally_adds_up c None = refl
tally_adds_up c (Some d) =
    adds_up (λ P. code_of d.content.rule P c.limit)
    (clusters_of (generation_of d.content.rule d.content.cells c.generation)) (tally_for c (Some d))
    (record { rows = refl; unresolved = refl; total = refl })

tally_is_some : (c : Census) (o : Option Deposit) → AreSome (tally_for c o).rows
tally_is_some c None = tt
tally_is_some c (Some d) =
    let codes = filter_map (λ P. code_of d.content.rule P c.limit)
    (clusters_of (generation_of d.content.rule d.content.cells c.generation)) in
    all_some (occurrences_of codes) (λ code n it. ((rows_are_counts codes code n).0 it).1)

all_tallied : (ds : List Deposit) (cs : List Census) → EachHasDeposit ds cs → AllByRecursion IsValidCensus cs
    → AllByRecursion (IsTallied ds) (map (tallied ds) cs)
all_tallied ds [] each askable = tt
all_tallied ds (c ∷ cs) each askable = (
  record {
    askable = askable.0;
    there = each.0;
    is = refl;
    adds_up = tally_adds_up c (numbered ds c.deposit);
    some = tally_is_some c (numbered ds c.deposit);
  },
  all_tallied ds cs each.1 askable.1,
)

-- what is wrong with the trees is wrong with every archive
none_is : {S : Type 0} (quick : Bool) (a : ArchiveView S) (trees : Trees) (w : Wrong) → AreTreesOf a.tables trees
    → FindsWrong quick trees w → AreNoArchive a w
unfolding Represents
none_is quick a trees wrong.Tables has bad = absurd bad
none_is quick a trees wrong.Layout has bad = λ A m. bad (sym has.layout ∙ m.holds.layout)
none_is quick a trees (wrong.Deposit id) has bad = λ A m.
    bad.0 A.deposits (sym has.deposits ∙ m.holds.deposits) m.holds.filed
none_is quick a trees (wrong.DepositNames id) has bad =
    λ A asked m. bad.0 A.deposits (sym has.deposits ∙ m.holds.deposits)
    (all_named A.deposits m.holds.filed asked.deposits)
none_is quick a trees (wrong.Census id) has bad = λ A asked m.
    bad.0 A.deposits (sym has.deposits ∙ m.holds.deposits, m.holds.filed) (record {
      censuses = map (tallied A.deposits) A.censuses;
      good = all_tallied A.deposits A.censuses m.each asked.censuses;
      rows = sym has.censuses ∙ m.holds.censuses;
      counts = sym has.census_rows ∙ m.holds.census_rows;
      flags = sym has.census_flags ∙ m.holds.census_flags;
    })

-- the first error of the trees is that of the tables
first_is : (quick : Bool) (t : Tables) (trees : Trees) (w : Wrong) → t.schema ≡ archive_schema → AreTreesOf t trees
    → FindsWrong quick trees w → IsFirstError quick t w
first_is quick t trees wrong.Tables schema has bad = absurd bad
first_is quick t trees wrong.Layout schema has bad = (schema, λ layout. bad (sym has.layout ∙ layout))
first_is quick t trees (wrong.Deposit id) schema has bad = (
  record { schema = schema; layout = has.layout ∙ bad.1 },
  subst (λ rows. IsFirstWrong deposit_cells IsNamed IsFiled rows id) (sym has.deposits) bad.2,
)
first_is quick t trees (wrong.DepositNames id) schema has bad = (
  record { schema = schema; layout = has.layout ∙ bad.1 },
  subst (λ rows. IsFirstWrong deposit_cells IsNamed IsNamed rows id) (sym has.deposits) bad.2,
)
first_is quick t trees (wrong.Census id) schema has bad = (
  record { schema = schema; layout = has.layout ∙ bad.1 },
  bad.2,
  has.deposits ∙ bad.3,
  bad.4,
  subst (λ rows. IsFirstWrongCensus quick rows t.census_rows t.census_flags bad.2 id) (sym has.censuses)
      (subst (λ rows. IsFirstWrongCensus quick (trees 3) rows t.census_flags bad.2 id) (sym has.census_rows)
      (subst (λ rows. IsFirstWrongCensus quick (trees 3) (trees 5) rows bad.2 id) (sym has.census_flags) bad.5)),
)

-- other tables are not those of an archive
pub other_tables : {S : Type 0} (quick : Bool) (a : ArchiveView S) → (a.tables.schema ≡ archive_schema → ⊥)
    → RepresentsNone quick a wrong.Tables
unfolding Represents
other_tables quick a other = (λ A m. other m.holds.schema, other)

-- what was found of the trees, said of the archive
pub sound_is : {S : Type 0} (quick : Bool) (a : ArchiveView S) (trees : Trees) (v : CheckVerdict)
    → a.tables.schema ≡ archive_schema → AreTreesOf a.tables trees → FindsSound quick trees v → RepresentsSome quick a v
sound_is quick a trees (Sound d c) schema has it =
    let found = represented a trees d c schema has (subst (λ q. AreSound q trees d c) it.1 it.0) in
    (found.0, found.1, found.2, found.3, found.4, found.5, it.1)
sound_is quick a trees (SoundButForCounts d c) schema has it =
    let found = represented_uncounted a trees d c schema has (subst (λ q. AreSound q trees d c) it.1 it.0) in
    (found.0, found.1, found.2, found.3, found.4, found.5, it.1)
sound_is quick a trees (NotSound w) schema has it =
    (none_is quick a trees w has it, first_is quick a.tables trees w schema has it)

pub ok_sound : {S E : Type 0} (quick : Bool) (a : ArchiveView S) (trees : Trees) (r : Result CheckVerdict E)
    → a.tables.schema ≡ archive_schema → OnOk r (AreTreesOf a.tables trees) → IfOk r (FindsSound quick trees)
    → IfOk r (RepresentsSome quick a)
ok_sound quick a trees (Ok v) schema has it = sound_is quick a trees v schema has it
ok_sound quick a trees (Err e) schema has it = tt

pub on_ok_then : {A E P Q : Type 0} (r : Result A E) → OnOk r P → (P → Q) → OnOk r Q
on_ok_then (Ok x) here says = says here
on_ok_then (Err e) here says = tt
