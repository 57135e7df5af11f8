-- Reading the tables of an archive's censuses meets exactly their rows.
use Rattle.std.proofs.Common.{◌≡◌, ◌<◌, ◌≤◌, ◌∙◌, ℕ, zero, suc, ◌+◌, List, [], ◌∷◌, ◌++◌, length, map, take}
use Rattle.std.proofs.Common.{slice_index_or, sum_by, Bool, true, false, Some, IsSome, refl, sym, ap, ap₂, subst, arith}
use Rattle.std.specs.List.{AllByRecursion}
use Rattle.std.proofs.lemmas.List.Sums.{sum_by-cons}
use Rattle.sqlite_value.specs.Order.{Row}
use Rattle.sqlite_trees.specs.Tree.{Trees}
use Rattle.sqlite_trees.specs.View.{View, with_cursor, Advances}
use Rattle.life_census.specs.Rows.{TallyCounts}
use Rattle.life_store.specs.declared.kept.Deposit.{Deposit}
use Rattle.life_store.specs.declared.kept.Census.{Census}
use Rattle.life_store.specs.Kept.{Tallied, numbered}
use Rattle.life_store.specs.Stored.{rows_by, census_cells, count_cells, flag_cells, tagged, counts_from}
use Rattle.life_desk.specs.Archive.{tally_for, tally_at, steady_for, steady_at}
use Rattle.life_check.specs.ReadState.{count_row, census_row, census_row_of, flag_row, flag_row_of}
use Rattle.life_check.specs.CountState.{AreSome, IsTallied, AreTallied, Takes, TakesClusters, IsBefore, AwaitsCensus}
use Rattle.life_check.specs.CountState.{AwaitsRest, Follows, HasCounted, IsFirstWrongCensus}
use Rattle.life_check.proofs.WalkLemmas.{some_is}
use Rattle.life_check.proofs.CountLemmas.{append_assoc, rows_append, length_tagged}

abbrev Counted : Type 0
Counted = List ℕ × ℕ

abbrev sum_of : List Counted → ℕ
sum_of rows = sum_by (λ (row : Counted). row.1) rows

-- ---- what a cursor gives next

cancel : {A : Type 0} (xs ys zs : List A) → xs ++ ys ≡ xs ++ zs → ys ≡ zs
cancel [] ys zs e = e
cancel (x ∷ xs) ys zs e =
    let rest : xs ++ ys ≡ xs ++ zs = cc in
    cancel xs ys zs rest

no_row : (r : Row) (rows : List Row) → r ∷ rows ≡ [] → ⊥
no_row r rows e = cc

first_is : (r s : Row) (rows more : List Row) → r ∷ rows ≡ s ∷ more → r ≡ s
first_is r s rows more e = cc

-- the row that was read
pub row_is_next : (cursor : ℕ) (a b : View) (row r : Row) (rows : List Row) → IsBefore cursor (r ∷ rows) a
    → Advances a b cursor row true → row ≡ r
row_is_next cursor a b row r rows before goes =
    first_is row r goes.0 (rows ++ before.left) (some_is _ _ (sym goes.1 ∙ before.at))

-- there is one
pub row_is_there : (cursor : ℕ) (a b : View) (row r : Row) (rows : List Row) → IsBefore cursor (r ∷ rows) a
    → Advances a b cursor row false → ⊥
row_is_there cursor a b row r rows before goes = no_row r (rows ++ before.left) (some_is _ _ (sym before.at ∙ goes.0))

-- the row that was taken
pub row_taken : (cursor : ℕ) (a b : View) (row r : Row) (rows : List Row) → IsBefore cursor (r ∷ rows) a
    → Takes cursor (row ∷ []) a b → row ≡ r
row_taken cursor a b row r rows before takes =
    first_is row r takes.left (rows ++ before.left) (some_is _ _ (sym takes.was ∙ before.at))

still_before : (cursor : ℕ) (rows : List Row) (a b : View) → b.cursors cursor ≡ a.cursors cursor
    → IsBefore cursor rows a → IsBefore cursor rows b
still_before cursor rows a b same before = record { left = before.left; at = same ∙ before.at }

-- before the rest of the rows
before_rest : (cursor : ℕ) (xs ys : List Row) (a b : View) → Takes cursor xs a b → IsBefore cursor (xs ++ ys) a
    → IsBefore cursor ys b
before_rest cursor xs ys a b takes before =
    let whole : xs ++ takes.left ≡ xs ++ (ys ++ before.left) = some_is _ _ (sym takes.was ∙ before.at)
    ∙ append_assoc xs ys before.left in
    record { left = before.left; at = takes.at ∙ ap Some (cancel xs takes.left (ys ++ before.left) whole) }

-- ---- the rows of one tally

module _ {R : Type 0} (seen : R → Counted) (id : ℕ) where
  split : (xs : List R) (n from : ℕ) (row : R) → n < length xs → row ≡ slice_index_or xs n row
      → (more : List Row) × (rows_by count_cells from (tagged id (map seen xs))
      ≡ rows_by count_cells from (tagged id (map seen (take n xs))) ++ count_row (from + n) (id, seen row) ∷ more)
  split [] n from row low is = absurd (omega (arith, low))
  split (x ∷ xs) zero from row low is =
      let more = rows_by count_cells (from + 1) (tagged id (map seen xs)) in
      let number : from ≡ from + 0 = omega arith in
      (more, ap (λ r. count_row from (id, seen r) ∷ more) (sym is) ∙ ap (λ k. count_row k (id, seen row) ∷ more) number)
  split (x ∷ xs) (suc n) from row low is =
      let rest = split xs n (from + 1) row (omega (arith, low)) is in
      let number : from + 1 + n ≡ from + suc n = omega arith in (
        rest.0,
        ap (λ all. count_row from (id, seen x) ∷ all) (rest.1 ∙ ap (λ k. rows_by count_cells
            (from + 1) (tagged id (map seen (take n xs))) ++ count_row k (id, seen row) ∷ rest.0) number),
      )

  -- the next row is that of this place
  pub row_awaits : (from : ℕ) (a b : View) (rows : List R) (at : ℕ) (counted : R)
      → at < length rows → counted ≡ slice_index_or rows at counted
      → Takes 1 (rows_by count_cells (from + 1) (tagged id (map seen (take at rows)))) a b
      → IsBefore 1 (rows_by count_cells (from + 1) (tagged id (map seen rows))) a
      → (more : List Row) × IsBefore 1 (count_row (from + at + 1) (id, seen counted) ∷ more) b
  row_awaits from a b rows at counted low is takes before =
      let it = split rows at (from + 1) counted low is in
      let done = rows_by count_cells (from + 1) (tagged id (map seen (take at rows))) in
      let number : from + 1 + at ≡ from + at + 1 = omega arith in
      let whole = subst (λ l. IsBefore 1 l a)
      (it.1 ∙ ap (λ k. done ++ count_row k (id, seen counted) ∷ it.0) number) before in
      (it.0, before_rest 1 done (count_row (from + at + 1) (id, seen counted) ∷ it.0) a b takes whole)

-- ---- rows that have the same number of clusters

-- after rows with fewer clusters than ys there is another
record HasNext (id at : ℕ) (xs ys : List Counted) (left : List Row) : Type 0 where
  pub row : Counted
  pub more : List Row
  pub left_is : left ≡ count_row (at + length xs) (id, row) ∷ more
  pub some : 1 ≤ row.1
  pub few : sum_of xs + row.1 ≤ sum_of ys

next_first : (id at : ℕ) (y : Counted) (ys : List Counted) (left more : List Row) → left ≡ count_row at (id, y) ∷ more
    → 1 ≤ y.1 → HasNext id at [] (y ∷ ys) left
next_first id at y ys left more is some =
    let whole = sum_by-cons (λ (row : Counted). row.1) y ys in
    let number : at ≡ at + 0 = omega arith in
    record {
      row = y;
      more = more;
      left_is = is ∙ ap (λ k. count_row k (id, y) ∷ more) number;
      some = some;
      few = omega (arith, whole);
    }

next_later : (id at : ℕ) (x y : Counted) (xs ys : List Counted) (left : List Row) → x.1 ≡ y.1
    → HasNext id (at + 1) xs ys left → HasNext id at (x ∷ xs) (y ∷ ys) left
next_later id at x y xs ys left same it =
    let whole_xs = sum_by-cons (λ (row : Counted). row.1) x xs in
    let whole_ys = sum_by-cons (λ (row : Counted). row.1) y ys in
    let number : at + 1 + length xs ≡ at + length (x ∷ xs) = omega arith in
    record {
      row = it.row;
      more = it.more;
      left_is = it.left_is ∙ ap (λ k. count_row k (id, it.row) ∷ it.more) number;
      some = it.some;
      few = omega (arith, it.few, whole_xs, whole_ys, same);
    }

next_of : (id at : ℕ) (xs ys : List Counted) (left rest : List Row) → rows_by count_cells at (tagged id xs) ++ left
    ≡ rows_by count_cells at (tagged id ys) ++ rest → AreSome ys → sum_of xs < sum_of ys → HasNext id at xs ys left
next_of id at [] [] left rest e some low = absurd (omega (arith, low))
next_of id at [] (y ∷ ys) left rest e some low =
    next_first id at y ys left (rows_by count_cells (at + 1) (tagged id ys) ++ rest) e some.0
next_of id at (x ∷ xs) [] left rest e some low = absurd (omega (arith, low))
next_of id at (x ∷ xs) (y ∷ ys) left rest e some low =
    let whole_xs = sum_by-cons (λ (row : Counted). row.1) x xs in
    let whole_ys = sum_by-cons (λ (row : Counted). row.1) y ys in
    let same : x.1 ≡ y.1 = cc in
    let rows : rows_by count_cells (at + 1) (tagged id xs) ++ left
    ≡ rows_by count_cells (at + 1) (tagged id ys) ++ rest = cc in
    next_later id at x y xs ys left same
    (next_of id (at + 1) xs ys left rest rows some.1 (omega (arith, whole_xs, whole_ys, same, low)))

-- the rows of later censuses have other numbers
other_id : (id k : ℕ) (r : Counted) (ts : List Tallied) (place at : ℕ) (more : List Row) → id < k
    → count_row at (id, r) ∷ more ≡ rows_by count_cells place (counts_from k ts) → ⊥
other_id id k r [] place at more later e = no_row (count_row at (id, r)) more e
other_id id k r (t ∷ ts) place at more later e =
    go t.tally.rows e (other_id id (k + 1) r ts place at more (omega (arith, later)))
  where
    go : (rs : List Counted) → count_row at (id, r) ∷ more
        ≡ rows_by count_cells place (tagged k rs ++ counts_from (k + 1) ts)
        → (count_row at (id, r) ∷ more ≡ rows_by count_cells place (counts_from (k + 1) ts) → ⊥) → ⊥
    go [] same other = other same
    go (x ∷ rs) same other =
        let number : id ≡ k = cc in
        omega (arith, later, number)

same_rows : (id at : ℕ) (xs ys : List Counted) (left : List Row) (place k : ℕ) (ts : List Tallied)
    → rows_by count_cells at (tagged id xs) ++ left
    ≡ rows_by count_cells at (tagged id ys) ++ rows_by count_cells place (counts_from k ts)
    → id < k → AreSome ys → sum_of xs ≡ sum_of ys → xs ≡ ys
same_rows id at [] [] left place k ts e later some same = refl
same_rows id at [] (y ∷ ys) left place k ts e later some same =
    let whole = sum_by-cons (λ (row : Counted). row.1) y ys in
    absurd (omega (arith, whole, same, some.0))
same_rows id at (x ∷ xs) [] left place k ts e later some same =
    absurd (other_id id k x ts place at (rows_by count_cells (at + 1) (tagged id xs) ++ left) later e)
same_rows id at (x ∷ xs) (y ∷ ys) left place k ts e later some same =
    let whole_xs = sum_by-cons (λ (row : Counted). row.1) x xs in
    let whole_ys = sum_by-cons (λ (row : Counted). row.1) y ys in
    let code : x.0 ≡ y.0 = cc in
    let count : x.1 ≡ y.1 = cc in
    let row : x ≡ y = ap₂ (λ (c : List ℕ) (n : ℕ). let it : Counted = (c, n) in it) code count in
    let rows : rows_by count_cells (at + 1) (tagged id xs) ++ left
    ≡ rows_by count_cells (at + 1) (tagged id ys) ++ rows_by count_cells place (counts_from k ts) = cc in
    ap₂ (λ (r : Counted) (rs : List Counted). r ∷ rs) row
    (same_rows id (at + 1) xs ys left place k ts rows later some.1 (omega (arith, whole_xs, whole_ys, count, same)))

-- the next row of a tally, while clusters are missing
pub record AwaitsCount (id taken at clusters : ℕ) (v : View) : Type 0 where
  pub row : Counted
  pub some : 1 ≤ row.1
  pub few : taken + row.1 ≤ clusters
  pub next : IsBefore 1 (count_row (at + 1) (id, row) ∷ []) v

count_next : (id taken before at clusters : ℕ) (rows : List Counted) (a b : View)
    → (so_far : TakesClusters id taken before at a b) → sum_of rows ≡ clusters
    → HasNext id (before + 1) so_far.rows rows so_far.takes.left → AwaitsCount id taken at clusters b
count_next id taken before at clusters rows a b so_far whole it =
    let number : before + 1 + length so_far.rows ≡ at + 1 = omega (arith, so_far.more_is) in
    record {
      row = it.row;
      some = it.some;
      few = omega (arith, it.few, so_far.are, whole);
      next = record {
        left = it.more;
        at = so_far.takes.at ∙ ap Some (it.left_is ∙ ap (λ k. count_row k (id, it.row) ∷ it.more) number);
      };
    }

pub count_awaits : (id taken before at clusters : ℕ) (rows : List Counted) (a b : View)
    → TakesClusters id taken before at a b → AreSome rows → sum_by (λ (row : Counted). row.1) rows ≡ clusters
    → IsBefore 1 (rows_by count_cells (before + 1) (tagged id rows)) a → taken < clusters
    → AwaitsCount id taken at clusters b
count_awaits id taken before at clusters rows a b so_far some whole awaits low =
    let e = some_is (rows_by count_cells (before + 1) (tagged id so_far.rows) ++ so_far.takes.left)
    (rows_by count_cells (before + 1) (tagged id rows) ++ awaits.left) (sym so_far.takes.was ∙ awaits.at) in
    count_next id taken before at clusters rows a b so_far whole (next_of id
    (before + 1) so_far.rows rows so_far.takes.left awaits.left e some (omega (arith, so_far.are, whole, low)))

-- the count of the row that was taken
pub count_taken : (id at place n : ℕ) (code : List ℕ) (r : Counted) (a b : View)
    → IsBefore 1 (count_row place (id, r) ∷ []) a → Takes 1 (count_row at (id, (code, n)) ∷ []) a b → n ≡ r.1
count_taken id at place n code r a b before takes =
    let same = row_taken 1 a b (count_row at (id, (code, n))) (count_row place (id, r)) [] before takes in
    count_is id at place n code r same
  where
    count_is : (id at place n : ℕ) (code : List ℕ) (r : Counted)
        → count_row at (id, (code, n)) ≡ count_row place (id, r) → n ≡ r.1
    count_is id at place n code r same = cc

-- ---- one census

module _ (ds : List Deposit) (id before : ℕ) (row : Row) (t : Tallied) (a : View)
    (it : AwaitsCensus ds id before row t a) (C : Census) (same : t.census ≡ C) where
  pub deposit_there : IsSome (numbered ds C.deposit)
  deposit_there = subst (λ (c : Census). IsSome (numbered ds c.deposit)) same it.good.there

  pub row_there : row ≡ census_row_of id C t.tally.total t.tally.unresolved
  row_there = it.row_is ∙ ap (λ (c : Census). census_row_of id c t.tally.total t.tally.unresolved) same

-- one whose tally and flag were counted
module _ (ds : List Deposit) (id before : ℕ) (row : Row) (t : Tallied) (a : View)
    (it : AwaitsCensus ds id before row t a) (C : Census) (same : t.census ≡ C) (d : Deposit)
    (T : TallyCounts) (s : Bool) (at : Some d ≡ numbered ds C.deposit) (tally : T ≡ tally_for C (Some d))
    (flag : s ≡ steady_for C (Some d)) where
  tally_is : t.tally ≡ T
  tally_is = ap (λ (x : Tallied). x.tally) it.good.is ∙ ap (tally_at ds) same ∙ ap (tally_for C) (sym at) ∙ sym tally

  flag_is : t.steady ≡ s
  flag_is = ap (λ (x : Tallied). x.steady) it.good.is ∙ ap (steady_at ds) same ∙ ap (steady_for C) (sym at) ∙ sym flag

  pub total_there : row ≡ census_row_of id C T.total T.unresolved
  total_there =
      row_there ds id before row t a it C same
      ∙ ap (λ (x : TallyCounts). census_row_of id C x.total x.unresolved) tally_is

  pub rows_there : {R : Type 0} (seen : R → Counted) (rs : List R) (b : View) → map seen rs ≡ T.rows
      → b ≡ a → IsBefore 1 (rows_by count_cells (before + 1) (tagged id (map seen rs))) b
  rows_there seen rs b rows still =
      let is : t.tally.rows ≡ map seen rs = ap (λ (x : TallyCounts). x.rows) tally_is ∙ sym rows in
      still_before 1 (rows_by count_cells (before + 1) (tagged id (map seen rs))) a b
      (ap (λ (v : View). v.cursors 1) still)
      (subst (λ (l : List Counted). IsBefore 1 (rows_by count_cells (before + 1) (tagged id l)) a) is it.counts)

  pub flag_there : (rows : List Row) (b c : View) → b ≡ a → Takes 1 rows b c → IsBefore 2 (flag_row_of id s ∷ []) c
  flag_there rows b c still takes =
      still_before 2 (flag_row_of id s ∷ []) a c (takes.others 2 refl ∙ ap (λ (v : View). v.cursors 2) still)
      (subst (λ (x : Bool). IsBefore 2 (flag_row_of id x ∷ []) a) flag_is it.flag)

-- one whose row alone was read
pub some_rows_there : (ds : List Deposit) (id before : ℕ) (row : Row) (t : Tallied) (a b : View)
    → AwaitsCensus ds id before row t a → b ≡ a
    → IsBefore 1 (rows_by count_cells (before + 1) (tagged id t.tally.rows)) b
some_rows_there ds id before row t a b it still =
    still_before 1 (rows_by count_cells (before + 1) (tagged id t.tally.rows)) a b
    (ap (λ (v : View). v.cursors 1) still) it.counts

pub some_flag_there : (ds : List Deposit) (id before : ℕ) (row : Row) (t : Tallied) (a b c : View) (rows : List Row)
    → AwaitsCensus ds id before row t a → b ≡ a → Takes 1 rows b c → IsBefore 2 (flag_row_of id t.steady ∷ []) c
some_flag_there ds id before row t a b c rows it still takes =
    still_before 2 (flag_row_of id t.steady ∷ []) a c
    (takes.others 2 refl ∙ ap (λ (v : View). v.cursors 2) still) it.flag

-- ---- the three tables

-- before the first rows
pub rest_begins : (ds : List Deposit) (a b c d : View) → b ≡ with_cursor a 0 (a.trees 3)
    → c ≡ with_cursor b 1 (b.trees 5) → d ≡ with_cursor c 2 (c.trees 7) → AreTallied a.trees ds → AwaitsRest ds 0 0 d
rest_begins ds a b c d first second third are =
    let trees_b : b.trees ≡ a.trees = ap (λ (v : View). v.trees) first in
    let trees_c : c.trees ≡ a.trees = ap (λ (v : View). v.trees) second ∙ trees_b in
    record {
      rest = are.censuses;
      good = are.good;
      at =
          ap (λ (v : View). v.cursors 0) third ∙ ap (λ (v : View). v.cursors 0) second
          ∙ ap (λ (v : View). v.cursors 0) first ∙ ap Some are.rows;
      at_counts =
          ap (λ (v : View). v.cursors 1) third ∙ ap (λ (v : View). v.cursors 1) second
          ∙ ap (λ (t : Trees). Some (t 5)) trees_b ∙ ap Some are.counts;
      at_flags = ap (λ (v : View). v.cursors 2) third ∙ ap (λ (t : Trees). Some (t 7)) trees_c ∙ ap Some are.flags;
    }

-- the row of the next census was read
pub record NextCensus (ds : List Deposit) (n read : ℕ) (row : Row) (v : View) : Type 0 where
  pub census : Tallied
  pub rest : List Tallied
  pub good : IsTallied ds census
  pub all : AllByRecursion (IsTallied ds) rest
  pub row_is : row ≡ census_row (n + 1) census
  pub at : v.cursors 0 ≡ Some (rows_by census_cells (n + 1 + 1) rest)
  pub at_counts : v.cursors 1 ≡ Some (rows_by count_cells (read + 1) (tagged (n + 1) census.tally.rows)
      ++ rows_by count_cells (read + 1 + length census.tally.rows) (counts_from (n + 1 + 1) rest))
  pub at_flags : v.cursors 2 ≡ Some (flag_row (n + 1) census ∷ rows_by flag_cells (n + 1 + 1) rest)

pub next_census : (ds : List Deposit) (n read : ℕ) (now then : View) (row : Row) → AwaitsRest ds n read now
    → Advances now then 0 row true → NextCensus ds n read row then
next_census ds n read now then row awaits goes = go awaits.rest awaits.good awaits.at awaits.at_counts awaits.at_flags
  where
    go : (rest : List Tallied) → AllByRecursion (IsTallied ds) rest
        → now.cursors 0 ≡ Some (rows_by census_cells (n + 1) rest)
        → now.cursors 1 ≡ Some (rows_by count_cells (read + 1) (counts_from (n + 1) rest))
        → now.cursors 2 ≡ Some (rows_by flag_cells (n + 1) rest) → NextCensus ds n read row then
    go [] all at at_counts at_flags = absurd (no_row row goes.0 (some_is _ _ (sym goes.1 ∙ at)))
    go (t ∷ ts) all at at_counts at_flags =
        let head : row ∷ goes.0 ≡ census_row (n + 1) t ∷ rows_by census_cells (n + 1 + 1) ts =
        some_is _ _ (sym goes.1 ∙ at) in
        let left : goes.0 ≡ rows_by census_cells (n + 1 + 1) ts = cc in
        let rows = tagged (n + 1) t.tally.rows in
        let more = counts_from (n + 1 + 1) ts in
        let counts : rows_by count_cells (read + 1) (rows ++ more)
        ≡ rows_by count_cells (read + 1) rows ++ rows_by count_cells (read + 1 + length t.tally.rows) more =
        rows_append count_cells (read + 1) rows more
        ∙ ap (λ k. rows_by count_cells (read + 1) rows ++ rows_by count_cells (read + 1 + k) more)
        (length_tagged (n + 1) t.tally.rows) in
        record {
          census = t;
          rest = ts;
          good = all.0;
          all = all.1;
          row_is = first_is row (census_row (n + 1) t) goes.0 (rows_by census_cells (n + 1 + 1) ts) head;
          at = ap (λ (v : View). v.cursors 0) goes.2 ∙ ap Some left;
          at_counts = ap (λ (v : View). v.cursors 1) goes.2 ∙ at_counts ∙ ap Some counts;
          at_flags = ap (λ (v : View). v.cursors 2) goes.2 ∙ at_flags;
        }

pub awaits_census : (ds : List Deposit) (n read : ℕ) (row : Row) (v : View) → (it : NextCensus ds n read row v)
    → AwaitsCensus ds (n + 1) read row it.census v
awaits_census ds n read row v it = record {
  good = it.good;
  row_is = it.row_is;
  counts = record {
    left = rows_by count_cells (read + 1 + length it.census.tally.rows) (counts_from (n + 1 + 1) it.rest);
    at = it.at_counts;
  };
  flag = record { left = rows_by flag_cells (n + 1 + 1) it.rest; at = it.at_flags };
}

-- one census more
pub awaits_more : (quick : Bool) (ds : List Deposit) (n read more : ℕ) (row : Row) (then last : View)
    → NextCensus ds n read row then → Follows quick ds (n + 1) read more row then last → AwaitsRest ds (n + 1) more last
awaits_more quick ds n read more row then last it follows =
    let t = it.census in
    let u = follows.census in
    let same : census_row (n + 1) u ≡ census_row (n + 1) t = sym follows.row_is ∙ it.row_is in
    let total : u.tally.total ≡ t.tally.total = cc in
    let unresolved : u.tally.unresolved ≡ t.tally.unresolved = cc in
    let done = rows_by count_cells (read + 1) (tagged (n + 1) t.tally.rows) in
    let rest = rows_by count_cells (read + 1 + length t.tally.rows) (counts_from (n + 1 + 1) it.rest) in
    let whole : rows_by count_cells (read + 1) (tagged (n + 1) u.tally.rows) ++ follows.counts.left ≡ done ++ rest =
    some_is _ _ (sym follows.counts.was ∙ it.at_counts) in
    let sums : sum_of u.tally.rows ≡ sum_of t.tally.rows =
    omega (arith, follows.good.adds_up, it.good.adds_up, total, unresolved) in
    let rows = same_rows (n + 1) (read + 1) u.tally.rows t.tally.rows follows.counts.left
    (read + 1 + length t.tally.rows) (n + 1 + 1) it.rest whole (omega arith) it.good.some sums in
    let left = cancel done follows.counts.left rest
    (ap (λ (l : List Counted). rows_by count_cells (read + 1) (tagged (n + 1) l) ++ follows.counts.left)
    (sym rows) ∙ whole) in
    let number : read + 1 + length t.tally.rows ≡ more + 1 = omega (arith, follows.more_is, ap length rows) in
    let flags : flag_row (n + 1) u ∷ follows.flag.left ≡ flag_row (n + 1) t ∷ rows_by flag_cells (n + 1 + 1) it.rest =
    some_is _ _ (sym follows.flag.was ∙ follows.counts.others 2 refl ∙ it.at_flags) in
    let left_flags : follows.flag.left ≡ rows_by flag_cells (n + 1 + 1) it.rest = cc in
    record {
      rest = it.rest;
      good = it.all;
      at = follows.flag.others 0 refl ∙ follows.counts.others 0 refl ∙ it.at;
      at_counts =
          follows.flag.others 1 refl ∙ follows.counts.at
          ∙ ap Some (left ∙ ap (λ k. rows_by count_cells k (counts_from (n + 1 + 1) it.rest)) number);
      at_flags = follows.flag.at ∙ ap Some left_flags;
    }

-- after the last census there is nothing
pub awaits_none : (ds : List Deposit) (n read : ℕ) (now then : View) (row : Row) → AwaitsRest ds n read now
    → Advances now then 0 row false → (then.cursors 1 ≡ Some []) × (then.cursors 2 ≡ Some [])
awaits_none ds n read now then row awaits goes = go awaits.rest awaits.at awaits.at_counts awaits.at_flags
  where
    go : (rest : List Tallied) → now.cursors 0 ≡ Some (rows_by census_cells (n + 1) rest)
        → now.cursors 1 ≡ Some (rows_by count_cells (read + 1) (counts_from (n + 1) rest))
        → now.cursors 2 ≡ Some (rows_by flag_cells (n + 1) rest)
        → (then.cursors 1 ≡ Some []) × (then.cursors 2 ≡ Some [])
    go [] at at_counts at_flags =
        (ap (λ (v : View). v.cursors 1) goes.1 ∙ at_counts, ap (λ (v : View). v.cursors 2) goes.1 ∙ at_flags)
    go (t ∷ ts) at at_counts at_flags =
        absurd (no_row (census_row (n + 1) t) (rows_by census_cells (n + 1 + 1) ts) (some_is _ _ (sym at ∙ goes.0)))

-- ---- which census is the first that is wrong

-- rows of tallies or flags are left after the last census
pub wrong_at_end : (quick : Bool) (ds : List Deposit) (n read : ℕ) (old now then : View) (row : Row)
    → HasCounted quick ds n read old now → Advances now then 0 row false
    → (then.cursors 1 ≡ Some [] → then.cursors 2 ≡ Some [] → ⊥)
    → IsFirstWrongCensus quick (old.trees 3) (old.trees 5) (old.trees 7) ds (n + 1)
wrong_at_end quick ds n read old now then row before goes some =
    let none : before.left ≡ [] = some_is _ _ (sym before.at ∙ goes.0) in
    record {
      before = before.done;
      number = ap (λ k. k + 1) (sym before.many);
      good = before.good;
      left = before.left;
      left_counts = before.left_counts;
      left_flags = before.left_flags;
      rows_are = before.rows;
      counts_are = before.counts;
      flags_are = before.flags;
      some =
          λ no_censuses no_counts no_flags.
          some (ap (λ (v : View). v.cursors 1) goes.1 ∙ before.at_counts ∙ ap Some no_counts)
          (ap (λ (v : View). v.cursors 2) goes.1 ∙ before.at_flags ∙ ap Some no_flags);
      bad =
          λ t good more more_counts more_flags is counts flags.
          no_row (census_row (n + 1) t) more (sym is ∙ none);
    }

-- the row is not followed by what belongs to its census
pub wrong_at_row : (quick : Bool) (ds : List Deposit) (n read : ℕ) (old now then : View) (row : Row)
    → HasCounted quick ds n read old now → Advances now then 0 row true
    → ((t : Tallied) → AwaitsCensus ds (n + 1) read row t then → ⊥)
    → IsFirstWrongCensus quick (old.trees 3) (old.trees 5) (old.trees 7) ds (n + 1)
wrong_at_row quick ds n read old now then row before goes bad =
    let one : before.left ≡ row ∷ goes.0 = some_is _ _ (sym before.at ∙ goes.1) in
    record {
      before = before.done;
      number = ap (λ k. k + 1) (sym before.many);
      good = before.good;
      left = before.left;
      left_counts = before.left_counts;
      left_flags = before.left_flags;
      rows_are = before.rows;
      counts_are = before.counts;
      flags_are = before.flags;
      some = λ none no_counts no_flags. no_row row goes.0 (sym one ∙ none);
      bad =
          λ t good more more_counts more_flags is counts flags.
          bad t (record {
            good = good;
            row_is = first_is row (census_row (n + 1) t) goes.0 more (sym one ∙ is);
            counts = record {
              left = more_counts;
              at =
                  ap (λ (v : View). v.cursors 1) goes.2 ∙ before.at_counts ∙ ap Some counts
                  ∙ ap (λ k. Some (rows_by count_cells (k + 1) (tagged (n + 1) t.tally.rows) ++ more_counts))
                  before.reads;
            };
            flag = record {
              left = more_flags;
              at = ap (λ (v : View). v.cursors 2) goes.2 ∙ before.at_flags ∙ ap Some flags;
            };
          });
    }
