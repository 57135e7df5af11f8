-- The walk over censuses, the rows of their tallies, and their flags.
use Rattle.std.proofs.Common.{◌≡◌, ◌<◌, ◌≤◌, ◌∙◌, ℕ, zero, suc, ◌+◌, ◌==◌, pos, List, [], ◌∷◌, ◌++◌, length, map}
use Rattle.std.proofs.Common.{filter, take, slice_get, slice_index_or, Bool, true, false, Option, Some, None, Result}
use Rattle.std.proofs.Common.{Ok, Err, refl, sym, ap, ap₂, subst, arith}
use Rattle.std.specs.Prelude.{IsSome, IsTrue, IfOk}
use Rattle.std.specs.Ordering.{is_eq}
use Rattle.std.specs.List.{AllByRecursion}
use native.Mathlib.Numerals.{add-one}
use Rattle.std.proofs.lemmas.List.Sums.{sum_by_push}
use Rattle.sqlite_value.specs.Order.{Row}
use Rattle.sqlite_value.specs.declared.value.Value.TheVariants.{Int}
use Rattle.sqlite_value.proofs.OrderLemmas.{value_cmp-Int}
use Rattle.sqlite_trees.specs.Tree.{Trees, has_rowid}
use Rattle.sqlite_trees.specs.View.{View, with_cursor, Advances, Finds}
use Rattle.life_census.specs.Rows.{TallyCounts}
use Rattle.life_store.specs.declared.kept.Deposit.{Deposit}
use Rattle.life_store.specs.declared.kept.Census.{Census}
use Rattle.life_store.specs.Kept.{Tallied, numbered}
use Rattle.life_store.specs.Stored.{IsFiled, rows_by, deposit_cells, census_cells, count_cells, flag_cells, tagged}
use Rattle.life_store.specs.Stored.{counts_from}
use Rattle.life_store.specs.Tables.{HasOrder}
use Rattle.life_desk.specs.Archive.{AddsUp, tally_for, steady_for}
use Rattle.life_desk.specs.Represents.{tallied}
use Rattle.life_check.specs.ReadState.{count_row, census_row, census_row_of, flag_row, flag_row_of, IsValidCensus}
use Rattle.life_check.specs.CountState.{IsCounted, AreCounted, AreFiled, Takes, TakesClusters, HasCounted}
use Rattle.life_check.specs.CountState.{Follows}
use Rattle.life_check.proofs.WalkLemmas.{rows_push, append_none, many_push, good_push, some_is}

abbrev Counted : Type 0
Counted = List ℕ × ℕ

-- ---- what a cursor gives

pub append_assoc : {A : Type 0} (xs ys zs : List A) → (xs ++ ys) ++ zs ≡ xs ++ (ys ++ zs)
append_assoc [] ys zs = refl
append_assoc (x ∷ xs) ys zs = ap (λ all. x ∷ all) (append_assoc xs ys zs)

moved : (cursor : ℕ) (rows : List Row) (v : View) → (with_cursor v cursor rows).cursors cursor ≡ Some rows
moved cursor rows v = grind arith

unmoved : (cursor d : ℕ) (rows : List Row) (v : View) → (d == cursor) ≡ false
    → (with_cursor v cursor rows).cursors d ≡ v.cursors d
unmoved cursor d rows v other = rw other refl

pub takes_none : (cursor : ℕ) (v : View) → IsSome (v.cursors cursor) → Takes cursor [] v v
takes_none cursor v live = go (v.cursors cursor) refl live
  where
    go : (o : Option (List Row)) → v.cursors cursor ≡ o → IsSome o → Takes cursor [] v v
    go None is some = absurd cc
    go (Some left) is some = record { left = left; was = is; at = is; others = λ d other. refl; trees = refl }

pub takes_row : (cursor : ℕ) (old now : View) (row : Row) → Advances old now cursor row true
    → Takes cursor (row ∷ []) old now
takes_row cursor old now row goes = record {
  left = goes.0;
  was = goes.1;
  at = ap (λ (v : View). v.cursors cursor) goes.2 ∙ moved cursor goes.0 old;
  others = λ d other. ap (λ (v : View). v.cursors d) goes.2 ∙ unmoved cursor d goes.0 old other;
  trees = ap (λ (v : View). v.trees) goes.2;
}

pub takes_then : (cursor : ℕ) (xs ys : List Row) (a b c : View) → Takes cursor xs a b → Takes cursor ys b c
    → Takes cursor (xs ++ ys) a c
takes_then cursor xs ys a b c before after =
    let left : before.left ≡ ys ++ after.left = some_is _ _ (sym before.at ∙ after.was) in
    record {
      left = after.left;
      was = before.was ∙ ap (λ l. Some (xs ++ l)) left ∙ ap Some (sym (append_assoc xs ys after.left));
      at = after.at;
      others = λ d other. after.others d other ∙ before.others d other;
      trees = after.trees ∙ before.trees;
    }

-- ---- the rows of one tally

module _ {R : Type 0} (seen : R → Counted) (id from : ℕ) where
  step : (xs : List R) (n : ℕ) (row : R) → n < length xs → row ≡ slice_index_or xs n row
      → tagged id (map seen (take (suc n) xs)) ≡ tagged id (map seen (take n xs)) ++ (id, seen row) ∷ []
  step [] n row below e = absurd (omega (arith, below))
  step (x ∷ xs) zero row below e = ap (λ r. (id, seen r) ∷ []) (sym e)
  step (x ∷ xs) (suc n) row below e = ap (λ all. (id, seen x) ∷ all) (step xs n row (omega (arith, below)) e)

  tag_more : (rows : List R) (at : ℕ) (row : R) → at < length rows → row ≡ slice_index_or rows at row
      → tagged id (map seen (take (at + 1) rows)) ≡ tagged id (map seen (take at rows)) ++ (id, seen row) ∷ []
  tag_more rows at row low is =
      subst (λ k. tagged id (map seen (take k rows)) ≡ tagged id (map seen (take at rows)) ++ (id, seen row) ∷ [])
      (sym (add-one at)) (step rows at row low is)

  taken : (rows : List R) (n : ℕ) → n ≤ length rows → length (tagged id (map seen (take n rows))) ≡ n
  taken rows zero low = refl
  taken [] (suc n) low = absurd (omega (arith, low))
  taken (x ∷ rows) (suc n) low = omega (arith, taken rows n (omega (arith, low)))

  counts_more : (rows : List R) (at : ℕ) (row : R) → at < length rows → row ≡ slice_index_or rows at row
      → rows_by count_cells (from + 1) (tagged id (map seen (take at rows))) ++ count_row (from + at + 1) (id, seen row)
      ∷ [] ≡ rows_by count_cells (from + 1) (tagged id (map seen (take (at + 1) rows)))
  counts_more rows at row low is =
      let many = taken rows at (omega (arith, low)) in
      let number : from + at + 1 ≡ (from + 1) + length (tagged id (map seen (take at rows))) = omega (arith, many) in
      ap (λ n. rows_by count_cells (from + 1) (tagged id (map seen (take at rows))) ++ count_row n (id, seen row) ∷ [])
      number
      ∙ rows_push count_cells (tagged id (map seen (take at rows))) (from + 1) (id, seen row) []
      ∙ append_none (rows_by count_cells (from + 1) (tagged id (map seen (take at rows)) ++ (id, seen row) ∷ []))
      ∙ ap (rows_by count_cells (from + 1)) (sym (tag_more rows at row low is))

  -- one row more
  pub follow_more : (a b c : View) (rows : List R) (at : ℕ) (counted : R) (row : Row)
      → at < length rows → counted ≡ slice_index_or rows at counted
      → Takes 1 (rows_by count_cells (from + 1) (tagged id (map seen (take at rows)))) a b
      → Advances b c 1 row true → row ≡ count_row (from + at + 1) (id, seen counted)
      → Takes 1 (rows_by count_cells (from + 1) (tagged id (map seen (take (at + 1) rows)))) a c
  follow_more a b c rows at counted row low is before goes row_is =
      subst (λ all. Takes 1 all a c) (counts_more rows at counted low is)
      (takes_then 1 (rows_by count_cells (from + 1) (tagged id (map seen (take at rows)))) (count_row (from + at + 1)
      (id, seen counted) ∷ []) a b c before (subst (λ r. Takes 1 (r ∷ []) b c) row_is (takes_row 1 b c row goes)))

  whole : (xs : List R) (n : ℕ) → length xs ≤ n → take n xs ≡ xs
  whole [] zero low = refl
  whole [] (suc n) low = refl
  whole (x ∷ xs) zero low = absurd (omega (arith, low))
  whole (x ∷ xs) (suc n) low = ap (λ all. x ∷ all) (whole xs n (omega (arith, low)))

  pub follow_all : (a b : View) (rows : List R) (at : ℕ)
      → length rows ≤ at → Takes 1 (rows_by count_cells (from + 1) (tagged id (map seen (take at rows)))) a b
      → Takes 1 (rows_by count_cells (from + 1) (tagged id (map seen rows))) a b
  follow_all a b rows at done it =
      subst (λ all. Takes 1 (rows_by count_cells (from + 1) (tagged id (map seen all))) a b) (whole rows at done) it

-- ---- the row of a number

same_id : (a b : ℕ) (row : Row) → has_rowid (pos b) (Int (pos a) ∷ row) ≡ (a == b)
same_id a b row = ap is_eq (value_cmp-Int (pos a) (pos b)) ∙ grind arith

abbrev row_if : {X : Type 0} → (X → Row) → ℕ → Option X → List Row
row_if f n None = []
row_if f n (Some x) = (Int (pos n) ∷ f x) ∷ []

none_before : {X : Type 0} (f : X → Row) (n from : ℕ) (xs : List X) → n < from
    → filter (has_rowid (pos n)) (rows_by f from xs) ≡ []
none_before f n from [] below = refl
none_before f n from (x ∷ xs) below =
    let here : has_rowid (pos n) (Int (pos from) ∷ f x) ≡ false = same_id from n (f x) ∙ grind (arith, below) in
    rw here (none_before f n (from + 1) xs (omega (arith, below)))

at_number : {X : Type 0} (f : X → Row) (n from i : ℕ) (xs : List X) → n ≡ from + i
    → filter (has_rowid (pos n)) (rows_by f from xs) ≡ row_if f n (slice_get xs i)
at_number f n from i [] is = refl
at_number f n from zero (x ∷ xs) is =
    let same : from ≡ n = omega (arith, is) in
    let here : has_rowid (pos n) (Int (pos from) ∷ f x) ≡ true = same_id from n (f x) ∙ grind (arith, is) in
    let rest = none_before f n (from + 1) xs (omega (arith, is)) in
    rw here (ap₂ (λ k all. (Int (pos k) ∷ f x) ∷ all) same rest)
at_number f n from (suc i) (x ∷ xs) is =
    let here : has_rowid (pos n) (Int (pos from) ∷ f x) ≡ false = same_id from n (f x) ∙ grind (arith, is) in
    rw here (at_number f n (from + 1) i xs (omega (arith, is)))

of_number : {X : Type 0} (f : X → Row) (n : ℕ) (xs : List X)
    → filter (has_rowid (pos n)) (rows_by f 1 xs) ≡ row_if f n (numbered xs n)
of_number f zero xs = none_before f 0 1 xs (omega arith)
of_number f (suc i) xs = at_number f (suc i) 1 i xs (omega arith)

pub found_none : {X : Type 0} (f : X → Row) (n : ℕ) (rows : List Row) (row : Row) (xs : List X)
    → rows ≡ rows_by f 1 xs → Finds rows (pos n) row false → numbered xs n ≡ None
found_none {X} f n rows row xs are none =
    go (numbered xs n) (sym (of_number f n xs) ∙ ap (filter (has_rowid (pos n))) (sym are) ∙ none)
  where
    go : (o : Option X) → row_if f n o ≡ [] → o ≡ None
    go None e = refl
    go (Some x) e = absurd cc

pub found_row : {X : Type 0} (f : X → Row) (n : ℕ) (rows : List Row) (row : Row) (xs : List X) → rows ≡ rows_by f 1 xs
    → Finds rows (pos n) row true → (x : X) × (numbered xs n ≡ Some x) × (row ≡ Int (pos n) ∷ f x)
found_row {X} f n rows row xs are there =
    go (numbered xs n) refl (sym (of_number f n xs) ∙ ap (filter (has_rowid (pos n))) (sym are) ∙ there)
  where
    go : (o : Option X) → numbered xs n ≡ o → row_if f n o ≡ row ∷ []
        → (x : X) × (numbered xs n ≡ Some x) × (row ≡ Int (pos n) ∷ f x)
    go None is e = absurd cc
    go (Some x) is e = (x, is, let same : (Int (pos n) ∷ f x) ≡ row = cc in sym same)

all_at : {X : Type 0} (P : X → Type 0) (xs : List X) (i : ℕ) (x : X) → AllByRecursion P xs
    → slice_get xs i ≡ Some x → P x
all_at P [] i x all there = absurd cc
all_at P (y ∷ xs) zero x all there = let same : y ≡ x = cc in subst P same all.0
all_at P (y ∷ xs) (suc i) x all there = all_at P xs i x all.1 there

pub filed_at : (ds : List Deposit) (n : ℕ) (d : Deposit) → AllByRecursion IsFiled ds
    → numbered ds n ≡ Some d → IsFiled d
filed_at ds zero d all there = absurd cc
filed_at ds (suc i) d all there = all_at IsFiled ds i d all there

-- ---- the three tables

pub rows_append : {X : Type 0} (f : X → Row) (from : ℕ) (xs ys : List X)
    → rows_by f from (xs ++ ys) ≡ rows_by f from xs ++ rows_by f (from + length xs) ys
rows_append f from [] ys = ap (λ n. rows_by f n ys) (omega arith)
rows_append f from (x ∷ xs) ys =
    ap (λ rows. (Int (pos from) ∷ f x) ∷ rows)
    (rows_append f (from + 1) xs ys ∙ ap (λ n. rows_by f (from + 1) xs ++ rows_by f n ys) (omega arith))

counts_push : (from : ℕ) (ts : List Tallied) (t : Tallied)
    → counts_from from (ts ++ t ∷ []) ≡ counts_from from ts ++ tagged (from + length ts) t.tally.rows
counts_push from [] t = append_none (tagged from t.tally.rows) ∙ ap (λ n. tagged n t.tally.rows) (omega arith)
counts_push from (s ∷ ts) t =
    ap (λ more. tagged from s.tally.rows ++ more) (counts_push (from + 1) ts t)
    ∙ sym (append_assoc (tagged from s.tally.rows) (counts_from (from + 1) ts)
    (tagged (from + 1 + length ts) t.tally.rows))
    ∙ ap (λ n. (tagged from s.tally.rows ++ counts_from (from + 1) ts) ++ tagged n t.tally.rows) (omega arith)

length_append : {A : Type 0} (xs ys : List A) → length (xs ++ ys) ≡ length xs + length ys
length_append [] ys = omega arith
length_append (x ∷ xs) ys = omega (arith, length_append xs ys)

pub length_tagged : (id : ℕ) (rows : List Counted) → length (tagged id rows) ≡ length rows
length_tagged id [] = refl
length_tagged id (r ∷ rows) = omega (arith, length_tagged id rows)

pub counted_begins : (quick : Bool) (ds : List Deposit) (a b c d : View) → b ≡ with_cursor a 0 (a.trees 3)
    → c ≡ with_cursor b 1 (b.trees 5) → d ≡ with_cursor c 2 (c.trees 7) → HasCounted quick ds 0 0 a d
counted_begins quick ds a b c d first second third =
    let trees_b : b.trees ≡ a.trees = ap (λ (v : View). v.trees) first in
    let trees_c : c.trees ≡ a.trees = ap (λ (v : View). v.trees) second ∙ trees_b in
    record {
      trees = ap (λ (v : View). v.trees) third ∙ trees_c;
      done = [];
      many = refl;
      good = tt;
      reads = refl;
      left = a.trees 3;
      at =
          ap (λ (v : View). v.cursors 0) third ∙ ap (λ (v : View). v.cursors 0) second
          ∙ ap (λ (v : View). v.cursors 0) first;
      rows = refl;
      left_counts = a.trees 5;
      at_counts =
          ap (λ (v : View). v.cursors 1) third ∙ ap (λ (v : View). v.cursors 1) second
          ∙ ap (λ (t : Trees). Some (t 5)) trees_b;
      counts = refl;
      left_flags = a.trees 7;
      at_flags = ap (λ (v : View). v.cursors 2) third ∙ ap (λ (t : Trees). Some (t 7)) trees_c;
      flags = refl;
    }

-- one census more
pub counted_more : (quick : Bool) (ds : List Deposit) (n read more : ℕ) (old now then last : View) (row : Row)
    → HasCounted quick ds n read old now → Advances now then 0 row true
    → Follows quick ds (n + 1) read more row then last
    → HasCounted quick ds (n + 1) more old last
counted_more quick ds n read more old now then last row before goes it =
    let t = it.census in
    let number : n + 1 ≡ 1 + length before.done = omega (arith, before.many) in
    let left : before.left ≡ row ∷ goes.0 = some_is _ _ (sym before.at ∙ goes.1) in
    let left_counts : before.left_counts
    ≡ rows_by count_cells (read + 1) (tagged (n + 1) t.tally.rows) ++ it.counts.left =
    some_is _ _ (sym before.at_counts ∙ sym (ap (λ (v : View). v.cursors 1) goes.2) ∙ it.counts.was) in
    let left_flags : before.left_flags ≡ flag_row (n + 1) t ∷ it.flag.left =
    some_is _ _ (sym before.at_flags ∙ sym (ap (λ (v : View). v.cursors 2) goes.2) ∙ sym (it.counts.others 2 refl)
    ∙ it.flag.was) in
    let counts : counts_from 1 (before.done ++ t ∷ []) ≡ counts_from 1 before.done ++ tagged (n + 1) t.tally.rows =
    counts_push 1 before.done t ∙ ap (λ k. counts_from 1 before.done ++ tagged k t.tally.rows) (sym number) in
    let place : read + 1 ≡ 1 + length (counts_from 1 before.done) = omega (arith, before.reads) in
    record {
      trees = it.flag.trees ∙ it.counts.trees ∙ ap (λ (v : View). v.trees) goes.2 ∙ before.trees;
      done = before.done ++ t ∷ [];
      many = many_push before.done t ∙ ap (λ k. k + 1) before.many;
      good = good_push (IsCounted quick ds) before.done t before.good it.good;
      reads =
          ap length counts ∙ length_append (counts_from 1 before.done) (tagged (n + 1) t.tally.rows)
          ∙ ap₂ ◌+◌ before.reads (length_tagged (n + 1) t.tally.rows) ∙ sym it.more_is;
      left = goes.0;
      at = it.flag.others 0 refl ∙ it.counts.others 0 refl ∙ ap (λ (v : View). v.cursors 0) goes.2;
      rows =
          before.rows ∙ ap (λ l. rows_by census_cells 1 before.done ++ l) left
          ∙ ap (λ r. rows_by census_cells 1 before.done ++ r ∷ goes.0) (it.row_is ∙ ap (λ k. census_row k t) number)
          ∙ rows_push census_cells before.done 1 t goes.0;
      left_counts = it.counts.left;
      at_counts = it.flag.others 1 refl ∙ it.counts.at;
      counts =
          before.counts ∙ ap (λ l. rows_by count_cells 1 (counts_from 1 before.done) ++ l)
          (left_counts ∙ ap (λ k. rows_by count_cells k (tagged (n + 1) t.tally.rows) ++ it.counts.left) place)
          ∙ sym (append_assoc (rows_by count_cells 1 (counts_from 1 before.done))
          (rows_by count_cells (1 + length (counts_from 1 before.done)) (tagged (n + 1) t.tally.rows)) it.counts.left)
          ∙ ap (λ rows. rows ++ it.counts.left)
          (sym (rows_append count_cells 1 (counts_from 1 before.done) (tagged (n + 1) t.tally.rows)))
          ∙ ap (λ cs. rows_by count_cells 1 cs ++ it.counts.left) (sym counts);
      left_flags = it.flag.left;
      at_flags = it.flag.at;
      flags =
          before.flags ∙ ap (λ l. rows_by flag_cells 1 before.done ++ l) left_flags
          ∙ ap (λ k. rows_by flag_cells 1 before.done ++ flag_row k t ∷ it.flag.left) number
          ∙ rows_push flag_cells before.done 1 t it.flag.left;
    }

-- there is no other
pub counted_all : (quick : Bool) (ds : List Deposit) (n read : ℕ) (old now then : View) (row : Row)
    → HasCounted quick ds n read old now → Advances now then 0 row false → then.cursors 1 ≡ Some []
    → then.cursors 2 ≡ Some [] → AreCounted quick old.trees ds n
counted_all quick ds n read old now then row before goes no_counts no_flags =
    let left : before.left ≡ [] = some_is _ _ (sym before.at ∙ goes.0) in
    let left_counts : before.left_counts ≡ [] =
    some_is _ _ (sym before.at_counts ∙ sym (ap (λ (v : View). v.cursors 1) goes.1) ∙ no_counts) in
    let left_flags : before.left_flags ≡ [] =
    some_is _ _ (sym before.at_flags ∙ sym (ap (λ (v : View). v.cursors 2) goes.1) ∙ no_flags) in
    record {
      censuses = before.done;
      many = before.many;
      good = before.good;
      rows =
          before.rows ∙ ap (λ l. rows_by census_cells 1 before.done ++ l) left
          ∙ append_none (rows_by census_cells 1 before.done);
      counts =
          before.counts ∙ ap (λ l. rows_by count_cells 1 (counts_from 1 before.done) ++ l) left_counts
          ∙ append_none (rows_by count_cells 1 (counts_from 1 before.done));
      flags =
          before.flags ∙ ap (λ l. rows_by flag_cells 1 before.done ++ l) left_flags
          ∙ append_none (rows_by flag_cells 1 before.done);
    }

-- ---- a census that is not counted

tagged_push : (id : ℕ) (rows : List Counted) (r : Counted) → tagged id (rows ++ r ∷ []) ≡ tagged id rows ++ (id, r) ∷ []
tagged_push id [] r = refl
tagged_push id (x ∷ rows) r = ap (λ all. (id, x) ∷ all) (tagged_push id rows r)

pub clusters_none : (id before : ℕ) (v : View) → IsSome (v.cursors 1) → TakesClusters id 0 before before v v
clusters_none id before v live = record { rows = []; are = refl; more_is = omega arith; takes = takes_none 1 v live }

-- one row of a tally more
pub clusters_more : (id taken before at n : ℕ) (code : List ℕ) (a b c : View) → TakesClusters id taken before at a b
    → Takes 1 (count_row (at + 1) (id, (code, n)) ∷ []) b c → TakesClusters id (taken + n) before (at + 1) a c
clusters_more id taken before at n code a b c so_far one =
    let rows = so_far.rows in
    let number : at + 1 ≡ (before + 1) + length (tagged id rows) =
    omega (arith, so_far.more_is, length_tagged id rows) in
    let all : rows_by count_cells (before + 1) (tagged id rows) ++ count_row (at + 1) (id, (code, n)) ∷ []
    ≡ rows_by count_cells (before + 1) (tagged id (rows ++ (code, n) ∷ [])) =
    ap (λ k. rows_by count_cells (before + 1) (tagged id rows) ++ count_row k (id, (code, n)) ∷ []) number
    ∙ rows_push count_cells (tagged id rows) (before + 1) (id, (code, n)) []
    ∙ append_none (rows_by count_cells (before + 1) (tagged id rows ++ (id, (code, n)) ∷ []))
    ∙ ap (rows_by count_cells (before + 1)) (sym (tagged_push id rows (code, n))) in
    record {
      rows = rows ++ (code, n) ∷ [];
      are = sum_by_push (λ (row : Counted). row.1) rows (code, n) ∙ ap (λ k. k + n) so_far.are;
      more_is = omega (arith, so_far.more_is, many_push rows (code, n));
      takes =
          subst (λ l. Takes 1 l a c) all (takes_then 1 (rows_by count_cells (before + 1) (tagged id rows))
          (count_row (at + 1) (id, (code, n)) ∷ []) a b c so_far.takes one);
    }

some_of : {X : Type 0} (o : Option X) → IsSome o → (x : X) × (o ≡ Some x)
some_of None there = absurd cc
some_of (Some x) there = (x, refl)

-- a census that has some tally and some flag, whose row, rows and flag were met
pub follows_uncounted : (ds : List Deposit) (id before more : ℕ) (row : Row) (a b m z : View)
    (C : Census) (total unresolved clusters : ℕ) (s : Bool) → IsValidCensus C → IsSome (numbered ds C.deposit)
    → clusters + unresolved ≡ total
    → row ≡ census_row_of id C total unresolved → b ≡ a → TakesClusters id clusters before more b m
    → Takes 2 (flag_row_of id s ∷ []) m z → Follows true ds id before more row a z
follows_uncounted ds id before more row a b m z C total unresolved clusters s askable there
    whole row_is same taken last =
    let t : Tallied = record {
      census = C;
      tally = record { rows = taken.rows; unresolved = unresolved; total = total };
      steady = s;
    } in
    let found = some_of (numbered ds C.deposit) there in
    let is_quick : true ≡ false → ⊥ = λ e. cc in
    record {
      census = t;
      good = record {
        askable = askable;
        deposit = found.0;
        there = found.1;
        adds_up = ap (λ n. n + unresolved) taken.are ∙ whole;
        is = λ e. absurd (is_quick e);
        ordered = λ e. absurd (is_quick e);
      };
      row_is = row_is;
      more_is = taken.more_is;
      middle = m;
      counts =
          subst (λ (v : View). Takes 1 (rows_by count_cells (before + 1) (tagged id taken.rows)) v m) same taken.takes;
      flag = last;
    }

no_truth : IsTrue false → ⊥
no_truth it = cc

-- a deposit that was found is there
pub there_if : {E P : Type 0} (trees : Trees) (id : ℕ) (r : Result Bool E) (row : Row)
    → P → IfOk r (λ found. P → Finds (trees 1) (pos id) row found)
    → IfOk r (λ b. IsTrue b → (ds : List Deposit) → AreFiled trees ds → IsSome (numbered ds id))
there_if trees id (Ok true) row here finds =
    λ it_is ds filed. let it = found_row deposit_cells id (trees 1) row ds filed.0 (finds here) in
    subst IsSome (sym it.1) refl
there_if trees id (Ok false) row here finds = λ it_is ds filed. absurd (no_truth it_is)
there_if trees id (Err e) row here finds = tt

pub none_is_not_some : {X : Type 0} (o : Option X) → o ≡ None → IsSome o → ⊥
none_is_not_some None none some = cc
none_is_not_some (Some x) none some = cc

-- a deposit that was not found is not there
pub gone_if : {E P : Type 0} (trees : Trees) (id : ℕ) (r : Result Bool E) (row : Row)
    → P → IfOk r (λ found. P → Finds (trees 1) (pos id) row found)
    → IfOk r (λ b. b ≡ false → (ds : List Deposit) → AreFiled trees ds → IsSome (numbered ds id) → ⊥)
gone_if trees id (Ok true) row here finds = λ is ds filed some. absurd (no_truth (subst IsTrue is refl))
gone_if trees id (Ok false) row here finds =
    λ is ds filed some. none_is_not_some (numbered ds id)
    (found_none deposit_cells id (trees 1) row ds filed.0 (finds here)) some
gone_if trees id (Err e) row here finds = tt

-- what is so for each list of deposits is so of the answer
pub each_ok : {E : Type 0} (trees : Trees) (id : ℕ) (r : Result (Option Deposit) E)
    → ((ds : List Deposit) → AreFiled trees ds → IfOk r (λ o. o ≡ numbered ds id))
    → IfOk r (λ o. (ds : List Deposit) → AreFiled trees ds → o ≡ numbered ds id)
each_ok trees id (Ok o) tells = λ ds filed. tells ds filed
each_ok trees id (Err e) tells = tt

length_mapped : {A B : Type 0} (f : A → B) (xs : List A) → length (map f xs) ≡ length xs
length_mapped f [] = refl
length_mapped f (x ∷ xs) = omega (arith, length_mapped f xs)

-- a census that was counted anew, whose row, rows and flag were met
pub follows : {R : Type 0} (seen : R → Counted) (ds : List Deposit) (id before more : ℕ) (row : Row)
    (a b m z : View) (C : Census) (d : Deposit) (T : TallyCounts) (s : Bool) (rs : List R)
    → IsValidCensus C → Some d ≡ numbered ds C.deposit → T ≡ tally_for C (Some d) → s ≡ steady_for C (Some d)
    → HasOrder T → AddsUp T → row ≡ census_row_of id C T.total T.unresolved → b ≡ a → map seen rs ≡ T.rows
    → (more ≡ before + length rs) × Takes 1 (rows_by count_cells (before + 1) (tagged id (map seen rs))) b m
    → Takes 2 (flag_row_of id s ∷ []) m z → Follows false ds id before more row a z
follows seen ds id before more row a b m z C d T s rs askable there tally flag ordered adds_up
    row_is same rows taken last =
    let t : Tallied = record { census = C; tally = T; steady = s } in
    let counted : t ≡ tallied ds C = ap₂ (λ (x : TallyCounts) (y : Bool). let it : Tallied = record {
      census = C;
      tally = x;
      steady = y;
    } in it) (tally ∙ ap (tally_for C) there) (flag ∙ ap (steady_for C) there) in
    record {
      census = t;
      good = record {
        askable = askable;
        deposit = d;
        there = sym there;
        adds_up = adds_up;
        is = λ whole. counted;
        ordered = λ whole. ordered;
      };
      row_is = row_is;
      more_is = taken.0 ∙ ap (λ n. before + n) (sym (length_mapped seen rs) ∙ ap length rows);
      middle = m;
      counts =
          subst (λ (all : List Counted). Takes 1 (rows_by count_cells (before + 1) (tagged id all)) a m) rows
          (subst (λ (v : View). Takes 1 (rows_by count_cells (before + 1) (tagged id (map seen rs))) v m) same taken.1);
      flag = last;
    }

-- the trees are still those of these deposits
pub filed_then : (quick : Bool) (ds : List Deposit) (n read : ℕ) (old now then : View) (row : Row)
    → HasCounted quick ds n read old now → Advances now then 0 row true → AreFiled old.trees ds → AreFiled then.trees ds
filed_then quick ds n read old now then row before goes filed =
    subst (λ (trees : Trees). AreFiled trees ds) (sym (ap (λ (v : View). v.trees) goes.2 ∙ before.trees)) filed
