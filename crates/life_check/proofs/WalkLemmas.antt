-- A walk over the rows of a table, row by row.
use Rattle.std.proofs.Common.{◌≡◌, ◌∙◌, ℕ, ◌+◌, pos, List, [], ◌∷◌, ◌++◌, length, Bool, true, false, IsTrue, Some, refl}
use Rattle.std.proofs.Common.{sym, ap, subst, arith}
use Rattle.std.specs.List.{AllByRecursion}
use Rattle.sqlite_value.specs.Order.{Row}
use Rattle.sqlite_value.specs.declared.value.Value.TheVariants.{Int}
use Rattle.sqlite_value.specs.declared.keys.Order.{Order}
use Rattle.sqlite_trees.specs.declared.store.Store.{Ghosts}
use Rattle.sqlite_trees.specs.declared.store.Direction.TheVariants.{Forward}
use Rattle.sqlite_trees.specs.Tree.{sought, from_key}
use Rattle.sqlite_trees.specs.View.{View, with_cursor, Advances}
use Rattle.life_store.specs.Stored.{rows_by}
use Rattle.life_check.specs.ReadState.{IsReadUpTo, AreOf, AreNone, IsFirstWrong}
use Rattle.life_check.specs.WalkState.{IsCalm, KeepsTrees, HasWalked}

-- ---- where a walk begins

from_start : (o : Order) (es : List Row) → from_key o [] es ≡ es
from_start o [] = refl
from_start o (e ∷ es) = refl

pub placed_at_start : (v w : View) (cursor table : ℕ) (o : Order) (key : Row) → key ≡ []
    → w ≡ with_cursor v cursor (sought o Forward key (v.trees table)) → w ≡ with_cursor v cursor (v.trees table)
placed_at_start v w cursor table o key none is =
    is ∙ ap (λ k. with_cursor v cursor (sought o Forward k (v.trees table))) none
    ∙ ap (with_cursor v cursor) (from_start o (v.trees table))

-- ---- calm steps

pub calm_then : {S : Type 0} (g : Ghosts S) (a b c : S) → IsCalm g a b → IsCalm g b c → IsCalm g a c
calm_then g a b c before after = record {
  clean = omega (arith, before.clean, after.clean);
  outcomes = λ db h. before.outcomes db (after.outcomes db h);
  numbered = after.numbered ∙ before.numbered;
}

-- ---- the rows that are read

pub rows_push : {X : Type 0} (f : X → Row) (xs : List X) (from : ℕ) (x : X) (more : List Row)
    → rows_by f from xs ++ (Int (pos (from + length xs)) ∷ f x) ∷ more ≡ rows_by f from (xs ++ x ∷ []) ++ more
rows_push f [] from x more = ap (λ n. (Int (pos n) ∷ f x) ∷ more) (omega arith)
rows_push f (y ∷ xs) from x more =
    ap (λ rows. (Int (pos from) ∷ f y) ∷ rows)
    (ap (λ n. rows_by f (from + 1) xs ++ (Int (pos n) ∷ f x) ∷ more) (omega arith) ∙ rows_push f xs (from + 1) x more)

pub many_push : {X : Type 0} (xs : List X) (x : X) → length (xs ++ x ∷ []) ≡ length xs + 1
many_push [] x = refl
many_push (y ∷ xs) x = omega (arith, many_push xs x)

pub good_push : {X : Type 0} (P : X → Type 0) (xs : List X) (x : X) → AllByRecursion P xs → P x
    → AllByRecursion P (xs ++ x ∷ [])
good_push P [] x all here = (here, tt)
good_push P (y ∷ xs) x all here = (all.0, good_push P xs x all.1 here)

-- one row more
pub read_more : {X : Type 0} (f : X → Row) (P : X → Type 0) (n : ℕ) (rows more : List Row) (row : Row) (x : X)
    → IsReadUpTo f P n rows (row ∷ more) → P x → row ≡ Int (pos (n + 1)) ∷ f x → IsReadUpTo f P (n + 1) rows more
read_more f P n rows more row x before good is =
    let number : n + 1 ≡ 1 + length before.done = omega (arith, before.many) in
    record {
      done = before.done ++ x ∷ [];
      many = many_push before.done x ∙ ap (λ k. k + 1) before.many;
      good = good_push P before.done x before.good good;
      are =
          before.are ∙ ap (λ r. rows_by f 1 before.done ++ r ∷ more) (is ∙ ap (λ k. Int (pos k) ∷ f x) number)
          ∙ rows_push f before.done 1 x more;
    }

pub all_more : {X : Type 0} (P Q : X → Type 0) → ((x : X) → P x → Q x) → (xs : List X) → AllByRecursion P xs
    → AllByRecursion Q xs
all_more P Q more [] all = tt
all_more P Q more (x ∷ xs) all = (more x all.0, all_more P Q more xs all.1)

pub append_none : {A : Type 0} (xs : List A) → xs ++ [] ≡ xs
append_none [] = refl
append_none (x ∷ xs) = ap (λ all. x ∷ all) (append_none xs)

-- none is left
pub read_all : {X : Type 0} (f : X → Row) (P : X → Type 0) (n : ℕ) (rows : List Row) → IsReadUpTo f P n rows []
    → AreOf f P rows n
read_all f P n rows it = (it.done, it.are ∙ append_none (rows_by f 1 it.done), it.good, it.many)

-- the row after the first ones, if all are those of elements
at_place : {X : Type 0} (f : X → Row) (P : X → Type 0) (from : ℕ) (done xs : List X) (row : Row) (more : List Row)
    → rows_by f from done ++ row ∷ more ≡ rows_by f from xs → AllByRecursion P xs
    → (x : X) × P x × (row ≡ Int (pos (from + length done)) ∷ f x)
at_place f P from [] [] row more e all = absurd cc
at_place f P from [] (x ∷ xs) row more e all =
    let here : row ≡ Int (pos from) ∷ f x = cc in
    (x, all.0, here ∙ ap (λ n. Int (pos n) ∷ f x) (omega arith))
at_place f P from (d ∷ done) [] row more e all = absurd cc
at_place f P from (d ∷ done) (x ∷ xs) row more e all =
    let rest : rows_by f (from + 1) done ++ row ∷ more ≡ rows_by f (from + 1) xs = cc in
    let it = at_place f P (from + 1) done xs row more rest all.1 in
    (it.0, it.1, it.2 ∙ ap (λ n. Int (pos n) ∷ f it.0) (omega arith))

-- one that is not as it should be
pub read_none : {X : Type 0} (f : X → Row) (P Q : X → Type 0) (n : ℕ) (rows more : List Row) (row : Row)
    → IsReadUpTo f P n rows (row ∷ more) → ((x : X) × Q x × (row ≡ Int (pos (n + 1)) ∷ f x) → ⊥) → AreNone f Q rows
read_none f P Q n rows more row before bad xs is all =
    let it = at_place f Q 1 before.done xs row more (sym before.are ∙ is) all in
    let number : 1 + length before.done ≡ n + 1 = omega (arith, before.many) in
    bad (it.0, it.1, it.2 ∙ ap (λ k. Int (pos k) ∷ f it.0) number)

-- ---- the walk

-- before the first row
pub walk_begins : {X : Type 0} (f : X → Row) (P : X → Type 0) (cursor table : ℕ) (old now : View)
    → old.is_broken ≡ false → now ≡ with_cursor old cursor (old.trees table) → HasWalked f P cursor table 0 old now
walk_begins f P cursor table old now unbroken is = record {
  kept = record { trees = ap (λ (v : View). v.trees) is; unbroken = unbroken };
  left = old.trees table;
  at = ap (λ (v : View). v.cursors cursor) is ∙ here cursor (old.trees table) old;
  read = record { done = []; many = refl; good = tt; are = refl };
}
  where
    here : (cursor : ℕ) (rows : List Row) (v : View) → (with_cursor v cursor rows).cursors cursor ≡ Some rows
    here cursor rows v = grind arith

pub some_is : {X : Type 0} (a b : X) → Some a ≡ Some b → a ≡ b
some_is a b e = cc

-- the row that was read, after those before it
pub walk_row : {X : Type 0} (f : X → Row) (P : X → Type 0) (cursor table n : ℕ) (old now then : View) (row : Row)
    → HasWalked f P cursor table n old now → Advances now then cursor row true
    → KeepsTrees old then × (more : List Row) × (then.cursors cursor ≡ Some more)
    × IsReadUpTo f P n (old.trees table) (row ∷ more)
walk_row f P cursor table n old now then row before goes =
    let left : before.left ≡ row ∷ goes.0 = some_is _ _ (sym before.at ∙ goes.1) in (
      record { trees = ap (λ (v : View). v.trees) goes.2 ∙ before.kept.trees; unbroken = before.kept.unbroken },
      goes.0,
      ap (λ (v : View). v.cursors cursor) goes.2 ∙ here cursor goes.0 now,
      subst (IsReadUpTo f P n (old.trees table)) left before.read,
    )
  where
    here : (cursor : ℕ) (rows : List Row) (v : View) → (with_cursor v cursor rows).cursors cursor ≡ Some rows
    here cursor rows v = grind arith

pub no_both : (b : Bool) → IsTrue b → b ≡ false → ⊥
no_both b it other = cc

-- it is the next element's
pub walk_more : {X : Type 0} (f : X → Row) (P : X → Type 0) (cursor table n : ℕ) (old now then : View)
    (row : Row) (x : X) → HasWalked f P cursor table n old now → Advances now then cursor row true
    → P x → row ≡ Int (pos (n + 1)) ∷ f x → HasWalked f P cursor table (n + 1) old then
walk_more f P cursor table n old now then row x before goes good is =
    let it = walk_row f P cursor table n old now then row before goes in
    record { kept = it.0; left = it.1; at = it.2; read = read_more f P n (old.trees table) it.1 row x it.3 good is }

-- it is none's, and the first such row
pub walk_wrong : {X : Type 0} (f : X → Row) (P Q : X → Type 0) (cursor table n : ℕ) (old now then : View) (row : Row)
    → HasWalked f P cursor table n old now → Advances now then cursor row true
    → ((x : X) × Q x × (row ≡ Int (pos (n + 1)) ∷ f x) → ⊥)
    → AreNone f Q (old.trees table) × IsFirstWrong f P Q (old.trees table) (n + 1)
walk_wrong f P Q cursor table n old now then row before goes bad =
    let it = walk_row f P cursor table n old now then row before goes in (
      read_none f P Q n (old.trees table) it.1 row it.3 bad,
      record {
        before = n;
        number = refl;
        row = row;
        more = it.1;
        read = it.3;
        bad = λ x good is. bad (x, good, is);
      },
    )

-- there was no row
pub walk_ends : {X : Type 0} (f : X → Row) (P : X → Type 0) (cursor table n : ℕ) (old now then : View) (row : Row)
    → HasWalked f P cursor table n old now → Advances now then cursor row false
    → AreOf f P (old.trees table) n × KeepsTrees old then
walk_ends f P cursor table n old now then row before goes =
    let left : before.left ≡ [] = some_is _ _ (sym before.at ∙ goes.0) in (
      read_all f P n (old.trees table) (subst (IsReadUpTo f P n (old.trees table)) left before.read),
      record { trees = ap (λ (v : View). v.trees) goes.1 ∙ before.kept.trees; unbroken = before.kept.unbroken },
    )
