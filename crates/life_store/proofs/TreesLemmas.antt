-- The trees of an archive that is given up for its store.
use Rattle.std.proofs.Common.{◌≡◌, ◌≤◌, ◌∙◌, Bool, true, false, refl, sym, ap, subst, arith}
use Rattle.std.specs.Prelude.{IsTrue, ◌&&◌}
use Rattle.sqlite_trees.specs.declared.store.Store.{Ghosts}
use Rattle.sqlite_trees.specs.Tree.{Trees}
use Rattle.sqlite_trees.specs.View.{doubt, IsClean, IsRolledBack}
use Rattle.sqlite_catalog.specs.Listing.{IsSound}
use Rattle.sqlite.specs.Effect.{Database}
use Rattle.sqlite.specs.State.{IsLive}
use Rattle.sqlite.specs.Held.{Held, state}
use Rattle.life_store.specs.Tables.{Tables, tables_of}
use Rattle.life_store.specs.TreesOf.{AreTreesOf}

sure : (b : Bool) → doubt b ≡ 0 → b ≡ true
unfolding doubt
sure true none = refl
sure false none = absurd cc

open_if : (is_open is_broken : Bool) → (is_open ≡ false → IsTrue is_broken) → is_broken ≡ false → is_open ≡ true
open_if true is_broken shut sound = refl
open_if false is_broken shut sound = absurd (let broken : is_broken ≡ true = shut refl in cc)

both : (a b : Bool) → a ≡ true → b ≡ true → IsTrue (a && b)
both true true p q = refl
both true false p q = absurd cc
both false b p q = absurd cc

pub given_up : {S : Type 0} (g : Ghosts S) (conn : Held S) (new : S) (t : Tables)
    → tables_of (state g conn) ≡ t → IsLive (state g conn) → conn.in_transaction ≡ false
    → (IsTrue (g.view conn.store).is_open → (state g conn).now ≡ (state g conn).committed)
    → IsRolledBack (g.view conn.store) (g.view new) → doubt (g.view conn.store).is_clean ≤ doubt (g.view new).is_clean
    → ((g.view new).is_open ≡ false → IsTrue (g.view new).is_broken)
    → IsClean (g.view new) → (g.view new).is_broken ≡ false → AreTreesOf t (g.view new).trees
given_up g conn new t tables live none settled undone clean shut now sound =
    let up : (g.view new).is_open ≡ true = open_if (g.view new).is_open (g.view new).is_broken shut sound in
    let was_up : IsTrue (g.view conn.store).is_open = (undone.kept now).was_open up in
    let was_clean : (g.view conn.store).is_clean ≡ true =
    sure (g.view conn.store).is_clean (omega (arith, clean, now)) in
    let same : (g.view conn.store).trees ≡ (g.view new).trees = ap (λ (db : Database). db.trees) (settled was_up)
    ∙ sym (undone.undone up).0 in
    subst (λ (x : Tables). AreTreesOf x (g.view new).trees) tables (record {
      healthy = both (g.view conn.store).is_clean (g.view conn.store).is_open was_clean was_up;
      committed = none;
      obeys = subst (IsSound conn.schema) same (live was_up).0;
      layout = ap (λ (trees : Trees). trees 0) same;
      deposits = ap (λ (trees : Trees). trees 1) same;
      censuses = ap (λ (trees : Trees). trees 3) same;
      census_rows = ap (λ (trees : Trees). trees 5) same;
      census_flags = ap (λ (trees : Trees). trees 7) same;
    })
