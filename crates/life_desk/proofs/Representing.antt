-- What stays true as an archive grows, and what its tables say.
use Rattle.std.proofs.Common.{◌≡◌, nat_lt, ℕ, zero, suc, List, [], ◌∷◌, ◌++◌, ◌+◌, length, Some, option_map, Result, Ok}
use Rattle.std.proofs.Common.{Err, IfOk, OnOk, OnErr, map, sum_by, IsTrue, IsSome, Bool, refl, sym, ◌∙◌, ap, subst}
use Rattle.std.specs.List.{slice_get, AllByRecursion}
use Rattle.std.proofs.lemmas.Option.{slice_get-map}
use Rattle.std.proofs.lemmas.List.Sums.{sum_by-cons}
use Rattle.life_core.specs.Rule.{RuleSets}
use Rattle.sqlite_trees.specs.declared.store.Store.{Ghosts}
use Rattle.sqlite_trees.specs.Tree.{Trees}
use Rattle.life_store.specs.declared.kept.Deposit.{Deposit}
use Rattle.life_store.specs.declared.kept.Census.{Census}
use Rattle.life_store.specs.Kept.{Tallied, numbered, share, total_of}
use Rattle.life_store.specs.Stored.{IsFiled}
use Rattle.life_store.specs.Crash.{NothingNew}
use Rattle.life_store.specs.Tables.{ArchiveView, IsHealthyIfClean, Holds, TreesHold, HoldChanged, IsTransition}
use Rattle.life_store.specs.Tables.{HoldsTheSame, AddsDeposit, AddsCensus}
use Rattle.life_desk.specs.Archive.{Archive, tally_at, tally_for, steady_at, steady_for, clusters_in, clusters_with}
use Rattle.life_census.specs.Rows.{TallyCounts}
use Rattle.life_desk.specs.Represents.{Represents, NewIsEmpty, EachHasDeposit, EachIsReadAgain, IsRepresentable}
use Rattle.life_desk.specs.Represents.{tallied, kept_of}
use Rattle.life_desk.proofs.Submissions.{all_push}
use Rattle.life_desk.specs.DeskState.{RepresentChanged, RepresentChangedIf}
use Rattle.life_desk.specs.LookupsState.{ForAllRepresented, RepresentsTheSame, LooksUp}

slice_get_longer : {X : Type 0} → (xs ys : List X) (i : ℕ) → IsSome (slice_get xs i)
    → slice_get (xs ++ ys) i ≡ slice_get xs i
slice_get_longer [] ys i some = cc
slice_get_longer (x ∷ xs) ys zero some = refl
slice_get_longer (x ∷ xs) ys (suc i) some = slice_get_longer xs ys i some

numbered_longer : {X : Type 0} → (xs ys : List X) (id : ℕ) → IsSome (numbered xs id)
    → numbered (xs ++ ys) id ≡ numbered xs id
numbered_longer xs ys zero some = refl
numbered_longer xs ys (suc i) some = slice_get_longer xs ys i some

pub each_longer : (ds : List Deposit) (d : Deposit) (cs : List Census) → EachHasDeposit ds cs
    → EachHasDeposit (ds ++ d ∷ []) cs
each_longer ds d [] each = tt
each_longer ds d (c ∷ cs) each =
    (subst (λ o. IsSome o) (sym (numbered_longer ds (d ∷ []) c.deposit each.0)) each.0, each_longer ds d cs each.1)

tallied_longer : (ds : List Deposit) (d : Deposit) (cs : List Census) → EachHasDeposit ds cs
    → map (tallied ds) cs ≡ map (tallied (ds ++ d ∷ [])) cs
tallied_longer ds d [] each = refl
tallied_longer ds d (c ∷ cs) each =
    let head : tallied ds c ≡ tallied (ds ++ d ∷ []) c = ap (λ o. record {
      census = c;
      tally = tally_for c o;
      steady = steady_for c o;
    }) (sym (numbered_longer ds (d ∷ []) c.deposit each.0)) in
    let rest : map (tallied ds) cs ≡ map (tallied (ds ++ d ∷ [])) cs = tallied_longer ds d cs each.1 in
    cc

-- what the tables hold, and how many they may
pub holds_of : {S : Type 0} (t : ArchiveView S) (A : Archive) → Represents t A → Holds t.tables (kept_of A)
unfolding Represents
holds_of t A m = m.holds

pub capacity_of : {S : Type 0} (t : ArchiveView S) (A : Archive) → Represents t A → t.capacity ≡ A.capacity
unfolding Represents
capacity_of t A m = m.capacity

pub each_of : {S : Type 0} (t : ArchiveView S) (A : Archive) → Represents t A → EachHasDeposit A.deposits A.censuses
unfolding Represents
each_of t A m = m.each

each_again : (ds : List Deposit) → AllByRecursion IsFiled ds → EachIsReadAgain ds
each_again [] filed = tt
each_again (d ∷ ds) filed = (filed.0.again, each_again ds filed.1)

pub representable_of : {S : Type 0} (t : ArchiveView S) (A : Archive) → Represents t A → IsRepresentable A
unfolding Represents
representable_of t A m = record { again = each_again A.deposits m.holds.filed; each = m.each }

-- nothing changed
pub represents_same : {S : Type 0} {g : Ghosts S} {More : Trees → Type 0} (old new : ArchiveView S) (A : Archive)
    → IsTransition g More old new → HoldsTheSame old.tables new.tables → IsTrue new.tables.is_healthy
    → Represents old A → Represents new A
unfolding Represents
represents_same old new A transition keeps healthy m =
    record { capacity = transition.capacity ∙ m.capacity; each = m.each; holds = keeps (kept_of A) healthy m.holds }

-- a call that looks, said of archives
pub looks_as : {S X E : Type 0} {g : Ghosts S} {Q : Archive → X → Type 0} (old new : ArchiveView S) (r : Result X E)
    → IsTransition g NothingNew old new → OnOk r (IsHealthyIfClean g new) → HoldsTheSame old.tables new.tables
    → ((A : Archive) → IsTrue new.tables.is_healthy → Holds old.tables (kept_of A) → IfOk r (Q A))
    → LooksUp g old new r Q
looks_as old new r transition healthy keeps value = record {
  transition = transition;
  healthy = healthy;
  same = λ A up m. represents_same old new A transition keeps up m;
  value = λ A up m. value A up (holds_of old A m);
}

-- one deposit more
pub represents_deposit : {S : Type 0} {g : Ghosts S} {More : Trees → Type 0} (old new : ArchiveView S)
    (A : Archive) (d : Deposit) → IsTransition g More old new → AddsDeposit old.tables new.tables d
    → IsTrue new.tables.is_healthy → Represents old A
    → Represents new (record A { deposits = A.deposits ++ d ∷ [] })
unfolding Represents
represents_deposit old new A d transition adds healthy m = record {
  capacity = transition.capacity ∙ m.capacity;
  each = each_longer A.deposits d A.censuses m.each;
  holds =
      subst (λ cs. Holds new.tables (record { deposits = A.deposits ++ d ∷ []; censuses = cs }))
      (tallied_longer A.deposits d A.censuses m.each) (adds (kept_of A) healthy m.holds);
}

tallied_push : (ds : List Deposit) (cs : List Census) (c : Census)
    → map (tallied ds) cs ++ tallied ds c ∷ [] ≡ map (tallied ds) (cs ++ c ∷ [])
tallied_push ds [] c = refl
tallied_push ds (x ∷ cs) c = ap (λ ts. tallied ds x ∷ ts) (tallied_push ds cs c)

-- one census more, with the tally and the flag of its own deposit
pub represents_census : {S : Type 0} {g : Ghosts S} {More : Trees → Type 0} (old new : ArchiveView S)
    (A : Archive) (c : Census) → IsTransition g More old new → AddsCensus old.tables new.tables (tallied A.deposits c)
    → IsSome (numbered A.deposits c.deposit)
    → IsTrue new.tables.is_healthy → Represents old A → Represents new (record A { censuses = A.censuses ++ c ∷ [] })
unfolding Represents
represents_census old new A c transition adds some healthy m = record {
  capacity = transition.capacity ∙ m.capacity;
  each = all_push (λ c. IsSome (numbered A.deposits c.deposit)) A.censuses c m.each some;
  holds =
      subst (λ cs. Holds new.tables (record { deposits = A.deposits; censuses = cs }))
      (tallied_push A.deposits A.censuses c) (adds (kept_of A) healthy m.holds);
}

-- the censuses without their tallies are those of the archive
pub censuses_back : (ds : List Deposit) (cs : List Census) → map (λ (t : Tallied). t.census) (map (tallied ds) cs) ≡ cs
censuses_back ds [] = refl
censuses_back ds (c ∷ cs) = ap (λ (rest : List Census). c ∷ rest) (censuses_back ds cs)

-- one census with its tally
pub numbered_tallied : (ds : List Deposit) (cs : List Census) (id : ℕ)
    → numbered (map (tallied ds) cs) id ≡ option_map (tallied ds) (numbered cs id)
numbered_tallied ds cs zero = refl
numbered_tallied ds cs (suc i) = slice_get-map (tallied ds) cs i

-- the sum over the tallies that are kept is that over the tallies computed anew
shares_of : (ds : List Deposit) (rule : RuleSets) (code : List ℕ) (cs : List Census)
    → sum_by (share ds rule code) (map (tallied ds) cs) ≡ sum_by (clusters_in ds rule code) cs
shares_of ds rule code [] = refl
shares_of ds rule code (c ∷ cs) =
    sum_by-cons (share ds rule code) (tallied ds c) (map (tallied ds) cs) ∙ ap (λ n. clusters_in ds rule code c + n)
    (shares_of ds rule code cs) ∙ sym (sum_by-cons (clusters_in ds rule code) c cs)

pub total_of-kept_of : (A : Archive) (rule : RuleSets) (code : List ℕ)
    → total_of (kept_of A) rule code ≡ clusters_with A rule code
total_of-kept_of A rule code = shares_of A.deposits rule code A.censuses

-- one census more, with the tally and the flag of the deposit that is there
pub represents_counted : {S : Type 0} {g : Ghosts S} {More : Trees → Type 0} (old new : ArchiveView S)
    (A : Archive) (c : Census) (t : TallyCounts) (b : Bool) (d : Deposit) → IsTransition g More old new
    → AddsCensus old.tables new.tables (record { census = c; tally = t; steady = b })
    → numbered A.deposits c.deposit ≡ Some d → t ≡ tally_for c (Some d) → b ≡ steady_for c (Some d)
    → IsTrue new.tables.is_healthy → Represents old A → Represents new (record A { censuses = A.censuses ++ c ∷ [] })
represents_counted old new A c t b d transition adds there is flag healthy m =
    let same : t ≡ tally_at A.deposits c = is ∙ ap (λ o. tally_for c o) (sym there) in
    let also : b ≡ steady_at A.deposits c = flag ∙ ap (λ o. steady_for c o) (sym there) in
    let counted =
    subst (λ x. AddsCensus old.tables new.tables (record { census = c; tally = x; steady = b })) same adds in
    let flagged = subst (λ x. AddsCensus old.tables new.tables (record {
      census = c;
      tally = tally_at A.deposits c;
      steady = x;
    })) also counted in
    represents_census old new A c transition flagged (subst (λ o. IsSome o) (sym there) refl) healthy m

-- whether there is room, of the numbers that are known
pub room_is : (n c m k : ℕ) (b : Bool) → n ≡ m → c ≡ k → b ≡ nat_lt n c → b ≡ nat_lt m k
room_is n c m k b e f is = is ∙ ap (λ x. nat_lt x c) e ∙ ap (λ x. nat_lt m x) f

-- the number of the censuses with their tallies
pub length_tallied : (ds : List Deposit) (cs : List Census) → length (map (tallied ds) cs) ≡ length cs
length_tallied ds [] = refl
length_tallied ds (c ∷ cs) = ap suc (length_tallied ds cs)

-- what a crash may leave of a deposit that is added
pub trees_deposit : {S : Type 0} (old : ArchiveView S) (d : Deposit) (db : Trees)
    → HoldChanged old.tables (λ k. record k { deposits = k.deposits ++ d ∷ [] }) db
    → RepresentChanged old (λ A. record A { deposits = A.deposits ++ d ∷ [] }) db
trees_deposit old d db h = (
  h.0,
  λ A m any. subst (λ cs. TreesHold db (record { deposits = A.deposits ++ d ∷ []; censuses = cs }))
      (tallied_longer A.deposits d A.censuses (each_of old A m)) (h.1 (kept_of A) (holds_of old A m)),
)

-- and of a census, with the tally and the flag of the deposit that is there
pub trees_census : {S : Type 0} (old : ArchiveView S) (c : Census) (t : TallyCounts) (b : Bool) (db : Trees)
    → HoldChanged old.tables (λ k. record k {
      censuses = k.censuses ++ record { census = c; tally = t; steady = b } ∷ [];
    }) db
    → (d : Deposit) → t ≡ tally_for c (Some d) → b ≡ steady_for c (Some d)
    → RepresentChangedIf old (λ A. numbered A.deposits c.deposit ≡ Some d)
    (λ A. record A { censuses = A.censuses ++ c ∷ [] }) db
trees_census old c t b db h d is flag = (
  h.0,
  λ A m there.
      let same : t ≡ tally_at A.deposits c = is ∙ ap (λ o. tally_for c o) (sym there) in
      let also : b ≡ steady_at A.deposits c = flag ∙ ap (λ o. steady_for c o) (sym there) in
      let held = h.1 (kept_of A) (holds_of old A m) in
      let counted = subst (λ x. TreesHold db (record {
        deposits = A.deposits;
        censuses = map (tallied A.deposits) A.censuses ++ record { census = c; tally = x; steady = b } ∷ [];
      })) same held in
      let flagged = subst (λ x. TreesHold db (record {
        deposits = A.deposits;
        censuses = map (tallied A.deposits) A.censuses ++ record {
          census = c;
          tally = tally_at A.deposits c;
          steady = x;
        } ∷ [];
      })) also counted in
      subst (λ cs. TreesHold db (record { deposits = A.deposits; censuses = cs }))
      (tallied_push A.deposits A.censuses c) flagged,
)

-- what an added deposit leaves
pub deposit_ok : {E S : Type 0} {g : Ghosts S} {More : Trees → Type 0} (old new : ArchiveView S)
    (d : Deposit) (r : Result ℕ E) → IsTransition g More old new → OnOk r (AddsDeposit old.tables new.tables d)
    → OnOk r (ForAllRepresented old new (λ A. Represents new (record A { deposits = A.deposits ++ d ∷ [] })))
deposit_ok old new d (Ok n) transition adds = λ A healthy m. represents_deposit old new A d transition adds healthy m
deposit_ok old new d (Err e) transition adds = tt

-- what an added census leaves
pub census_ok : {E S : Type 0} {g : Ghosts S} {More : Trees → Type 0} (old new : ArchiveView S)
    (c : Census) (t : TallyCounts) (b : Bool) (r : Result ℕ E) → IsTransition g More old new
    → OnOk r (AddsCensus old.tables new.tables (record { census = c; tally = t; steady = b }))
    → OnOk r (ForAllRepresented old new (λ A. (d : Deposit) → numbered A.deposits c.deposit ≡ Some d → t
    ≡ tally_for c (Some d) → b ≡ steady_for c (Some d) → Represents new (record A { censuses = A.censuses ++ c ∷ [] })))
census_ok old new c t b (Ok n) transition adds =
    λ A healthy m d there is flag. represents_counted old new A c t b d transition adds there is flag healthy m
census_ok old new c t b (Err e) transition adds = tt

-- what a call that gave up leaves
pub err_still : {E S : Type 0} {g : Ghosts S} {More : Trees → Type 0} (old new : ArchiveView S) (r : Result ℕ E)
    → IsTransition g More old new → OnErr r (HoldsTheSame old.tables new.tables) → OnErr r (RepresentsTheSame old new)
err_still old new (Ok n) transition keeps = tt
err_still old new (Err e) transition keeps = λ A healthy m. represents_same old new A transition keeps healthy m

pub new_is_empty : NewIsEmpty
new_is_empty t capacity holds = record { capacity = refl; each = tt; holds = holds }
