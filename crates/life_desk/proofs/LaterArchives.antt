-- Later archives: what has a number keeps it.
use Rattle.std.proofs.Common.{◌≡◌, ℕ, zero, suc, List, [], ◌∷◌, ◌++◌, None, Some, refl, sym, ◌∙◌, ap}
use Rattle.std.specs.List.{slice_get}
use Rattle.std.proofs.lemmas.List.{append_assoc, append-nil}
use Rattle.life_store.specs.declared.kept.Deposit.{Deposit}
use Rattle.life_store.specs.declared.kept.Census.{Census}
use Rattle.life_store.specs.Kept.{numbered}
use Rattle.life_desk.specs.Archive.{Archive}
use Rattle.life_desk.specs.Run.{IsLater}

-- ---- numbers

some_not_none : {X : Type 0} → (x : X) → None ≡ Some x → ⊥
some_not_none x e = cc

get_longer : {X : Type 0} → (xs ys : List X) (i : ℕ) (x : X) → slice_get xs i ≡ Some x → slice_get (xs ++ ys) i ≡ Some x
get_longer [] ys i x is = absurd (some_not_none x is)
get_longer (y ∷ xs) ys zero x is = is
get_longer (y ∷ xs) ys (suc i) x is = get_longer xs ys i x is

pub number_longer : {X : Type 0} → (xs ys : List X) (n : ℕ) (x : X) → numbered xs n ≡ Some x
    → numbered (xs ++ ys) n ≡ Some x
number_longer xs ys zero x is = absurd (some_not_none x is)
number_longer xs ys (suc i) x is = get_longer xs ys i x is

-- ---- later archives

pub later_same : (A : Archive) → IsLater A A
later_same A = record {
  new_deposits = [];
  deposits = sym (append-nil A.deposits);
  new_censuses = [];
  censuses = sym (append-nil A.censuses);
  capacity = refl;
}

pub later_later : (A B C : Archive) → IsLater A B → IsLater B C → IsLater A C
later_later A B C f g = record {
  new_deposits = f.new_deposits ++ g.new_deposits;
  deposits =
      g.deposits ∙ ap (λ (ds : List Deposit). ds ++ g.new_deposits) f.deposits
      ∙ append_assoc A.deposits f.new_deposits g.new_deposits;
  new_censuses = f.new_censuses ++ g.new_censuses;
  censuses =
      g.censuses ∙ ap (λ (cs : List Census). cs ++ g.new_censuses) f.censuses
      ∙ append_assoc A.censuses f.new_censuses g.new_censuses;
  capacity = g.capacity ∙ f.capacity;
}

pub deposit_stays : (A B : Archive) → IsLater A B → (n : ℕ) (d : Deposit) → numbered A.deposits n ≡ Some d
    → numbered B.deposits n ≡ Some d
deposit_stays A B later n d is =
    ap (λ (ds : List Deposit). numbered ds n) later.deposits ∙ number_longer A.deposits later.new_deposits n d is

pub census_stays : (A B : Archive) → IsLater A B → (n : ℕ) (c : Census) → numbered A.censuses n ≡ Some c
    → numbered B.censuses n ≡ Some c
census_stays A B later n c is =
    ap (λ (cs : List Census). numbered cs n) later.censuses ∙ number_longer A.censuses later.new_censuses n c is
