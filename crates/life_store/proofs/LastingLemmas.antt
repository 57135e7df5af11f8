-- A healthy database stays healthy unless its disk fails.
use Rattle.std.proofs.Common.{arith, ◌≡◌, ◌≤◌, ◌+◌, ◌-◌, ◌^◌, ◌⊎◌, inl, inr, ℕ, Bool, true, false, refl, sym, subst}
use Rattle.std.proofs.Common.{◌∙◌, min}
use Rattle.sqlite_trees.specs.Tree.{Trees}
use Rattle.sqlite_trees.specs.View.{doubt, IsClean}
use Rattle.sqlite.specs.State.{State, Survives}
use Rattle.sqlite_trees.specs.declared.store.Store.{Ghosts}
use Rattle.sqlite.specs.Held.{Held, state}
use Rattle.life_store.specs.Crash.{NothingNew}
use Rattle.life_store.specs.Tables.{Tables, ArchiveView, tables_of, StaysHealthy, IsTransition}
use Rattle.life_store.proofs.CrashLemmas.{crash_none, crash_both}
use Rattle.life_store.proofs.KeepLemmas.{healthy_is, healthy_from}

lasts_same : (old new : Tables) → new.faults ≡ old.faults → new.is_healthy ≡ old.is_healthy → StaysHealthy old new
unfolding StaysHealthy
lasts_same old new faults same = record { faults = omega (arith, faults); is_healthy = λ healthy. inl (same ∙ healthy) }

pub lasts_none : (t : Tables) → StaysHealthy t t
lasts_none t = lasts_same t t refl refl

more_later : (a b c top : ℕ) → min (a + 1) top ≤ b → b ≤ c → min (a + 1) top ≤ c
more_later a b c top more later = omega (arith, more, later)

more_before : (a b c top : ℕ) → a ≤ b → min (b + 1) top ≤ c → min (a + 1) top ≤ c
more_before a b c top later more = omega (arith, more, later)

pub lasts_then : (a b c : Tables) → StaysHealthy a b → StaysHealthy b c → StaysHealthy a c
unfolding StaysHealthy
lasts_then a b c first second = record {
  faults = omega (arith, first.faults, second.faults);
  is_healthy = λ healthy. elim (first.is_healthy healthy) [
    | inl still ↦ elim (second.is_healthy still) [
      | inl last ↦ inl last
      | inr more ↦ inr (more_before a.faults b.faults c.faults (2 ^ 64 - 1) first.faults more)
    ]
    | inr more ↦ inr (more_later a.faults b.faults c.faults (2 ^ 64 - 1) more second.faults)
  ];
}

clean_or_not : (b : Bool) → (doubt b ≡ 0) ⊎ (doubt b ≡ 1)
unfolding doubt
clean_or_not true = inl refl
clean_or_not false = inr refl

count_in_doubt : (a b m n top : ℕ) → a ≤ b → m ≡ 0 → n ≡ 1 → min (a + m + 1) top ≤ b + n
count_in_doubt a b m n top later was is = omega (arith, later, was, is)

count_clean : (a b m n top : ℕ) → min (a + 1) top ≤ b → m ≡ 0 → n ≡ 0 → min (a + m + 1) top ≤ b + n
count_clean a b m n top more was is = omega (arith, more, was, is)

pub lasts_by : (old new : State) (Commits : Trees → Type 0) → Survives old new Commits
    → StaysHealthy (tables_of old) (tables_of new)
unfolding StaysHealthy
lasts_by old new Commits it = record {
  faults = omega (arith, it.counts, it.clean);
  is_healthy = λ healthy.
      let was = healthy_is old healthy in
      elim (clean_or_not new.is_clean) [
        | inl clean ↦ elim (it.closes clean was.1) [
          | inl up ↦ inl (healthy_from new clean up)
          | inr more ↦
              inr (count_clean old.faults new.faults (doubt old.is_clean) (doubt new.is_clean)
              (2 ^ 64 - 1) more was.0 clean)
        ]
        | inr dirty ↦
            inr (count_in_doubt old.faults new.faults (doubt old.is_clean) (doubt new.is_clean)
            (2 ^ 64 - 1) it.counts was.0 dirty)
      ];
}

-- a transaction that begins
pub lasts_begun : {S : Type 0} (g : Ghosts S) (old new : Held S) → new ≡ record old { in_transaction = true }
    → StaysHealthy (tables_of (state g old)) (tables_of (state g new))
lasts_begun {S} g old new is =
    subst (λ (h : Held S). StaysHealthy (tables_of (state g old)) (tables_of (state g h))) (sym is)
    (lasts_same (tables_of (state g old)) (tables_of (state g (record old { in_transaction = true }))) refl refl)

pub goes_none : {S : Type 0} {g : Ghosts S} {Adds : Trees → Type 0} → (s : ArchiveView S) → IsTransition g Adds s s
goes_none s = record {
  was_healthy = λ healthy. healthy;
  lasts = lasts_none s.tables;
  capacity = refl;
  crash = crash_none s.store;
}

-- what two calls add is said of the tables before the first
pub goes_both : {S : Type 0} {g : Ghosts S} {First Last Adds : Trees → Type 0} (a b c : ArchiveView S)
    → ((db : Trees) → First db → Adds db) → (IsClean (g.view b.store) → (db : Trees) → Last db → Adds db)
    → IsTransition g First a b → IsTransition g Last b c → IsTransition g Adds a c
goes_both a b c one two first second = record {
  was_healthy = λ healthy. first.was_healthy (second.was_healthy healthy);
  lasts = lasts_then a.tables b.tables c.tables first.lasts second.lasts;
  capacity = second.capacity ∙ first.capacity;
  crash = crash_both a.store b.store c.store one two first.crash second.crash;
}

-- a call that adds nothing, and one that may add
pub goes_last : {S : Type 0} {g : Ghosts S} {Last Adds : Trees → Type 0} (a b c : ArchiveView S)
    → (IsClean (g.view b.store) → (db : Trees) → Last db → Adds db) → IsTransition g NothingNew a b
    → IsTransition g Last b c
    → IsTransition g Adds a c
goes_last a b c two first second = goes_both a b c (λ db none. absurd none) two first second

pub goes_then : {S : Type 0} {g : Ghosts S} {Adds : Trees → Type 0} (a b c : ArchiveView S)
    → IsTransition g NothingNew a b → IsTransition g Adds b c → IsTransition g Adds a c
goes_then a b c first second = goes_last a b c (λ clean db more. more) first second

-- what a call adds, said otherwise
pub goes_as : {S : Type 0} {g : Ghosts S} {Last Adds : Trees → Type 0} (a b : ArchiveView S)
    → (IsClean (g.view a.store) → (db : Trees) → Last db → Adds db) → IsTransition g Last a b → IsTransition g Adds a b
goes_as a b says it = goes_last a a b says (goes_none a) it

-- a call that adds nothing adds no more than another may
pub goes_more : {S : Type 0} {g : Ghosts S} {Adds : Trees → Type 0} (a b : ArchiveView S)
    → IsTransition g NothingNew a b
    → IsTransition g Adds a b
goes_more a b it = goes_as a b (λ clean db none. absurd none) it
